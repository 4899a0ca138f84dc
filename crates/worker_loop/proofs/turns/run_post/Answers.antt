-- A post is carried out.
use Rattle.worker_loop.proofs.Carrying.{post_is}
use Rattle.worker_loop.proofs.turns.run_post.Goals as goal

pub carry_out-requires-clause-core : goal.carry_out-requires-clause-core
carry_out-requires-clause-core g c = c.requires.core

pub carry_out-requires-clause-event : goal.carry_out-requires-clause-event
carry_out-requires-clause-event g c = post_is c.args.names.now c.args.post.now c.requires.post

pub carry_out-requires-clause-holds : goal.carry_out-requires-clause-holds
carry_out-requires-clause-holds g c = c.requires.holds

pub returns-clause-carries : goal.returns-clause-carries
returns-clause-carries g c = c.carry_out.ensures.carries

pub returns-clause-keeps : goal.returns-clause-keeps
returns-clause-keeps g c = c.carry_out.ensures.keeps

pub returns-clause-rises : goal.returns-clause-rises
returns-clause-rises g c = c.carry_out.ensures.rises
