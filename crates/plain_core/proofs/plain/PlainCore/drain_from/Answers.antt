-- A drain that begins with a frame keeps what the core stands for.
use Rattle.plain_core.proofs.StepFrame.{drain_from_cuts, drain_from_keeps, drain_from_less, drain_is_good}
use Rattle.plain_core.proofs.plain.PlainCore.drain_from.Goals as goal

pub frame-requires-clause-good : goal.frame-requires-clause-good
frame-requires-clause-good c = drain_is_good c.args.self.now c.push.new.self c.args.next c.args.notes.now c.in_ok-push.ensures.ok c.requires.next c.requires.good

pub returns-clause-ok : goal.returns-clause-ok
returns-clause-ok c =
    drain_from_keeps c.args.self.now c.frame.new.self c.push.new.self c.args.next c.args.notes.now c.frame.new.notes c.frame.result c.in_ok-push.ensures.ok c.requires.next c.frame.ensures.ok

pub returns-clause-cut : goal.returns-clause-cut
returns-clause-cut c = drain_from_cuts c.args.self.now c.push.new.self c.args.next c.args.notes.now c.frame.new.notes c.in_ok-push.ensures.ok c.requires.next c.frame.ensures.cut

pub returns-clause-less : goal.returns-clause-less
returns-clause-less c = drain_from_less c.args.self.now c.frame.new.self c.push.new.self c.frame.result c.in_ok-push.ensures.ok c.frame.ensures.less
