use Rattle.h2_session.proofs.Heads.{continuation_result}
use Rattle.h2_session.proofs.session.Session.take_continuation.Goals as goal

pub returns-then-end_headers-clause-takes : goal.returns-then-end_headers-clause-takes
returns-then-end_headers-clause-takes c =
    continuation_result c.finish_block.result c.finish_block.new.into c.args.self.now c.finish_block.new.self c.args.stream c.args.end_headers c.args.block.now c.if-end_headers.true c.finish_block.ensures.ends
