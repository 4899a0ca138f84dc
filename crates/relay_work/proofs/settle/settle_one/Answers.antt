-- One connection is told.
use Rattle.relay_work.proofs.Settled.{settles_closed, settles_held, settles_reading}
use Rattle.std.proofs.Common.{ap, sym}
use Rattle.std.specs.Prelude.{Bool, not}
use Rattle.relay_work.proofs.settle.settle_one.Goals as goal

pub returns-then-reads-clause-settles : goal.returns-then-reads-clause-settles
returns-then-reads-clause-settles g c = settles_reading _ _ _ _ _ c.reads.ensures c.if-reads.true c.hold.ensures.holds

pub returns-then-closing-clause-settles : goal.returns-then-closing-clause-settles
returns-then-closing-clause-settles g c = settles_closed _ _ _ _ _ c.closing.ensures c.if-closing.true c.close.ensures.closes

pub returns-else-closing-clause-settles : goal.returns-else-closing-clause-settles
returns-else-closing-clause-settles g c = settles_held _ _ _ _ _ _ _ c.closing.ensures c.if-closing.false c.reads.ensures (sym (ap (λ (b : Bool). not b) c.if-reads.false)) c.hold-else-closing.ensures.holds
