-- The connection that a passage names, if it names one.
use Rattle.flow_notes.specs.Passages.{notes_of_passage}
use Rattle.shared_state.specs.PermitSeats.{view}
use Rattle.std.proofs.Common.{ap, arith, refl, ◌∙◌}
use Rattle.worker_loop.proofs.Keeping.{keeps_same}
use Rattle.worker_loop.proofs.Closing.{ends_none, ends_one}
use Rattle.worker_loop.specs.Clauses.{numbers_in}
use Rattle.worker_loop.proofs.settling.settle_passage.Goals as goal

pub end_done-requires : goal.end_done-requires
end_done-requires g c = c.requires

pub returns-in-Some-clause-ends : goal.returns-in-Some-clause-ends
returns-in-Some-clause-ends g c =
    ends_one c.args.core.now.kind c.in-Some.conn (notes_of_passage c.args.passage) (g.W.Wires.seen c.args.wires.now) (g.W.Wires.seen c.end_done.new.wires) c.args.held.now c.end_done.new.held (view c.args.seat.now) (view c.end_done.new.seat)
    (c.named_by.ensures ∙ ap numbers_in c.in-Some.is) c.end_done.ensures.ends

pub returns-in-Some-clause-keeps : goal.returns-in-Some-clause-keeps
returns-in-Some-clause-keeps g c = c.end_done.ensures.keeps

pub returns-in-Some-clause-no_fall : goal.returns-in-Some-clause-no_fall
returns-in-Some-clause-no_fall g c = c.end_done.ensures.no_fall

pub returns-in_default-clause-ends : goal.returns-in_default-clause-ends
returns-in_default-clause-ends g c =
    ends_none c.args.core.now.kind (notes_of_passage c.args.passage) (g.W.Wires.seen c.args.wires.now) c.args.held.now (view c.args.seat.now) (c.named_by.ensures ∙ ap numbers_in c.in_default.is)

pub returns-in_default-clause-keeps : goal.returns-in_default-clause-keeps
returns-in_default-clause-keeps g c = keeps_same c.args.permits.now (g.W.Wires.seen c.args.wires.now) (g.W.Wires.seen c.args.wires.now) c.args.held.now c.args.seat.now c.requires refl

pub returns-in_default-clause-no_fall : goal.returns-in_default-clause-no_fall
returns-in_default-clause-no_fall g c = omega arith
