-- Passage after passage is settled.
use Rattle.flow_notes.specs.Passages.{notes_of_passage}
use Rattle.shared_state.specs.PermitSeats.{view}
use Rattle.std.proofs.Common.{arith, refl}
use Rattle.worker_loop.proofs.Keeping.{keeps_more, keeps_same}
use Rattle.worker_loop.proofs.Closing.{all_settled, more_settled, none_settled}
use Rattle.worker_loop.proofs.settling.settle.Goals as goal

pub loop-passage-init : goal.loop-passage-init
loop-passage-init g c = record {
  ends = none_settled c.args.core.now.kind c.args.notes.now _ _ (g.W.Wires.seen c.args.wires.now) c.args.held.now (view c.args.seat.now) c.into_iter-passage-iterator.ensures.into_iter_gives c.passages-passage-items.ensures.notes;
  keeps = keeps_same c.args.permits.now (g.W.Wires.seen c.args.wires.now) (g.W.Wires.seen c.args.wires.now) c.args.held.now c.args.seat.now c.requires refl;
  no_fall = omega arith;
}

pub settle_passage-requires : goal.settle_passage-requires
settle_passage-requires g c = c.loop-passage.invariant.keeps.holds

pub loop-passage-preserved : goal.loop-passage-preserved
loop-passage-preserved g c = record {
  ends = more_settled c.args.core.now.kind c.args.notes.now _ _ _ (g.W.Wires.seen c.args.wires.now) (g.W.Wires.seen c.loop-passage.wires) (g.W.Wires.seen c.settle_passage.new.wires) c.args.held.now c.loop-passage.held c.settle_passage.new.held
      (view c.args.seat.now) (view c.loop-passage.seat) (view c.settle_passage.new.seat) c.in-Some.ensures.steps c.loop-passage.invariant.ends c.settle_passage.ensures.ends;
  keeps = keeps_more c.args.permits.now (g.W.Wires.seen c.args.wires.now) (g.W.Wires.seen c.loop-passage.wires) (g.W.Wires.seen c.settle_passage.new.wires) c.args.held.now c.loop-passage.held c.settle_passage.new.held
      (view c.args.seat.now) c.loop-passage.seat c.settle_passage.new.seat c.loop-passage.invariant.keeps c.settle_passage.ensures.keeps;
  no_fall = omega (arith, c.loop-passage.invariant.no_fall, c.settle_passage.ensures.no_fall);
}

pub returns-clause-ends : goal.returns-clause-ends
returns-clause-ends g c = all_settled c.args.core.now.kind c.args.notes.now _ (g.W.Wires.seen c.args.wires.now) (g.W.Wires.seen c.loop-passage.wires) c.args.held.now c.loop-passage.held (view c.args.seat.now) (view c.loop-passage.seat) c.in-None.ensures.steps.0 c.loop-passage.invariant.ends

pub returns-clause-keeps : goal.returns-clause-keeps
returns-clause-keeps g c = c.loop-passage.invariant.keeps

pub returns-clause-no_fall : goal.returns-clause-no_fall
returns-clause-no_fall g c = c.loop-passage.invariant.no_fall
