-- Turns, until one stops or is cut short.
use Rattle.relay_work.proofs.Carried.{rose_later}
use Rattle.relay_work.proofs.Turned.{belongs_again, turning_begin, turning_belongs, turning_more, works_cut, works_stopped, works_turns}
use Rattle.relay_work.specs.Live.{live_of}
use Rattle.relay_work.specs.declared.turns.RelayEnded.TheVariants as ended
use Rattle.std.proofs.Common.{arith, refl}
use Rattle.relay_work.proofs.turns.relay_work.Goals as goal

pub turns-init : goal.turns-init
turns-init g c = record {
  turning = turning_begin c.args.names.now (live_of c.args.relay.now (g.T.Wires.seen c.args.taps.now) (g.J.Sink.contents c.args.journal.now));
  taps = omega arith;
  journal = omega arith;
}

pub turn-requires : goal.turn-requires
turn-requires g c = turning_belongs c.args.names.now c.turns._turn (live_of c.args.relay.now (g.T.Wires.seen c.args.taps.now) (g.J.Sink.contents c.args.journal.now)) (live_of c.turns.relay (g.T.Wires.seen c.turns.taps) (g.J.Sink.contents c.turns.journal)) c.requires c.turns.invariant.turning

pub turns-preserved : goal.turns-preserved
turns-preserved g c = record {
  turning = turning_more c.args.names.now c.turns._turn (live_of c.args.relay.now (g.T.Wires.seen c.args.taps.now) (g.J.Sink.contents c.args.journal.now)) (live_of c.turns.relay (g.T.Wires.seen c.turns.taps) (g.J.Sink.contents c.turns.journal)) (live_of c.turn.new.relay (g.T.Wires.seen c.turn.new.taps) (g.J.Sink.contents c.turn.new.journal)) c.turns.invariant.turning c.in-Ok-false.field-0 c.in-Ok-false.field-0-test c.in-Ok-false.ensures.turns;
  taps = omega (arith, c.turns.invariant.taps, c.turn.ensures.taps_rise);
  journal = omega (arith, c.turns.invariant.journal, c.turn.ensures.journal_rises);
}

pub returns-in-Ok-true-clause-works : goal.returns-in-Ok-true-clause-works
returns-in-Ok-true-clause-works g c = works_stopped c.args.names.now c.turns._turn c.args.turns (live_of c.args.relay.now (g.T.Wires.seen c.args.taps.now) (g.J.Sink.contents c.args.journal.now)) (live_of c.turns.relay (g.T.Wires.seen c.turns.taps) (g.J.Sink.contents c.turns.journal)) (live_of c.turn.new.relay (g.T.Wires.seen c.turn.new.taps) (g.J.Sink.contents c.turn.new.journal)) c.turns.invariant.turning c.in-Ok-true.field-0 c.in-Ok-true.field-0-test c.in-Ok-true.ensures.turns (omega arith)

pub returns-in-Err-clause-works : goal.returns-in-Err-clause-works
returns-in-Err-clause-works g c = works_cut c.args.names.now c.turns._turn c.args.turns (live_of c.args.relay.now (g.T.Wires.seen c.args.taps.now) (g.J.Sink.contents c.args.journal.now)) (live_of c.turns.relay (g.T.Wires.seen c.turns.taps) (g.J.Sink.contents c.turns.journal)) (live_of c.turn.new.relay (g.T.Wires.seen c.turn.new.taps) (g.J.Sink.contents c.turn.new.journal)) c.in-Err.end c.turns.invariant.turning c.in-Err.ensures.turns

pub returns-in-Err-clause-taps_fault : goal.returns-in-Err-clause-taps_fault
returns-in-Err-clause-taps_fault g c = λ e. rose_later (g.T.Wires.faults c.args.taps.now) (g.T.Wires.faults c.turns.taps) (g.T.Wires.faults c.turn.new.taps) c.turns.invariant.taps
    (c.in-Err.ensures.taps_fault cc)

pub returns-in-Err-clause-journal_fault : goal.returns-in-Err-clause-journal_fault
returns-in-Err-clause-journal_fault g c = λ e. rose_later (g.J.Sink.faults c.args.journal.now) (g.J.Sink.faults c.turns.journal) (g.J.Sink.faults c.turn.new.journal) c.turns.invariant.journal
    (c.in-Err.ensures.journal_fault cc)

pub returns-clause-works : goal.returns-clause-works
returns-clause-works g c = works_turns c.args.names.now c.turns._turn c.args.turns (live_of c.args.relay.now (g.T.Wires.seen c.args.taps.now) (g.J.Sink.contents c.args.journal.now)) (live_of c.turns.relay (g.T.Wires.seen c.turns.taps) (g.J.Sink.contents c.turns.journal)) c.turns.invariant.turning (omega arith)

-- ---- no fault without one of these ends
pub returns-in-Ok-true-clause-taps_fault : goal.returns-in-Ok-true-clause-taps_fault
returns-in-Ok-true-clause-taps_fault g c = λ e. cc

pub returns-in-Ok-true-clause-journal_fault : goal.returns-in-Ok-true-clause-journal_fault
returns-in-Ok-true-clause-journal_fault g c = λ e. cc

pub returns-clause-taps_fault : goal.returns-clause-taps_fault
returns-clause-taps_fault g c = λ e. cc

pub returns-clause-journal_fault : goal.returns-clause-journal_fault
returns-clause-journal_fault g c = λ e. cc

-- ---- after whole turns they belong together again
pub returns-in-Ok-true-clause-again : goal.returns-in-Ok-true-clause-again
returns-in-Ok-true-clause-again g c = belongs_again c.args.names.now c.args.turns (live_of c.args.relay.now (g.T.Wires.seen c.args.taps.now) (g.J.Sink.contents c.args.journal.now)) ended.Stopped (live_of c.turn.new.relay (g.T.Wires.seen c.turn.new.taps) (g.J.Sink.contents c.turn.new.journal)) c.requires
    (works_stopped c.args.names.now c.turns._turn c.args.turns (live_of c.args.relay.now (g.T.Wires.seen c.args.taps.now) (g.J.Sink.contents c.args.journal.now)) (live_of c.turns.relay (g.T.Wires.seen c.turns.taps) (g.J.Sink.contents c.turns.journal)) (live_of c.turn.new.relay (g.T.Wires.seen c.turn.new.taps) (g.J.Sink.contents c.turn.new.journal)) c.turns.invariant.turning c.in-Ok-true.field-0 c.in-Ok-true.field-0-test c.in-Ok-true.ensures.turns (omega arith))

pub returns-in-Err-clause-again : goal.returns-in-Err-clause-again
returns-in-Err-clause-again g c = belongs_again c.args.names.now c.args.turns (live_of c.args.relay.now (g.T.Wires.seen c.args.taps.now) (g.J.Sink.contents c.args.journal.now)) c.in-Err.end (live_of c.turn.new.relay (g.T.Wires.seen c.turn.new.taps) (g.J.Sink.contents c.turn.new.journal)) c.requires
    (works_cut c.args.names.now c.turns._turn c.args.turns (live_of c.args.relay.now (g.T.Wires.seen c.args.taps.now) (g.J.Sink.contents c.args.journal.now)) (live_of c.turns.relay (g.T.Wires.seen c.turns.taps) (g.J.Sink.contents c.turns.journal)) (live_of c.turn.new.relay (g.T.Wires.seen c.turn.new.taps) (g.J.Sink.contents c.turn.new.journal)) c.in-Err.end c.turns.invariant.turning c.in-Err.ensures.turns)

pub returns-clause-again : goal.returns-clause-again
returns-clause-again g c = belongs_again c.args.names.now c.args.turns (live_of c.args.relay.now (g.T.Wires.seen c.args.taps.now) (g.J.Sink.contents c.args.journal.now)) ended.Turns (live_of c.turns.relay (g.T.Wires.seen c.turns.taps) (g.J.Sink.contents c.turns.journal)) c.requires
    (works_turns c.args.names.now c.turns._turn c.args.turns (live_of c.args.relay.now (g.T.Wires.seen c.args.taps.now) (g.J.Sink.contents c.args.journal.now)) (live_of c.turns.relay (g.T.Wires.seen c.turns.taps) (g.J.Sink.contents c.turns.journal)) c.turns.invariant.turning (omega arith))

-- the line's own room stays its own
pub same-line : goal.same-line
same-line g c = refl
