-- Turns, until one stops or breaks off.
use Rattle.post_queue.specs.Pass as hands
use Rattle.shared_state.specs.Following.{looks}
use Rattle.shared_state.specs.PermitSeats.{view}
use Rattle.std.proofs.Common.{ap, arith, refl, ◌∙◌}
use Rattle.std.specs.Prelude.{Err, false, true}
use Rattle.worker_loop.proofs.Ending.{more_turns, part_core, part_lines, part_tape, part_turns, part_wires, turns_as, turns_at, works_cut, works_stopped, works_whole}
use Rattle.worker_loop.proofs.Keeping.{keeps_more, keeps_same, rose_later}
use Rattle.worker_loop.proofs.Leaving.{part_octets}
use Rattle.worker_loop.proofs.Working.{works_end}
use Rattle.worker_loop.specs.Places.{place_of}
use Rattle.worker_loop.specs.Turns.{NoTurns, sides_of}
use Rattle.worker_loop.specs.declared.turns.Ended.{Ended as End}
use Rattle.worker_loop.specs.declared.turns.Ended.TheVariants as ended
use Rattle.worker_loop.proofs.turns.work.Goals as goal

pub turns-init : goal.turns-init
turns-init g c = record {
  core = c.requires.core;
  pass = c.requires.pass;
  turns = NoTurns;
  keeps = keeps_same c.args.permits.now (g.W.Wires.seen c.args.wires.now) (g.W.Wires.seen c.args.wires.now) c.args.held.now c.args.seat.now c.requires.holds refl;
  wires = omega arith;
  journal = omega arith;
}

pub take_turn-requires-clause-core : goal.take_turn-requires-clause-core
take_turn-requires-clause-core g c = c.turns.invariant.core

pub take_turn-requires-clause-holds : goal.take_turn-requires-clause-holds
take_turn-requires-clause-holds g c = c.turns.invariant.keeps.holds

pub take_turn-requires-clause-pass : goal.take_turn-requires-clause-pass
take_turn-requires-clause-pass g c = c.turns.invariant.pass

pub take_turn-requires-clause-names : goal.take_turn-requires-clause-names
take_turn-requires-clause-names g c = c.turns.invariant.keeps.clusters ∙ c.requires.names

pub take_turn-requires-clause-below : goal.take_turn-requires-clause-below
take_turn-requires-clause-below g c = c.turns.invariant.keeps.below c.requires.below

pub turns-preserved : goal.turns-preserved
turns-preserved g c = record {
  core = c.in-Ok.ensures.turns.1;
  pass = c.take_turn.ensures.pass;
  turns = more_turns c.args.names.now c.turns.turn (sides_of (g.C.Clock.moments c.args.clock.now) (hands.view c.args.pass.now.pass) (looks c.args.follower.now) c.args.follower.now.kept) (sides_of (g.C.Clock.moments c.turns.clock) (hands.view c.turns.pass.pass) (looks c.turns.follower) c.turns.follower.kept) (sides_of (g.C.Clock.moments c.take_turn.new.clock) (hands.view c.take_turn.new.pass.pass) (looks c.take_turn.new.follower) c.take_turn.new.follower.kept) c.args.core.now.kind c.turns.core.kind c.take_turn.new.core.kind (place_of (g.J.Sink.contents c.args.journal.now) (g.J.Journal.told c.args.journal.now) (g.W.Wires.seen c.args.wires.now) c.args.held.now (view c.args.seat.now)) (place_of (g.J.Sink.contents c.turns.journal) (g.J.Journal.told c.turns.journal) (g.W.Wires.seen c.turns.wires) c.turns.held (view c.turns.seat)) (place_of (g.J.Sink.contents c.take_turn.new.journal) (g.J.Journal.told c.take_turn.new.journal) (g.W.Wires.seen c.take_turn.new.wires) c.take_turn.new.held (view c.take_turn.new.seat)) c.turns.invariant.turns (turns_as c.args.names.now (sides_of (g.C.Clock.moments c.turns.clock) (hands.view c.turns.pass.pass) (looks c.turns.follower) c.turns.follower.kept) (sides_of (g.C.Clock.moments c.take_turn.new.clock) (hands.view c.take_turn.new.pass.pass) (looks c.take_turn.new.follower) c.take_turn.new.follower.kept) c.turns.core.kind c.take_turn.new.core.kind (place_of (g.J.Sink.contents c.turns.journal) (g.J.Journal.told c.turns.journal) (g.W.Wires.seen c.turns.wires) c.turns.held (view c.turns.seat)) (place_of (g.J.Sink.contents c.take_turn.new.journal) (g.J.Journal.told c.take_turn.new.journal) (g.W.Wires.seen c.take_turn.new.wires) c.take_turn.new.held (view c.take_turn.new.seat)) c.in-Ok.stops false c.if-stops.false c.in-Ok.ensures.turns.0);
  keeps = keeps_more c.args.permits.now (g.W.Wires.seen c.args.wires.now) (g.W.Wires.seen c.turns.wires) (g.W.Wires.seen c.take_turn.new.wires) c.args.held.now c.turns.held c.take_turn.new.held (view c.args.seat.now) c.turns.seat c.take_turn.new.seat c.turns.invariant.keeps c.take_turn.ensures.keeps;
  wires = omega (arith, c.turns.invariant.wires, c.take_turn.ensures.rises.at_wires);
  journal = omega (arith, c.turns.invariant.journal, c.take_turn.ensures.rises.at_journal);
}

pub returns-then-stops-clause-works : goal.returns-then-stops-clause-works
returns-then-stops-clause-works g c = works_stopped c.args.names.now c.turns.turn c.args.turns (sides_of (g.C.Clock.moments c.args.clock.now) (hands.view c.args.pass.now.pass) (looks c.args.follower.now) c.args.follower.now.kept) (sides_of (g.C.Clock.moments c.turns.clock) (hands.view c.turns.pass.pass) (looks c.turns.follower) c.turns.follower.kept) (sides_of (g.C.Clock.moments c.take_turn.new.clock) (hands.view c.take_turn.new.pass.pass) (looks c.take_turn.new.follower) c.take_turn.new.follower.kept) c.args.core.now.kind c.turns.core.kind c.take_turn.new.core.kind (place_of (g.J.Sink.contents c.args.journal.now) (g.J.Journal.told c.args.journal.now) (g.W.Wires.seen c.args.wires.now) c.args.held.now (view c.args.seat.now)) (place_of (g.J.Sink.contents c.turns.journal) (g.J.Journal.told c.turns.journal) (g.W.Wires.seen c.turns.wires) c.turns.held (view c.turns.seat)) (place_of (g.J.Sink.contents c.take_turn.new.journal) (g.J.Journal.told c.take_turn.new.journal) (g.W.Wires.seen c.take_turn.new.wires) c.take_turn.new.held (view c.take_turn.new.seat)) (omega arith) c.turns.invariant.turns (turns_as c.args.names.now (sides_of (g.C.Clock.moments c.turns.clock) (hands.view c.turns.pass.pass) (looks c.turns.follower) c.turns.follower.kept) (sides_of (g.C.Clock.moments c.take_turn.new.clock) (hands.view c.take_turn.new.pass.pass) (looks c.take_turn.new.follower) c.take_turn.new.follower.kept) c.turns.core.kind c.take_turn.new.core.kind (place_of (g.J.Sink.contents c.turns.journal) (g.J.Journal.told c.turns.journal) (g.W.Wires.seen c.turns.wires) c.turns.held (view c.turns.seat)) (place_of (g.J.Sink.contents c.take_turn.new.journal) (g.J.Journal.told c.take_turn.new.journal) (g.W.Wires.seen c.take_turn.new.wires) c.take_turn.new.held (view c.take_turn.new.seat)) c.in-Ok.stops true c.if-stops.true c.in-Ok.ensures.turns.0)

pub returns-then-stops-clause-core : goal.returns-then-stops-clause-core
returns-then-stops-clause-core g c = part_core c.args.names.now ended.Stopped (sides_of (g.C.Clock.moments c.args.clock.now) (hands.view c.args.pass.now.pass) (looks c.args.follower.now) c.args.follower.now.kept) (sides_of (g.C.Clock.moments c.take_turn.new.clock) (hands.view c.take_turn.new.pass.pass) (looks c.take_turn.new.follower) c.take_turn.new.follower.kept) c.args.core.now.kind c.take_turn.new.core.kind (place_of (g.J.Sink.contents c.args.journal.now) (g.J.Journal.told c.args.journal.now) (g.W.Wires.seen c.args.wires.now) c.args.held.now (view c.args.seat.now)) (place_of (g.J.Sink.contents c.take_turn.new.journal) (g.J.Journal.told c.take_turn.new.journal) (g.W.Wires.seen c.take_turn.new.wires) c.take_turn.new.held (view c.take_turn.new.seat)) (works_end c.args.names.now (sides_of (g.C.Clock.moments c.args.clock.now) (hands.view c.args.pass.now.pass) (looks c.args.follower.now) c.args.follower.now.kept) (sides_of (g.C.Clock.moments c.take_turn.new.clock) (hands.view c.take_turn.new.pass.pass) (looks c.take_turn.new.follower) c.take_turn.new.follower.kept) c.args.core.now.kind c.take_turn.new.core.kind (place_of (g.J.Sink.contents c.args.journal.now) (g.J.Journal.told c.args.journal.now) (g.W.Wires.seen c.args.wires.now) c.args.held.now (view c.args.seat.now)) (place_of (g.J.Sink.contents c.take_turn.new.journal) (g.J.Journal.told c.take_turn.new.journal) (g.W.Wires.seen c.take_turn.new.wires) c.take_turn.new.held (view c.take_turn.new.seat)) c.args.turns ended.Stopped (works_stopped c.args.names.now c.turns.turn c.args.turns (sides_of (g.C.Clock.moments c.args.clock.now) (hands.view c.args.pass.now.pass) (looks c.args.follower.now) c.args.follower.now.kept) (sides_of (g.C.Clock.moments c.turns.clock) (hands.view c.turns.pass.pass) (looks c.turns.follower) c.turns.follower.kept) (sides_of (g.C.Clock.moments c.take_turn.new.clock) (hands.view c.take_turn.new.pass.pass) (looks c.take_turn.new.follower) c.take_turn.new.follower.kept) c.args.core.now.kind c.turns.core.kind c.take_turn.new.core.kind (place_of (g.J.Sink.contents c.args.journal.now) (g.J.Journal.told c.args.journal.now) (g.W.Wires.seen c.args.wires.now) c.args.held.now (view c.args.seat.now)) (place_of (g.J.Sink.contents c.turns.journal) (g.J.Journal.told c.turns.journal) (g.W.Wires.seen c.turns.wires) c.turns.held (view c.turns.seat)) (place_of (g.J.Sink.contents c.take_turn.new.journal) (g.J.Journal.told c.take_turn.new.journal) (g.W.Wires.seen c.take_turn.new.wires) c.take_turn.new.held (view c.take_turn.new.seat)) (omega arith) c.turns.invariant.turns (turns_as c.args.names.now (sides_of (g.C.Clock.moments c.turns.clock) (hands.view c.turns.pass.pass) (looks c.turns.follower) c.turns.follower.kept) (sides_of (g.C.Clock.moments c.take_turn.new.clock) (hands.view c.take_turn.new.pass.pass) (looks c.take_turn.new.follower) c.take_turn.new.follower.kept) c.turns.core.kind c.take_turn.new.core.kind (place_of (g.J.Sink.contents c.turns.journal) (g.J.Journal.told c.turns.journal) (g.W.Wires.seen c.turns.wires) c.turns.held (view c.turns.seat)) (place_of (g.J.Sink.contents c.take_turn.new.journal) (g.J.Journal.told c.take_turn.new.journal) (g.W.Wires.seen c.take_turn.new.wires) c.take_turn.new.held (view c.take_turn.new.seat)) c.in-Ok.stops true c.if-stops.true c.in-Ok.ensures.turns.0))) c.requires.core

pub returns-then-stops-clause-lines : goal.returns-then-stops-clause-lines
returns-then-stops-clause-lines g c = part_lines c.args.names.now ended.Stopped (sides_of (g.C.Clock.moments c.args.clock.now) (hands.view c.args.pass.now.pass) (looks c.args.follower.now) c.args.follower.now.kept) (sides_of (g.C.Clock.moments c.take_turn.new.clock) (hands.view c.take_turn.new.pass.pass) (looks c.take_turn.new.follower) c.take_turn.new.follower.kept) c.args.core.now.kind c.take_turn.new.core.kind (place_of (g.J.Sink.contents c.args.journal.now) (g.J.Journal.told c.args.journal.now) (g.W.Wires.seen c.args.wires.now) c.args.held.now (view c.args.seat.now)) (place_of (g.J.Sink.contents c.take_turn.new.journal) (g.J.Journal.told c.take_turn.new.journal) (g.W.Wires.seen c.take_turn.new.wires) c.take_turn.new.held (view c.take_turn.new.seat)) (works_end c.args.names.now (sides_of (g.C.Clock.moments c.args.clock.now) (hands.view c.args.pass.now.pass) (looks c.args.follower.now) c.args.follower.now.kept) (sides_of (g.C.Clock.moments c.take_turn.new.clock) (hands.view c.take_turn.new.pass.pass) (looks c.take_turn.new.follower) c.take_turn.new.follower.kept) c.args.core.now.kind c.take_turn.new.core.kind (place_of (g.J.Sink.contents c.args.journal.now) (g.J.Journal.told c.args.journal.now) (g.W.Wires.seen c.args.wires.now) c.args.held.now (view c.args.seat.now)) (place_of (g.J.Sink.contents c.take_turn.new.journal) (g.J.Journal.told c.take_turn.new.journal) (g.W.Wires.seen c.take_turn.new.wires) c.take_turn.new.held (view c.take_turn.new.seat)) c.args.turns ended.Stopped (works_stopped c.args.names.now c.turns.turn c.args.turns (sides_of (g.C.Clock.moments c.args.clock.now) (hands.view c.args.pass.now.pass) (looks c.args.follower.now) c.args.follower.now.kept) (sides_of (g.C.Clock.moments c.turns.clock) (hands.view c.turns.pass.pass) (looks c.turns.follower) c.turns.follower.kept) (sides_of (g.C.Clock.moments c.take_turn.new.clock) (hands.view c.take_turn.new.pass.pass) (looks c.take_turn.new.follower) c.take_turn.new.follower.kept) c.args.core.now.kind c.turns.core.kind c.take_turn.new.core.kind (place_of (g.J.Sink.contents c.args.journal.now) (g.J.Journal.told c.args.journal.now) (g.W.Wires.seen c.args.wires.now) c.args.held.now (view c.args.seat.now)) (place_of (g.J.Sink.contents c.turns.journal) (g.J.Journal.told c.turns.journal) (g.W.Wires.seen c.turns.wires) c.turns.held (view c.turns.seat)) (place_of (g.J.Sink.contents c.take_turn.new.journal) (g.J.Journal.told c.take_turn.new.journal) (g.W.Wires.seen c.take_turn.new.wires) c.take_turn.new.held (view c.take_turn.new.seat)) (omega arith) c.turns.invariant.turns (turns_as c.args.names.now (sides_of (g.C.Clock.moments c.turns.clock) (hands.view c.turns.pass.pass) (looks c.turns.follower) c.turns.follower.kept) (sides_of (g.C.Clock.moments c.take_turn.new.clock) (hands.view c.take_turn.new.pass.pass) (looks c.take_turn.new.follower) c.take_turn.new.follower.kept) c.turns.core.kind c.take_turn.new.core.kind (place_of (g.J.Sink.contents c.turns.journal) (g.J.Journal.told c.turns.journal) (g.W.Wires.seen c.turns.wires) c.turns.held (view c.turns.seat)) (place_of (g.J.Sink.contents c.take_turn.new.journal) (g.J.Journal.told c.take_turn.new.journal) (g.W.Wires.seen c.take_turn.new.wires) c.take_turn.new.held (view c.take_turn.new.seat)) c.in-Ok.stops true c.if-stops.true c.in-Ok.ensures.turns.0))) c.requires.core

pub returns-then-stops-clause-tape : goal.returns-then-stops-clause-tape
returns-then-stops-clause-tape g c = part_tape c.args.names.now ended.Stopped (sides_of (g.C.Clock.moments c.args.clock.now) (hands.view c.args.pass.now.pass) (looks c.args.follower.now) c.args.follower.now.kept) (sides_of (g.C.Clock.moments c.take_turn.new.clock) (hands.view c.take_turn.new.pass.pass) (looks c.take_turn.new.follower) c.take_turn.new.follower.kept) c.args.core.now.kind c.take_turn.new.core.kind (place_of (g.J.Sink.contents c.args.journal.now) (g.J.Journal.told c.args.journal.now) (g.W.Wires.seen c.args.wires.now) c.args.held.now (view c.args.seat.now)) (place_of (g.J.Sink.contents c.take_turn.new.journal) (g.J.Journal.told c.take_turn.new.journal) (g.W.Wires.seen c.take_turn.new.wires) c.take_turn.new.held (view c.take_turn.new.seat)) (works_end c.args.names.now (sides_of (g.C.Clock.moments c.args.clock.now) (hands.view c.args.pass.now.pass) (looks c.args.follower.now) c.args.follower.now.kept) (sides_of (g.C.Clock.moments c.take_turn.new.clock) (hands.view c.take_turn.new.pass.pass) (looks c.take_turn.new.follower) c.take_turn.new.follower.kept) c.args.core.now.kind c.take_turn.new.core.kind (place_of (g.J.Sink.contents c.args.journal.now) (g.J.Journal.told c.args.journal.now) (g.W.Wires.seen c.args.wires.now) c.args.held.now (view c.args.seat.now)) (place_of (g.J.Sink.contents c.take_turn.new.journal) (g.J.Journal.told c.take_turn.new.journal) (g.W.Wires.seen c.take_turn.new.wires) c.take_turn.new.held (view c.take_turn.new.seat)) c.args.turns ended.Stopped (works_stopped c.args.names.now c.turns.turn c.args.turns (sides_of (g.C.Clock.moments c.args.clock.now) (hands.view c.args.pass.now.pass) (looks c.args.follower.now) c.args.follower.now.kept) (sides_of (g.C.Clock.moments c.turns.clock) (hands.view c.turns.pass.pass) (looks c.turns.follower) c.turns.follower.kept) (sides_of (g.C.Clock.moments c.take_turn.new.clock) (hands.view c.take_turn.new.pass.pass) (looks c.take_turn.new.follower) c.take_turn.new.follower.kept) c.args.core.now.kind c.turns.core.kind c.take_turn.new.core.kind (place_of (g.J.Sink.contents c.args.journal.now) (g.J.Journal.told c.args.journal.now) (g.W.Wires.seen c.args.wires.now) c.args.held.now (view c.args.seat.now)) (place_of (g.J.Sink.contents c.turns.journal) (g.J.Journal.told c.turns.journal) (g.W.Wires.seen c.turns.wires) c.turns.held (view c.turns.seat)) (place_of (g.J.Sink.contents c.take_turn.new.journal) (g.J.Journal.told c.take_turn.new.journal) (g.W.Wires.seen c.take_turn.new.wires) c.take_turn.new.held (view c.take_turn.new.seat)) (omega arith) c.turns.invariant.turns (turns_as c.args.names.now (sides_of (g.C.Clock.moments c.turns.clock) (hands.view c.turns.pass.pass) (looks c.turns.follower) c.turns.follower.kept) (sides_of (g.C.Clock.moments c.take_turn.new.clock) (hands.view c.take_turn.new.pass.pass) (looks c.take_turn.new.follower) c.take_turn.new.follower.kept) c.turns.core.kind c.take_turn.new.core.kind (place_of (g.J.Sink.contents c.turns.journal) (g.J.Journal.told c.turns.journal) (g.W.Wires.seen c.turns.wires) c.turns.held (view c.turns.seat)) (place_of (g.J.Sink.contents c.take_turn.new.journal) (g.J.Journal.told c.take_turn.new.journal) (g.W.Wires.seen c.take_turn.new.wires) c.take_turn.new.held (view c.take_turn.new.seat)) c.in-Ok.stops true c.if-stops.true c.in-Ok.ensures.turns.0))) c.requires.core

pub returns-then-stops-clause-wires : goal.returns-then-stops-clause-wires
returns-then-stops-clause-wires g c = part_wires c.args.names.now ended.Stopped (sides_of (g.C.Clock.moments c.args.clock.now) (hands.view c.args.pass.now.pass) (looks c.args.follower.now) c.args.follower.now.kept) (sides_of (g.C.Clock.moments c.take_turn.new.clock) (hands.view c.take_turn.new.pass.pass) (looks c.take_turn.new.follower) c.take_turn.new.follower.kept) c.args.core.now.kind c.take_turn.new.core.kind (place_of (g.J.Sink.contents c.args.journal.now) (g.J.Journal.told c.args.journal.now) (g.W.Wires.seen c.args.wires.now) c.args.held.now (view c.args.seat.now)) (place_of (g.J.Sink.contents c.take_turn.new.journal) (g.J.Journal.told c.take_turn.new.journal) (g.W.Wires.seen c.take_turn.new.wires) c.take_turn.new.held (view c.take_turn.new.seat)) (works_end c.args.names.now (sides_of (g.C.Clock.moments c.args.clock.now) (hands.view c.args.pass.now.pass) (looks c.args.follower.now) c.args.follower.now.kept) (sides_of (g.C.Clock.moments c.take_turn.new.clock) (hands.view c.take_turn.new.pass.pass) (looks c.take_turn.new.follower) c.take_turn.new.follower.kept) c.args.core.now.kind c.take_turn.new.core.kind (place_of (g.J.Sink.contents c.args.journal.now) (g.J.Journal.told c.args.journal.now) (g.W.Wires.seen c.args.wires.now) c.args.held.now (view c.args.seat.now)) (place_of (g.J.Sink.contents c.take_turn.new.journal) (g.J.Journal.told c.take_turn.new.journal) (g.W.Wires.seen c.take_turn.new.wires) c.take_turn.new.held (view c.take_turn.new.seat)) c.args.turns ended.Stopped (works_stopped c.args.names.now c.turns.turn c.args.turns (sides_of (g.C.Clock.moments c.args.clock.now) (hands.view c.args.pass.now.pass) (looks c.args.follower.now) c.args.follower.now.kept) (sides_of (g.C.Clock.moments c.turns.clock) (hands.view c.turns.pass.pass) (looks c.turns.follower) c.turns.follower.kept) (sides_of (g.C.Clock.moments c.take_turn.new.clock) (hands.view c.take_turn.new.pass.pass) (looks c.take_turn.new.follower) c.take_turn.new.follower.kept) c.args.core.now.kind c.turns.core.kind c.take_turn.new.core.kind (place_of (g.J.Sink.contents c.args.journal.now) (g.J.Journal.told c.args.journal.now) (g.W.Wires.seen c.args.wires.now) c.args.held.now (view c.args.seat.now)) (place_of (g.J.Sink.contents c.turns.journal) (g.J.Journal.told c.turns.journal) (g.W.Wires.seen c.turns.wires) c.turns.held (view c.turns.seat)) (place_of (g.J.Sink.contents c.take_turn.new.journal) (g.J.Journal.told c.take_turn.new.journal) (g.W.Wires.seen c.take_turn.new.wires) c.take_turn.new.held (view c.take_turn.new.seat)) (omega arith) c.turns.invariant.turns (turns_as c.args.names.now (sides_of (g.C.Clock.moments c.turns.clock) (hands.view c.turns.pass.pass) (looks c.turns.follower) c.turns.follower.kept) (sides_of (g.C.Clock.moments c.take_turn.new.clock) (hands.view c.take_turn.new.pass.pass) (looks c.take_turn.new.follower) c.take_turn.new.follower.kept) c.turns.core.kind c.take_turn.new.core.kind (place_of (g.J.Sink.contents c.turns.journal) (g.J.Journal.told c.turns.journal) (g.W.Wires.seen c.turns.wires) c.turns.held (view c.turns.seat)) (place_of (g.J.Sink.contents c.take_turn.new.journal) (g.J.Journal.told c.take_turn.new.journal) (g.W.Wires.seen c.take_turn.new.wires) c.take_turn.new.held (view c.take_turn.new.seat)) c.in-Ok.stops true c.if-stops.true c.in-Ok.ensures.turns.0))) c.requires.core

pub returns-then-stops-clause-octets : goal.returns-then-stops-clause-octets
returns-then-stops-clause-octets g c = part_octets c.args.names.now ended.Stopped (sides_of (g.C.Clock.moments c.args.clock.now) (hands.view c.args.pass.now.pass) (looks c.args.follower.now) c.args.follower.now.kept) (sides_of (g.C.Clock.moments c.take_turn.new.clock) (hands.view c.take_turn.new.pass.pass) (looks c.take_turn.new.follower) c.take_turn.new.follower.kept) c.args.core.now.kind c.take_turn.new.core.kind (place_of (g.J.Sink.contents c.args.journal.now) (g.J.Journal.told c.args.journal.now) (g.W.Wires.seen c.args.wires.now) c.args.held.now (view c.args.seat.now)) (place_of (g.J.Sink.contents c.take_turn.new.journal) (g.J.Journal.told c.take_turn.new.journal) (g.W.Wires.seen c.take_turn.new.wires) c.take_turn.new.held (view c.take_turn.new.seat)) (works_end c.args.names.now (sides_of (g.C.Clock.moments c.args.clock.now) (hands.view c.args.pass.now.pass) (looks c.args.follower.now) c.args.follower.now.kept) (sides_of (g.C.Clock.moments c.take_turn.new.clock) (hands.view c.take_turn.new.pass.pass) (looks c.take_turn.new.follower) c.take_turn.new.follower.kept) c.args.core.now.kind c.take_turn.new.core.kind (place_of (g.J.Sink.contents c.args.journal.now) (g.J.Journal.told c.args.journal.now) (g.W.Wires.seen c.args.wires.now) c.args.held.now (view c.args.seat.now)) (place_of (g.J.Sink.contents c.take_turn.new.journal) (g.J.Journal.told c.take_turn.new.journal) (g.W.Wires.seen c.take_turn.new.wires) c.take_turn.new.held (view c.take_turn.new.seat)) c.args.turns ended.Stopped (works_stopped c.args.names.now c.turns.turn c.args.turns (sides_of (g.C.Clock.moments c.args.clock.now) (hands.view c.args.pass.now.pass) (looks c.args.follower.now) c.args.follower.now.kept) (sides_of (g.C.Clock.moments c.turns.clock) (hands.view c.turns.pass.pass) (looks c.turns.follower) c.turns.follower.kept) (sides_of (g.C.Clock.moments c.take_turn.new.clock) (hands.view c.take_turn.new.pass.pass) (looks c.take_turn.new.follower) c.take_turn.new.follower.kept) c.args.core.now.kind c.turns.core.kind c.take_turn.new.core.kind (place_of (g.J.Sink.contents c.args.journal.now) (g.J.Journal.told c.args.journal.now) (g.W.Wires.seen c.args.wires.now) c.args.held.now (view c.args.seat.now)) (place_of (g.J.Sink.contents c.turns.journal) (g.J.Journal.told c.turns.journal) (g.W.Wires.seen c.turns.wires) c.turns.held (view c.turns.seat)) (place_of (g.J.Sink.contents c.take_turn.new.journal) (g.J.Journal.told c.take_turn.new.journal) (g.W.Wires.seen c.take_turn.new.wires) c.take_turn.new.held (view c.take_turn.new.seat)) (omega arith) c.turns.invariant.turns (turns_as c.args.names.now (sides_of (g.C.Clock.moments c.turns.clock) (hands.view c.turns.pass.pass) (looks c.turns.follower) c.turns.follower.kept) (sides_of (g.C.Clock.moments c.take_turn.new.clock) (hands.view c.take_turn.new.pass.pass) (looks c.take_turn.new.follower) c.take_turn.new.follower.kept) c.turns.core.kind c.take_turn.new.core.kind (place_of (g.J.Sink.contents c.turns.journal) (g.J.Journal.told c.turns.journal) (g.W.Wires.seen c.turns.wires) c.turns.held (view c.turns.seat)) (place_of (g.J.Sink.contents c.take_turn.new.journal) (g.J.Journal.told c.take_turn.new.journal) (g.W.Wires.seen c.take_turn.new.wires) c.take_turn.new.held (view c.take_turn.new.seat)) c.in-Ok.stops true c.if-stops.true c.in-Ok.ensures.turns.0))) c.requires.core

pub returns-then-stops-clause-turns : goal.returns-then-stops-clause-turns
returns-then-stops-clause-turns g c = part_turns c.args.names.now ended.Stopped (sides_of (g.C.Clock.moments c.args.clock.now) (hands.view c.args.pass.now.pass) (looks c.args.follower.now) c.args.follower.now.kept) (sides_of (g.C.Clock.moments c.take_turn.new.clock) (hands.view c.take_turn.new.pass.pass) (looks c.take_turn.new.follower) c.take_turn.new.follower.kept) c.args.core.now.kind c.take_turn.new.core.kind (place_of (g.J.Sink.contents c.args.journal.now) (g.J.Journal.told c.args.journal.now) (g.W.Wires.seen c.args.wires.now) c.args.held.now (view c.args.seat.now)) (place_of (g.J.Sink.contents c.take_turn.new.journal) (g.J.Journal.told c.take_turn.new.journal) (g.W.Wires.seen c.take_turn.new.wires) c.take_turn.new.held (view c.take_turn.new.seat)) (works_end c.args.names.now (sides_of (g.C.Clock.moments c.args.clock.now) (hands.view c.args.pass.now.pass) (looks c.args.follower.now) c.args.follower.now.kept) (sides_of (g.C.Clock.moments c.take_turn.new.clock) (hands.view c.take_turn.new.pass.pass) (looks c.take_turn.new.follower) c.take_turn.new.follower.kept) c.args.core.now.kind c.take_turn.new.core.kind (place_of (g.J.Sink.contents c.args.journal.now) (g.J.Journal.told c.args.journal.now) (g.W.Wires.seen c.args.wires.now) c.args.held.now (view c.args.seat.now)) (place_of (g.J.Sink.contents c.take_turn.new.journal) (g.J.Journal.told c.take_turn.new.journal) (g.W.Wires.seen c.take_turn.new.wires) c.take_turn.new.held (view c.take_turn.new.seat)) c.args.turns ended.Stopped (works_stopped c.args.names.now c.turns.turn c.args.turns (sides_of (g.C.Clock.moments c.args.clock.now) (hands.view c.args.pass.now.pass) (looks c.args.follower.now) c.args.follower.now.kept) (sides_of (g.C.Clock.moments c.turns.clock) (hands.view c.turns.pass.pass) (looks c.turns.follower) c.turns.follower.kept) (sides_of (g.C.Clock.moments c.take_turn.new.clock) (hands.view c.take_turn.new.pass.pass) (looks c.take_turn.new.follower) c.take_turn.new.follower.kept) c.args.core.now.kind c.turns.core.kind c.take_turn.new.core.kind (place_of (g.J.Sink.contents c.args.journal.now) (g.J.Journal.told c.args.journal.now) (g.W.Wires.seen c.args.wires.now) c.args.held.now (view c.args.seat.now)) (place_of (g.J.Sink.contents c.turns.journal) (g.J.Journal.told c.turns.journal) (g.W.Wires.seen c.turns.wires) c.turns.held (view c.turns.seat)) (place_of (g.J.Sink.contents c.take_turn.new.journal) (g.J.Journal.told c.take_turn.new.journal) (g.W.Wires.seen c.take_turn.new.wires) c.take_turn.new.held (view c.take_turn.new.seat)) (omega arith) c.turns.invariant.turns (turns_as c.args.names.now (sides_of (g.C.Clock.moments c.turns.clock) (hands.view c.turns.pass.pass) (looks c.turns.follower) c.turns.follower.kept) (sides_of (g.C.Clock.moments c.take_turn.new.clock) (hands.view c.take_turn.new.pass.pass) (looks c.take_turn.new.follower) c.take_turn.new.follower.kept) c.turns.core.kind c.take_turn.new.core.kind (place_of (g.J.Sink.contents c.turns.journal) (g.J.Journal.told c.turns.journal) (g.W.Wires.seen c.turns.wires) c.turns.held (view c.turns.seat)) (place_of (g.J.Sink.contents c.take_turn.new.journal) (g.J.Journal.told c.take_turn.new.journal) (g.W.Wires.seen c.take_turn.new.wires) c.take_turn.new.held (view c.take_turn.new.seat)) c.in-Ok.stops true c.if-stops.true c.in-Ok.ensures.turns.0))) c.requires.core c.args.turns (works_whole c.args.names.now c.args.turns (sides_of (g.C.Clock.moments c.args.clock.now) (hands.view c.args.pass.now.pass) (looks c.args.follower.now) c.args.follower.now.kept) (sides_of (g.C.Clock.moments c.take_turn.new.clock) (hands.view c.take_turn.new.pass.pass) (looks c.take_turn.new.follower) c.take_turn.new.follower.kept) c.args.core.now.kind c.take_turn.new.core.kind (place_of (g.J.Sink.contents c.args.journal.now) (g.J.Journal.told c.args.journal.now) (g.W.Wires.seen c.args.wires.now) c.args.held.now (view c.args.seat.now)) (place_of (g.J.Sink.contents c.take_turn.new.journal) (g.J.Journal.told c.take_turn.new.journal) (g.W.Wires.seen c.take_turn.new.wires) c.take_turn.new.held (view c.take_turn.new.seat)) ended.Stopped (works_stopped c.args.names.now c.turns.turn c.args.turns (sides_of (g.C.Clock.moments c.args.clock.now) (hands.view c.args.pass.now.pass) (looks c.args.follower.now) c.args.follower.now.kept) (sides_of (g.C.Clock.moments c.turns.clock) (hands.view c.turns.pass.pass) (looks c.turns.follower) c.turns.follower.kept) (sides_of (g.C.Clock.moments c.take_turn.new.clock) (hands.view c.take_turn.new.pass.pass) (looks c.take_turn.new.follower) c.take_turn.new.follower.kept) c.args.core.now.kind c.turns.core.kind c.take_turn.new.core.kind (place_of (g.J.Sink.contents c.args.journal.now) (g.J.Journal.told c.args.journal.now) (g.W.Wires.seen c.args.wires.now) c.args.held.now (view c.args.seat.now)) (place_of (g.J.Sink.contents c.turns.journal) (g.J.Journal.told c.turns.journal) (g.W.Wires.seen c.turns.wires) c.turns.held (view c.turns.seat)) (place_of (g.J.Sink.contents c.take_turn.new.journal) (g.J.Journal.told c.take_turn.new.journal) (g.W.Wires.seen c.take_turn.new.wires) c.take_turn.new.held (view c.take_turn.new.seat)) (omega arith) c.turns.invariant.turns (turns_as c.args.names.now (sides_of (g.C.Clock.moments c.turns.clock) (hands.view c.turns.pass.pass) (looks c.turns.follower) c.turns.follower.kept) (sides_of (g.C.Clock.moments c.take_turn.new.clock) (hands.view c.take_turn.new.pass.pass) (looks c.take_turn.new.follower) c.take_turn.new.follower.kept) c.turns.core.kind c.take_turn.new.core.kind (place_of (g.J.Sink.contents c.turns.journal) (g.J.Journal.told c.turns.journal) (g.W.Wires.seen c.turns.wires) c.turns.held (view c.turns.seat)) (place_of (g.J.Sink.contents c.take_turn.new.journal) (g.J.Journal.told c.take_turn.new.journal) (g.W.Wires.seen c.take_turn.new.wires) c.take_turn.new.held (view c.take_turn.new.seat)) c.in-Ok.stops true c.if-stops.true c.in-Ok.ensures.turns.0)))

pub returns-then-stops-clause-pass : goal.returns-then-stops-clause-pass
returns-then-stops-clause-pass g c = c.take_turn.ensures.pass

pub returns-then-stops-clause-keeps : goal.returns-then-stops-clause-keeps
returns-then-stops-clause-keeps g c = keeps_more c.args.permits.now (g.W.Wires.seen c.args.wires.now) (g.W.Wires.seen c.turns.wires) (g.W.Wires.seen c.take_turn.new.wires) c.args.held.now c.turns.held c.take_turn.new.held (view c.args.seat.now) c.turns.seat c.take_turn.new.seat c.turns.invariant.keeps c.take_turn.ensures.keeps

pub returns-then-stops-clause-wires_fault : goal.returns-then-stops-clause-wires_fault
returns-then-stops-clause-wires_fault g c = λ e. cc

pub returns-then-stops-clause-journal_fault : goal.returns-then-stops-clause-journal_fault
returns-then-stops-clause-journal_fault g c = λ e. cc

pub returns-in-Err-clause-works : goal.returns-in-Err-clause-works
returns-in-Err-clause-works g c = works_cut c.args.names.now c.turns.turn c.args.turns (sides_of (g.C.Clock.moments c.args.clock.now) (hands.view c.args.pass.now.pass) (looks c.args.follower.now) c.args.follower.now.kept) (sides_of (g.C.Clock.moments c.turns.clock) (hands.view c.turns.pass.pass) (looks c.turns.follower) c.turns.follower.kept) (sides_of (g.C.Clock.moments c.take_turn.new.clock) (hands.view c.take_turn.new.pass.pass) (looks c.take_turn.new.follower) c.take_turn.new.follower.kept) c.args.core.now.kind c.turns.core.kind c.take_turn.new.core.kind (place_of (g.J.Sink.contents c.args.journal.now) (g.J.Journal.told c.args.journal.now) (g.W.Wires.seen c.args.wires.now) c.args.held.now (view c.args.seat.now)) (place_of (g.J.Sink.contents c.turns.journal) (g.J.Journal.told c.turns.journal) (g.W.Wires.seen c.turns.wires) c.turns.held (view c.turns.seat)) (place_of (g.J.Sink.contents c.take_turn.new.journal) (g.J.Journal.told c.take_turn.new.journal) (g.W.Wires.seen c.take_turn.new.wires) c.take_turn.new.held (view c.take_turn.new.seat)) c.in-Err.end (omega arith) c.turns.invariant.turns c.in-Err.ensures.turns

pub returns-in-Err-clause-core : goal.returns-in-Err-clause-core
returns-in-Err-clause-core g c = part_core c.args.names.now c.in-Err.end (sides_of (g.C.Clock.moments c.args.clock.now) (hands.view c.args.pass.now.pass) (looks c.args.follower.now) c.args.follower.now.kept) (sides_of (g.C.Clock.moments c.take_turn.new.clock) (hands.view c.take_turn.new.pass.pass) (looks c.take_turn.new.follower) c.take_turn.new.follower.kept) c.args.core.now.kind c.take_turn.new.core.kind (place_of (g.J.Sink.contents c.args.journal.now) (g.J.Journal.told c.args.journal.now) (g.W.Wires.seen c.args.wires.now) c.args.held.now (view c.args.seat.now)) (place_of (g.J.Sink.contents c.take_turn.new.journal) (g.J.Journal.told c.take_turn.new.journal) (g.W.Wires.seen c.take_turn.new.wires) c.take_turn.new.held (view c.take_turn.new.seat)) (works_end c.args.names.now (sides_of (g.C.Clock.moments c.args.clock.now) (hands.view c.args.pass.now.pass) (looks c.args.follower.now) c.args.follower.now.kept) (sides_of (g.C.Clock.moments c.take_turn.new.clock) (hands.view c.take_turn.new.pass.pass) (looks c.take_turn.new.follower) c.take_turn.new.follower.kept) c.args.core.now.kind c.take_turn.new.core.kind (place_of (g.J.Sink.contents c.args.journal.now) (g.J.Journal.told c.args.journal.now) (g.W.Wires.seen c.args.wires.now) c.args.held.now (view c.args.seat.now)) (place_of (g.J.Sink.contents c.take_turn.new.journal) (g.J.Journal.told c.take_turn.new.journal) (g.W.Wires.seen c.take_turn.new.wires) c.take_turn.new.held (view c.take_turn.new.seat)) c.args.turns c.in-Err.end (works_cut c.args.names.now c.turns.turn c.args.turns (sides_of (g.C.Clock.moments c.args.clock.now) (hands.view c.args.pass.now.pass) (looks c.args.follower.now) c.args.follower.now.kept) (sides_of (g.C.Clock.moments c.turns.clock) (hands.view c.turns.pass.pass) (looks c.turns.follower) c.turns.follower.kept) (sides_of (g.C.Clock.moments c.take_turn.new.clock) (hands.view c.take_turn.new.pass.pass) (looks c.take_turn.new.follower) c.take_turn.new.follower.kept) c.args.core.now.kind c.turns.core.kind c.take_turn.new.core.kind (place_of (g.J.Sink.contents c.args.journal.now) (g.J.Journal.told c.args.journal.now) (g.W.Wires.seen c.args.wires.now) c.args.held.now (view c.args.seat.now)) (place_of (g.J.Sink.contents c.turns.journal) (g.J.Journal.told c.turns.journal) (g.W.Wires.seen c.turns.wires) c.turns.held (view c.turns.seat)) (place_of (g.J.Sink.contents c.take_turn.new.journal) (g.J.Journal.told c.take_turn.new.journal) (g.W.Wires.seen c.take_turn.new.wires) c.take_turn.new.held (view c.take_turn.new.seat)) c.in-Err.end (omega arith) c.turns.invariant.turns c.in-Err.ensures.turns)) c.requires.core

pub returns-in-Err-clause-lines : goal.returns-in-Err-clause-lines
returns-in-Err-clause-lines g c = part_lines c.args.names.now c.in-Err.end (sides_of (g.C.Clock.moments c.args.clock.now) (hands.view c.args.pass.now.pass) (looks c.args.follower.now) c.args.follower.now.kept) (sides_of (g.C.Clock.moments c.take_turn.new.clock) (hands.view c.take_turn.new.pass.pass) (looks c.take_turn.new.follower) c.take_turn.new.follower.kept) c.args.core.now.kind c.take_turn.new.core.kind (place_of (g.J.Sink.contents c.args.journal.now) (g.J.Journal.told c.args.journal.now) (g.W.Wires.seen c.args.wires.now) c.args.held.now (view c.args.seat.now)) (place_of (g.J.Sink.contents c.take_turn.new.journal) (g.J.Journal.told c.take_turn.new.journal) (g.W.Wires.seen c.take_turn.new.wires) c.take_turn.new.held (view c.take_turn.new.seat)) (works_end c.args.names.now (sides_of (g.C.Clock.moments c.args.clock.now) (hands.view c.args.pass.now.pass) (looks c.args.follower.now) c.args.follower.now.kept) (sides_of (g.C.Clock.moments c.take_turn.new.clock) (hands.view c.take_turn.new.pass.pass) (looks c.take_turn.new.follower) c.take_turn.new.follower.kept) c.args.core.now.kind c.take_turn.new.core.kind (place_of (g.J.Sink.contents c.args.journal.now) (g.J.Journal.told c.args.journal.now) (g.W.Wires.seen c.args.wires.now) c.args.held.now (view c.args.seat.now)) (place_of (g.J.Sink.contents c.take_turn.new.journal) (g.J.Journal.told c.take_turn.new.journal) (g.W.Wires.seen c.take_turn.new.wires) c.take_turn.new.held (view c.take_turn.new.seat)) c.args.turns c.in-Err.end (works_cut c.args.names.now c.turns.turn c.args.turns (sides_of (g.C.Clock.moments c.args.clock.now) (hands.view c.args.pass.now.pass) (looks c.args.follower.now) c.args.follower.now.kept) (sides_of (g.C.Clock.moments c.turns.clock) (hands.view c.turns.pass.pass) (looks c.turns.follower) c.turns.follower.kept) (sides_of (g.C.Clock.moments c.take_turn.new.clock) (hands.view c.take_turn.new.pass.pass) (looks c.take_turn.new.follower) c.take_turn.new.follower.kept) c.args.core.now.kind c.turns.core.kind c.take_turn.new.core.kind (place_of (g.J.Sink.contents c.args.journal.now) (g.J.Journal.told c.args.journal.now) (g.W.Wires.seen c.args.wires.now) c.args.held.now (view c.args.seat.now)) (place_of (g.J.Sink.contents c.turns.journal) (g.J.Journal.told c.turns.journal) (g.W.Wires.seen c.turns.wires) c.turns.held (view c.turns.seat)) (place_of (g.J.Sink.contents c.take_turn.new.journal) (g.J.Journal.told c.take_turn.new.journal) (g.W.Wires.seen c.take_turn.new.wires) c.take_turn.new.held (view c.take_turn.new.seat)) c.in-Err.end (omega arith) c.turns.invariant.turns c.in-Err.ensures.turns)) c.requires.core

pub returns-in-Err-clause-tape : goal.returns-in-Err-clause-tape
returns-in-Err-clause-tape g c = part_tape c.args.names.now c.in-Err.end (sides_of (g.C.Clock.moments c.args.clock.now) (hands.view c.args.pass.now.pass) (looks c.args.follower.now) c.args.follower.now.kept) (sides_of (g.C.Clock.moments c.take_turn.new.clock) (hands.view c.take_turn.new.pass.pass) (looks c.take_turn.new.follower) c.take_turn.new.follower.kept) c.args.core.now.kind c.take_turn.new.core.kind (place_of (g.J.Sink.contents c.args.journal.now) (g.J.Journal.told c.args.journal.now) (g.W.Wires.seen c.args.wires.now) c.args.held.now (view c.args.seat.now)) (place_of (g.J.Sink.contents c.take_turn.new.journal) (g.J.Journal.told c.take_turn.new.journal) (g.W.Wires.seen c.take_turn.new.wires) c.take_turn.new.held (view c.take_turn.new.seat)) (works_end c.args.names.now (sides_of (g.C.Clock.moments c.args.clock.now) (hands.view c.args.pass.now.pass) (looks c.args.follower.now) c.args.follower.now.kept) (sides_of (g.C.Clock.moments c.take_turn.new.clock) (hands.view c.take_turn.new.pass.pass) (looks c.take_turn.new.follower) c.take_turn.new.follower.kept) c.args.core.now.kind c.take_turn.new.core.kind (place_of (g.J.Sink.contents c.args.journal.now) (g.J.Journal.told c.args.journal.now) (g.W.Wires.seen c.args.wires.now) c.args.held.now (view c.args.seat.now)) (place_of (g.J.Sink.contents c.take_turn.new.journal) (g.J.Journal.told c.take_turn.new.journal) (g.W.Wires.seen c.take_turn.new.wires) c.take_turn.new.held (view c.take_turn.new.seat)) c.args.turns c.in-Err.end (works_cut c.args.names.now c.turns.turn c.args.turns (sides_of (g.C.Clock.moments c.args.clock.now) (hands.view c.args.pass.now.pass) (looks c.args.follower.now) c.args.follower.now.kept) (sides_of (g.C.Clock.moments c.turns.clock) (hands.view c.turns.pass.pass) (looks c.turns.follower) c.turns.follower.kept) (sides_of (g.C.Clock.moments c.take_turn.new.clock) (hands.view c.take_turn.new.pass.pass) (looks c.take_turn.new.follower) c.take_turn.new.follower.kept) c.args.core.now.kind c.turns.core.kind c.take_turn.new.core.kind (place_of (g.J.Sink.contents c.args.journal.now) (g.J.Journal.told c.args.journal.now) (g.W.Wires.seen c.args.wires.now) c.args.held.now (view c.args.seat.now)) (place_of (g.J.Sink.contents c.turns.journal) (g.J.Journal.told c.turns.journal) (g.W.Wires.seen c.turns.wires) c.turns.held (view c.turns.seat)) (place_of (g.J.Sink.contents c.take_turn.new.journal) (g.J.Journal.told c.take_turn.new.journal) (g.W.Wires.seen c.take_turn.new.wires) c.take_turn.new.held (view c.take_turn.new.seat)) c.in-Err.end (omega arith) c.turns.invariant.turns c.in-Err.ensures.turns)) c.requires.core

pub returns-in-Err-clause-wires : goal.returns-in-Err-clause-wires
returns-in-Err-clause-wires g c = part_wires c.args.names.now c.in-Err.end (sides_of (g.C.Clock.moments c.args.clock.now) (hands.view c.args.pass.now.pass) (looks c.args.follower.now) c.args.follower.now.kept) (sides_of (g.C.Clock.moments c.take_turn.new.clock) (hands.view c.take_turn.new.pass.pass) (looks c.take_turn.new.follower) c.take_turn.new.follower.kept) c.args.core.now.kind c.take_turn.new.core.kind (place_of (g.J.Sink.contents c.args.journal.now) (g.J.Journal.told c.args.journal.now) (g.W.Wires.seen c.args.wires.now) c.args.held.now (view c.args.seat.now)) (place_of (g.J.Sink.contents c.take_turn.new.journal) (g.J.Journal.told c.take_turn.new.journal) (g.W.Wires.seen c.take_turn.new.wires) c.take_turn.new.held (view c.take_turn.new.seat)) (works_end c.args.names.now (sides_of (g.C.Clock.moments c.args.clock.now) (hands.view c.args.pass.now.pass) (looks c.args.follower.now) c.args.follower.now.kept) (sides_of (g.C.Clock.moments c.take_turn.new.clock) (hands.view c.take_turn.new.pass.pass) (looks c.take_turn.new.follower) c.take_turn.new.follower.kept) c.args.core.now.kind c.take_turn.new.core.kind (place_of (g.J.Sink.contents c.args.journal.now) (g.J.Journal.told c.args.journal.now) (g.W.Wires.seen c.args.wires.now) c.args.held.now (view c.args.seat.now)) (place_of (g.J.Sink.contents c.take_turn.new.journal) (g.J.Journal.told c.take_turn.new.journal) (g.W.Wires.seen c.take_turn.new.wires) c.take_turn.new.held (view c.take_turn.new.seat)) c.args.turns c.in-Err.end (works_cut c.args.names.now c.turns.turn c.args.turns (sides_of (g.C.Clock.moments c.args.clock.now) (hands.view c.args.pass.now.pass) (looks c.args.follower.now) c.args.follower.now.kept) (sides_of (g.C.Clock.moments c.turns.clock) (hands.view c.turns.pass.pass) (looks c.turns.follower) c.turns.follower.kept) (sides_of (g.C.Clock.moments c.take_turn.new.clock) (hands.view c.take_turn.new.pass.pass) (looks c.take_turn.new.follower) c.take_turn.new.follower.kept) c.args.core.now.kind c.turns.core.kind c.take_turn.new.core.kind (place_of (g.J.Sink.contents c.args.journal.now) (g.J.Journal.told c.args.journal.now) (g.W.Wires.seen c.args.wires.now) c.args.held.now (view c.args.seat.now)) (place_of (g.J.Sink.contents c.turns.journal) (g.J.Journal.told c.turns.journal) (g.W.Wires.seen c.turns.wires) c.turns.held (view c.turns.seat)) (place_of (g.J.Sink.contents c.take_turn.new.journal) (g.J.Journal.told c.take_turn.new.journal) (g.W.Wires.seen c.take_turn.new.wires) c.take_turn.new.held (view c.take_turn.new.seat)) c.in-Err.end (omega arith) c.turns.invariant.turns c.in-Err.ensures.turns)) c.requires.core

pub returns-in-Err-clause-octets : goal.returns-in-Err-clause-octets
returns-in-Err-clause-octets g c = part_octets c.args.names.now c.in-Err.end (sides_of (g.C.Clock.moments c.args.clock.now) (hands.view c.args.pass.now.pass) (looks c.args.follower.now) c.args.follower.now.kept) (sides_of (g.C.Clock.moments c.take_turn.new.clock) (hands.view c.take_turn.new.pass.pass) (looks c.take_turn.new.follower) c.take_turn.new.follower.kept) c.args.core.now.kind c.take_turn.new.core.kind (place_of (g.J.Sink.contents c.args.journal.now) (g.J.Journal.told c.args.journal.now) (g.W.Wires.seen c.args.wires.now) c.args.held.now (view c.args.seat.now)) (place_of (g.J.Sink.contents c.take_turn.new.journal) (g.J.Journal.told c.take_turn.new.journal) (g.W.Wires.seen c.take_turn.new.wires) c.take_turn.new.held (view c.take_turn.new.seat)) (works_end c.args.names.now (sides_of (g.C.Clock.moments c.args.clock.now) (hands.view c.args.pass.now.pass) (looks c.args.follower.now) c.args.follower.now.kept) (sides_of (g.C.Clock.moments c.take_turn.new.clock) (hands.view c.take_turn.new.pass.pass) (looks c.take_turn.new.follower) c.take_turn.new.follower.kept) c.args.core.now.kind c.take_turn.new.core.kind (place_of (g.J.Sink.contents c.args.journal.now) (g.J.Journal.told c.args.journal.now) (g.W.Wires.seen c.args.wires.now) c.args.held.now (view c.args.seat.now)) (place_of (g.J.Sink.contents c.take_turn.new.journal) (g.J.Journal.told c.take_turn.new.journal) (g.W.Wires.seen c.take_turn.new.wires) c.take_turn.new.held (view c.take_turn.new.seat)) c.args.turns c.in-Err.end (works_cut c.args.names.now c.turns.turn c.args.turns (sides_of (g.C.Clock.moments c.args.clock.now) (hands.view c.args.pass.now.pass) (looks c.args.follower.now) c.args.follower.now.kept) (sides_of (g.C.Clock.moments c.turns.clock) (hands.view c.turns.pass.pass) (looks c.turns.follower) c.turns.follower.kept) (sides_of (g.C.Clock.moments c.take_turn.new.clock) (hands.view c.take_turn.new.pass.pass) (looks c.take_turn.new.follower) c.take_turn.new.follower.kept) c.args.core.now.kind c.turns.core.kind c.take_turn.new.core.kind (place_of (g.J.Sink.contents c.args.journal.now) (g.J.Journal.told c.args.journal.now) (g.W.Wires.seen c.args.wires.now) c.args.held.now (view c.args.seat.now)) (place_of (g.J.Sink.contents c.turns.journal) (g.J.Journal.told c.turns.journal) (g.W.Wires.seen c.turns.wires) c.turns.held (view c.turns.seat)) (place_of (g.J.Sink.contents c.take_turn.new.journal) (g.J.Journal.told c.take_turn.new.journal) (g.W.Wires.seen c.take_turn.new.wires) c.take_turn.new.held (view c.take_turn.new.seat)) c.in-Err.end (omega arith) c.turns.invariant.turns c.in-Err.ensures.turns)) c.requires.core

pub returns-in-Err-clause-turns : goal.returns-in-Err-clause-turns
returns-in-Err-clause-turns g c = part_turns c.args.names.now c.in-Err.end (sides_of (g.C.Clock.moments c.args.clock.now) (hands.view c.args.pass.now.pass) (looks c.args.follower.now) c.args.follower.now.kept) (sides_of (g.C.Clock.moments c.take_turn.new.clock) (hands.view c.take_turn.new.pass.pass) (looks c.take_turn.new.follower) c.take_turn.new.follower.kept) c.args.core.now.kind c.take_turn.new.core.kind (place_of (g.J.Sink.contents c.args.journal.now) (g.J.Journal.told c.args.journal.now) (g.W.Wires.seen c.args.wires.now) c.args.held.now (view c.args.seat.now)) (place_of (g.J.Sink.contents c.take_turn.new.journal) (g.J.Journal.told c.take_turn.new.journal) (g.W.Wires.seen c.take_turn.new.wires) c.take_turn.new.held (view c.take_turn.new.seat)) (works_end c.args.names.now (sides_of (g.C.Clock.moments c.args.clock.now) (hands.view c.args.pass.now.pass) (looks c.args.follower.now) c.args.follower.now.kept) (sides_of (g.C.Clock.moments c.take_turn.new.clock) (hands.view c.take_turn.new.pass.pass) (looks c.take_turn.new.follower) c.take_turn.new.follower.kept) c.args.core.now.kind c.take_turn.new.core.kind (place_of (g.J.Sink.contents c.args.journal.now) (g.J.Journal.told c.args.journal.now) (g.W.Wires.seen c.args.wires.now) c.args.held.now (view c.args.seat.now)) (place_of (g.J.Sink.contents c.take_turn.new.journal) (g.J.Journal.told c.take_turn.new.journal) (g.W.Wires.seen c.take_turn.new.wires) c.take_turn.new.held (view c.take_turn.new.seat)) c.args.turns c.in-Err.end (works_cut c.args.names.now c.turns.turn c.args.turns (sides_of (g.C.Clock.moments c.args.clock.now) (hands.view c.args.pass.now.pass) (looks c.args.follower.now) c.args.follower.now.kept) (sides_of (g.C.Clock.moments c.turns.clock) (hands.view c.turns.pass.pass) (looks c.turns.follower) c.turns.follower.kept) (sides_of (g.C.Clock.moments c.take_turn.new.clock) (hands.view c.take_turn.new.pass.pass) (looks c.take_turn.new.follower) c.take_turn.new.follower.kept) c.args.core.now.kind c.turns.core.kind c.take_turn.new.core.kind (place_of (g.J.Sink.contents c.args.journal.now) (g.J.Journal.told c.args.journal.now) (g.W.Wires.seen c.args.wires.now) c.args.held.now (view c.args.seat.now)) (place_of (g.J.Sink.contents c.turns.journal) (g.J.Journal.told c.turns.journal) (g.W.Wires.seen c.turns.wires) c.turns.held (view c.turns.seat)) (place_of (g.J.Sink.contents c.take_turn.new.journal) (g.J.Journal.told c.take_turn.new.journal) (g.W.Wires.seen c.take_turn.new.wires) c.take_turn.new.held (view c.take_turn.new.seat)) c.in-Err.end (omega arith) c.turns.invariant.turns c.in-Err.ensures.turns)) c.requires.core c.args.turns (works_whole c.args.names.now c.args.turns (sides_of (g.C.Clock.moments c.args.clock.now) (hands.view c.args.pass.now.pass) (looks c.args.follower.now) c.args.follower.now.kept) (sides_of (g.C.Clock.moments c.take_turn.new.clock) (hands.view c.take_turn.new.pass.pass) (looks c.take_turn.new.follower) c.take_turn.new.follower.kept) c.args.core.now.kind c.take_turn.new.core.kind (place_of (g.J.Sink.contents c.args.journal.now) (g.J.Journal.told c.args.journal.now) (g.W.Wires.seen c.args.wires.now) c.args.held.now (view c.args.seat.now)) (place_of (g.J.Sink.contents c.take_turn.new.journal) (g.J.Journal.told c.take_turn.new.journal) (g.W.Wires.seen c.take_turn.new.wires) c.take_turn.new.held (view c.take_turn.new.seat)) c.in-Err.end (works_cut c.args.names.now c.turns.turn c.args.turns (sides_of (g.C.Clock.moments c.args.clock.now) (hands.view c.args.pass.now.pass) (looks c.args.follower.now) c.args.follower.now.kept) (sides_of (g.C.Clock.moments c.turns.clock) (hands.view c.turns.pass.pass) (looks c.turns.follower) c.turns.follower.kept) (sides_of (g.C.Clock.moments c.take_turn.new.clock) (hands.view c.take_turn.new.pass.pass) (looks c.take_turn.new.follower) c.take_turn.new.follower.kept) c.args.core.now.kind c.turns.core.kind c.take_turn.new.core.kind (place_of (g.J.Sink.contents c.args.journal.now) (g.J.Journal.told c.args.journal.now) (g.W.Wires.seen c.args.wires.now) c.args.held.now (view c.args.seat.now)) (place_of (g.J.Sink.contents c.turns.journal) (g.J.Journal.told c.turns.journal) (g.W.Wires.seen c.turns.wires) c.turns.held (view c.turns.seat)) (place_of (g.J.Sink.contents c.take_turn.new.journal) (g.J.Journal.told c.take_turn.new.journal) (g.W.Wires.seen c.take_turn.new.wires) c.take_turn.new.held (view c.take_turn.new.seat)) c.in-Err.end (omega arith) c.turns.invariant.turns c.in-Err.ensures.turns))

pub returns-in-Err-clause-pass : goal.returns-in-Err-clause-pass
returns-in-Err-clause-pass g c = c.take_turn.ensures.pass

pub returns-in-Err-clause-keeps : goal.returns-in-Err-clause-keeps
returns-in-Err-clause-keeps g c = keeps_more c.args.permits.now (g.W.Wires.seen c.args.wires.now) (g.W.Wires.seen c.turns.wires) (g.W.Wires.seen c.take_turn.new.wires) c.args.held.now c.turns.held c.take_turn.new.held (view c.args.seat.now) c.turns.seat c.take_turn.new.seat c.turns.invariant.keeps c.take_turn.ensures.keeps

pub returns-in-Err-clause-wires_fault : goal.returns-in-Err-clause-wires_fault
returns-in-Err-clause-wires_fault g c = λ e. rose_later (g.W.Wires.faults c.args.wires.now) (g.W.Wires.faults c.turns.wires) (g.W.Wires.faults c.take_turn.new.wires) c.turns.invariant.wires (c.in-Err.ensures.rises.wires_fault (ap (λ (x : End). Err x) e))

pub returns-in-Err-clause-journal_fault : goal.returns-in-Err-clause-journal_fault
returns-in-Err-clause-journal_fault g c = λ e. rose_later (g.J.Sink.faults c.args.journal.now) (g.J.Sink.faults c.turns.journal) (g.J.Sink.faults c.take_turn.new.journal) c.turns.invariant.journal (c.in-Err.ensures.rises.journal_fault (ap (λ (x : End). Err x) e))

pub returns-clause-works : goal.returns-clause-works
returns-clause-works g c = (turns_at c.turns.turn c.args.turns (omega arith) c.turns.invariant.turns)

pub returns-clause-core : goal.returns-clause-core
returns-clause-core g c = part_core c.args.names.now ended.Turns (sides_of (g.C.Clock.moments c.args.clock.now) (hands.view c.args.pass.now.pass) (looks c.args.follower.now) c.args.follower.now.kept) (sides_of (g.C.Clock.moments c.turns.clock) (hands.view c.turns.pass.pass) (looks c.turns.follower) c.turns.follower.kept) c.args.core.now.kind c.turns.core.kind (place_of (g.J.Sink.contents c.args.journal.now) (g.J.Journal.told c.args.journal.now) (g.W.Wires.seen c.args.wires.now) c.args.held.now (view c.args.seat.now)) (place_of (g.J.Sink.contents c.turns.journal) (g.J.Journal.told c.turns.journal) (g.W.Wires.seen c.turns.wires) c.turns.held (view c.turns.seat)) (works_end c.args.names.now (sides_of (g.C.Clock.moments c.args.clock.now) (hands.view c.args.pass.now.pass) (looks c.args.follower.now) c.args.follower.now.kept) (sides_of (g.C.Clock.moments c.turns.clock) (hands.view c.turns.pass.pass) (looks c.turns.follower) c.turns.follower.kept) c.args.core.now.kind c.turns.core.kind (place_of (g.J.Sink.contents c.args.journal.now) (g.J.Journal.told c.args.journal.now) (g.W.Wires.seen c.args.wires.now) c.args.held.now (view c.args.seat.now)) (place_of (g.J.Sink.contents c.turns.journal) (g.J.Journal.told c.turns.journal) (g.W.Wires.seen c.turns.wires) c.turns.held (view c.turns.seat)) c.args.turns ended.Turns (turns_at c.turns.turn c.args.turns (omega arith) c.turns.invariant.turns)) c.requires.core

pub returns-clause-lines : goal.returns-clause-lines
returns-clause-lines g c = part_lines c.args.names.now ended.Turns (sides_of (g.C.Clock.moments c.args.clock.now) (hands.view c.args.pass.now.pass) (looks c.args.follower.now) c.args.follower.now.kept) (sides_of (g.C.Clock.moments c.turns.clock) (hands.view c.turns.pass.pass) (looks c.turns.follower) c.turns.follower.kept) c.args.core.now.kind c.turns.core.kind (place_of (g.J.Sink.contents c.args.journal.now) (g.J.Journal.told c.args.journal.now) (g.W.Wires.seen c.args.wires.now) c.args.held.now (view c.args.seat.now)) (place_of (g.J.Sink.contents c.turns.journal) (g.J.Journal.told c.turns.journal) (g.W.Wires.seen c.turns.wires) c.turns.held (view c.turns.seat)) (works_end c.args.names.now (sides_of (g.C.Clock.moments c.args.clock.now) (hands.view c.args.pass.now.pass) (looks c.args.follower.now) c.args.follower.now.kept) (sides_of (g.C.Clock.moments c.turns.clock) (hands.view c.turns.pass.pass) (looks c.turns.follower) c.turns.follower.kept) c.args.core.now.kind c.turns.core.kind (place_of (g.J.Sink.contents c.args.journal.now) (g.J.Journal.told c.args.journal.now) (g.W.Wires.seen c.args.wires.now) c.args.held.now (view c.args.seat.now)) (place_of (g.J.Sink.contents c.turns.journal) (g.J.Journal.told c.turns.journal) (g.W.Wires.seen c.turns.wires) c.turns.held (view c.turns.seat)) c.args.turns ended.Turns (turns_at c.turns.turn c.args.turns (omega arith) c.turns.invariant.turns)) c.requires.core

pub returns-clause-tape : goal.returns-clause-tape
returns-clause-tape g c = part_tape c.args.names.now ended.Turns (sides_of (g.C.Clock.moments c.args.clock.now) (hands.view c.args.pass.now.pass) (looks c.args.follower.now) c.args.follower.now.kept) (sides_of (g.C.Clock.moments c.turns.clock) (hands.view c.turns.pass.pass) (looks c.turns.follower) c.turns.follower.kept) c.args.core.now.kind c.turns.core.kind (place_of (g.J.Sink.contents c.args.journal.now) (g.J.Journal.told c.args.journal.now) (g.W.Wires.seen c.args.wires.now) c.args.held.now (view c.args.seat.now)) (place_of (g.J.Sink.contents c.turns.journal) (g.J.Journal.told c.turns.journal) (g.W.Wires.seen c.turns.wires) c.turns.held (view c.turns.seat)) (works_end c.args.names.now (sides_of (g.C.Clock.moments c.args.clock.now) (hands.view c.args.pass.now.pass) (looks c.args.follower.now) c.args.follower.now.kept) (sides_of (g.C.Clock.moments c.turns.clock) (hands.view c.turns.pass.pass) (looks c.turns.follower) c.turns.follower.kept) c.args.core.now.kind c.turns.core.kind (place_of (g.J.Sink.contents c.args.journal.now) (g.J.Journal.told c.args.journal.now) (g.W.Wires.seen c.args.wires.now) c.args.held.now (view c.args.seat.now)) (place_of (g.J.Sink.contents c.turns.journal) (g.J.Journal.told c.turns.journal) (g.W.Wires.seen c.turns.wires) c.turns.held (view c.turns.seat)) c.args.turns ended.Turns (turns_at c.turns.turn c.args.turns (omega arith) c.turns.invariant.turns)) c.requires.core

pub returns-clause-wires : goal.returns-clause-wires
returns-clause-wires g c = part_wires c.args.names.now ended.Turns (sides_of (g.C.Clock.moments c.args.clock.now) (hands.view c.args.pass.now.pass) (looks c.args.follower.now) c.args.follower.now.kept) (sides_of (g.C.Clock.moments c.turns.clock) (hands.view c.turns.pass.pass) (looks c.turns.follower) c.turns.follower.kept) c.args.core.now.kind c.turns.core.kind (place_of (g.J.Sink.contents c.args.journal.now) (g.J.Journal.told c.args.journal.now) (g.W.Wires.seen c.args.wires.now) c.args.held.now (view c.args.seat.now)) (place_of (g.J.Sink.contents c.turns.journal) (g.J.Journal.told c.turns.journal) (g.W.Wires.seen c.turns.wires) c.turns.held (view c.turns.seat)) (works_end c.args.names.now (sides_of (g.C.Clock.moments c.args.clock.now) (hands.view c.args.pass.now.pass) (looks c.args.follower.now) c.args.follower.now.kept) (sides_of (g.C.Clock.moments c.turns.clock) (hands.view c.turns.pass.pass) (looks c.turns.follower) c.turns.follower.kept) c.args.core.now.kind c.turns.core.kind (place_of (g.J.Sink.contents c.args.journal.now) (g.J.Journal.told c.args.journal.now) (g.W.Wires.seen c.args.wires.now) c.args.held.now (view c.args.seat.now)) (place_of (g.J.Sink.contents c.turns.journal) (g.J.Journal.told c.turns.journal) (g.W.Wires.seen c.turns.wires) c.turns.held (view c.turns.seat)) c.args.turns ended.Turns (turns_at c.turns.turn c.args.turns (omega arith) c.turns.invariant.turns)) c.requires.core

pub returns-clause-octets : goal.returns-clause-octets
returns-clause-octets g c = part_octets c.args.names.now ended.Turns (sides_of (g.C.Clock.moments c.args.clock.now) (hands.view c.args.pass.now.pass) (looks c.args.follower.now) c.args.follower.now.kept) (sides_of (g.C.Clock.moments c.turns.clock) (hands.view c.turns.pass.pass) (looks c.turns.follower) c.turns.follower.kept) c.args.core.now.kind c.turns.core.kind (place_of (g.J.Sink.contents c.args.journal.now) (g.J.Journal.told c.args.journal.now) (g.W.Wires.seen c.args.wires.now) c.args.held.now (view c.args.seat.now)) (place_of (g.J.Sink.contents c.turns.journal) (g.J.Journal.told c.turns.journal) (g.W.Wires.seen c.turns.wires) c.turns.held (view c.turns.seat)) (works_end c.args.names.now (sides_of (g.C.Clock.moments c.args.clock.now) (hands.view c.args.pass.now.pass) (looks c.args.follower.now) c.args.follower.now.kept) (sides_of (g.C.Clock.moments c.turns.clock) (hands.view c.turns.pass.pass) (looks c.turns.follower) c.turns.follower.kept) c.args.core.now.kind c.turns.core.kind (place_of (g.J.Sink.contents c.args.journal.now) (g.J.Journal.told c.args.journal.now) (g.W.Wires.seen c.args.wires.now) c.args.held.now (view c.args.seat.now)) (place_of (g.J.Sink.contents c.turns.journal) (g.J.Journal.told c.turns.journal) (g.W.Wires.seen c.turns.wires) c.turns.held (view c.turns.seat)) c.args.turns ended.Turns (turns_at c.turns.turn c.args.turns (omega arith) c.turns.invariant.turns)) c.requires.core

pub returns-clause-turns : goal.returns-clause-turns
returns-clause-turns g c = part_turns c.args.names.now ended.Turns (sides_of (g.C.Clock.moments c.args.clock.now) (hands.view c.args.pass.now.pass) (looks c.args.follower.now) c.args.follower.now.kept) (sides_of (g.C.Clock.moments c.turns.clock) (hands.view c.turns.pass.pass) (looks c.turns.follower) c.turns.follower.kept) c.args.core.now.kind c.turns.core.kind (place_of (g.J.Sink.contents c.args.journal.now) (g.J.Journal.told c.args.journal.now) (g.W.Wires.seen c.args.wires.now) c.args.held.now (view c.args.seat.now)) (place_of (g.J.Sink.contents c.turns.journal) (g.J.Journal.told c.turns.journal) (g.W.Wires.seen c.turns.wires) c.turns.held (view c.turns.seat)) (works_end c.args.names.now (sides_of (g.C.Clock.moments c.args.clock.now) (hands.view c.args.pass.now.pass) (looks c.args.follower.now) c.args.follower.now.kept) (sides_of (g.C.Clock.moments c.turns.clock) (hands.view c.turns.pass.pass) (looks c.turns.follower) c.turns.follower.kept) c.args.core.now.kind c.turns.core.kind (place_of (g.J.Sink.contents c.args.journal.now) (g.J.Journal.told c.args.journal.now) (g.W.Wires.seen c.args.wires.now) c.args.held.now (view c.args.seat.now)) (place_of (g.J.Sink.contents c.turns.journal) (g.J.Journal.told c.turns.journal) (g.W.Wires.seen c.turns.wires) c.turns.held (view c.turns.seat)) c.args.turns ended.Turns (turns_at c.turns.turn c.args.turns (omega arith) c.turns.invariant.turns)) c.requires.core c.args.turns (works_whole c.args.names.now c.args.turns (sides_of (g.C.Clock.moments c.args.clock.now) (hands.view c.args.pass.now.pass) (looks c.args.follower.now) c.args.follower.now.kept) (sides_of (g.C.Clock.moments c.turns.clock) (hands.view c.turns.pass.pass) (looks c.turns.follower) c.turns.follower.kept) c.args.core.now.kind c.turns.core.kind (place_of (g.J.Sink.contents c.args.journal.now) (g.J.Journal.told c.args.journal.now) (g.W.Wires.seen c.args.wires.now) c.args.held.now (view c.args.seat.now)) (place_of (g.J.Sink.contents c.turns.journal) (g.J.Journal.told c.turns.journal) (g.W.Wires.seen c.turns.wires) c.turns.held (view c.turns.seat)) ended.Turns (turns_at c.turns.turn c.args.turns (omega arith) c.turns.invariant.turns))

pub returns-clause-pass : goal.returns-clause-pass
returns-clause-pass g c = c.turns.invariant.pass

pub returns-clause-keeps : goal.returns-clause-keeps
returns-clause-keeps g c = c.turns.invariant.keeps

pub returns-clause-wires_fault : goal.returns-clause-wires_fault
returns-clause-wires_fault g c = λ e. cc

pub returns-clause-journal_fault : goal.returns-clause-journal_fault
returns-clause-journal_fault g c = λ e. cc
