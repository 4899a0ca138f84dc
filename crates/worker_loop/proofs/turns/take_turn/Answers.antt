-- A turn, one call after the other.
use Rattle.flow_notes.specs.declared.events.Event.TheVariants as event
use Rattle.post_queue.specs.Pass as hands
use Rattle.shared_state.specs.Following.{looks}
use Rattle.shared_state.specs.PermitSeats.{view}
use Rattle.std.proofs.Common.{arith, refl, ◌∙◌}
use Rattle.std.proofs.lemmas.Result.{err_from_is_err_and}
use Rattle.std.specs.Prelude.{Bool}
use Rattle.worker_loop.proofs.Keeping.{keeps_more, rises_err, rises_memory, rises_more, rises_ok}
use Rattle.worker_loop.proofs.Carrying.{front_of_kept, obeyed_as}
use Rattle.worker_loop.proofs.Turning.{allowed_as, asks_once, broke_drain, broke_obey, broke_offering, broke_posts, broke_taking, broke_tick, cuts_memory, cuts_one, drained_as, turn_is}
use Rattle.worker_loop.specs.Carrying.{pressures_in}
use Rattle.worker_loop.specs.Places.{place_of}
use Rattle.worker_loop.specs.Turns.{sides_of}
use Rattle.worker_loop.specs.declared.turns.Ended.TheVariants as ended
use Rattle.worker_loop.proofs.turns.take_turn.Goals as goal

pub carry_out-requires-clause-core : goal.carry_out-requires-clause-core
carry_out-requires-clause-core g c = c.requires.core

pub carry_out-requires-clause-event : goal.carry_out-requires-clause-event
carry_out-requires-clause-event g c = omega (arith, c.now.ensures.below)

pub carry_out-requires-clause-holds : goal.carry_out-requires-clause-holds
carry_out-requires-clause-holds g c = c.requires.holds

pub returns-in_err-carry_out-clause-turns : goal.returns-in_err-carry_out-clause-turns
returns-in_err-carry_out-clause-turns g c =
    let p = err_from_is_err_and c.from_residual.result c.from_residual.ensures.1 in
    rw (p.1, p.2) (broke_tick c.args.names.now _ (g.C.Clock.moments c.args.clock.now) (g.C.Clock.moments c.now.new.self) (hands.view c.args.pass.now.pass) (looks c.args.follower.now) c.args.follower.now.kept c.now.result c.args.core.now.kind c.carry_out.new.core.kind (place_of (g.J.Sink.contents c.args.journal.now) (g.J.Journal.told c.args.journal.now) (g.W.Wires.seen c.args.wires.now) c.args.held.now (view c.args.seat.now)) (place_of (g.J.Sink.contents c.carry_out.new.journal) (g.J.Journal.told c.carry_out.new.journal) (g.W.Wires.seen c.carry_out.new.wires) c.carry_out.new.held (view c.carry_out.new.seat)) c.now.ensures.tells c.in_err-carry_out.ensures.carries)

pub returns-in_err-carry_out-clause-pass : goal.returns-in_err-carry_out-clause-pass
returns-in_err-carry_out-clause-pass g c = c.requires.pass

pub returns-in_err-carry_out-clause-keeps : goal.returns-in_err-carry_out-clause-keeps
returns-in_err-carry_out-clause-keeps g c = c.carry_out.ensures.keeps

pub returns-in_err-carry_out-clause-rises : goal.returns-in_err-carry_out-clause-rises
returns-in_err-carry_out-clause-rises g c =
    let p = err_from_is_err_and c.from_residual.result c.from_residual.ensures.1 in
    rw (p.1, p.2) (rises_err {T = Unit {0}} {U = Bool} _ (g.W.Wires.faults c.args.wires.now) (g.W.Wires.faults c.carry_out.new.wires) (g.J.Sink.faults c.args.journal.now) (g.J.Sink.faults c.carry_out.new.journal) c.in_err-carry_out.ensures.rises)

pub drain_if_any-requires : goal.drain_if_any-requires
drain_if_any-requires g c = c.requires.pass

pub returns-in-Err-clause-turns : goal.returns-in-Err-clause-turns
returns-in-Err-clause-turns g c =
    broke_drain c.args.names.now ended.Memory (sides_of (g.C.Clock.moments c.args.clock.now) (hands.view c.args.pass.now.pass) (looks c.args.follower.now) c.args.follower.now.kept) (sides_of (g.C.Clock.moments c.now.new.self) (hands.view c.drain_if_any.new.pass.pass) (looks c.args.follower.now) c.args.follower.now.kept) c.now.result c.args.core.now.kind c.carry_out.new.core.kind c.carry_out.new.core.kind (place_of (g.J.Sink.contents c.args.journal.now) (g.J.Journal.told c.args.journal.now) (g.W.Wires.seen c.args.wires.now) c.args.held.now (view c.args.seat.now)) (place_of (g.J.Sink.contents c.carry_out.new.journal) (g.J.Journal.told c.carry_out.new.journal) (g.W.Wires.seen c.carry_out.new.wires) c.carry_out.new.held (view c.carry_out.new.seat)) (place_of (g.J.Sink.contents c.carry_out.new.journal) (g.J.Journal.told c.carry_out.new.journal) (g.W.Wires.seen c.carry_out.new.wires) c.carry_out.new.held (view c.carry_out.new.seat)) c.now.ensures.tells c.in-Err.ensures.err c.in_ok-carry_out.ensures.carries
    (cuts_memory c.args.names.now c.carry_out.new.core.kind c.carry_out.new.core.kind (place_of (g.J.Sink.contents c.carry_out.new.journal) (g.J.Journal.told c.carry_out.new.journal) (g.W.Wires.seen c.carry_out.new.wires) c.carry_out.new.held (view c.carry_out.new.seat)))

pub returns-in-Err-clause-pass : goal.returns-in-Err-clause-pass
returns-in-Err-clause-pass g c = c.drain_if_any.ensures.pass

pub returns-in-Err-clause-keeps : goal.returns-in-Err-clause-keeps
returns-in-Err-clause-keeps g c = c.carry_out.ensures.keeps

pub returns-in-Err-clause-rises : goal.returns-in-Err-clause-rises
returns-in-Err-clause-rises g c = rises_memory (g.W.Wires.faults c.args.wires.now) (g.W.Wires.faults c.carry_out.new.wires) (g.J.Sink.faults c.args.journal.now) (g.J.Sink.faults c.carry_out.new.journal) c.carry_out.ensures.rises.at_wires c.carry_out.ensures.rises.at_journal

pub run_posts-requires-clause-core : goal.run_posts-requires-clause-core
run_posts-requires-clause-core g c = c.in_ok-carry_out.ensures.carries.rests

pub run_posts-requires-clause-holds : goal.run_posts-requires-clause-holds
run_posts-requires-clause-holds g c = c.carry_out.ensures.keeps.holds

pub run_posts-requires-clause-posts : goal.run_posts-requires-clause-posts
run_posts-requires-clause-posts g c = allowed_as c.as_slice-drained.result.now _ c.as_slice-drained.ensures c.in-Ok.ensures.allowed

pub returns-in_err-run_posts-clause-turns : goal.returns-in_err-run_posts-clause-turns
returns-in_err-run_posts-clause-turns g c =
    let p = err_from_is_err_and c.from_residual-in_err-run_posts.result c.from_residual-in_err-run_posts.ensures.1 in
    rw (p.1, p.2) (broke_posts c.args.names.now _ (sides_of (g.C.Clock.moments c.args.clock.now) (hands.view c.args.pass.now.pass) (looks c.args.follower.now) c.args.follower.now.kept) (sides_of (g.C.Clock.moments c.now.new.self) (hands.view c.drain_if_any.new.pass.pass) (looks c.args.follower.now) c.args.follower.now.kept) c.now.result c.as_slice-drained.result.now c.args.core.now.kind c.carry_out.new.core.kind c.run_posts.new.core.kind (place_of (g.J.Sink.contents c.args.journal.now) (g.J.Journal.told c.args.journal.now) (g.W.Wires.seen c.args.wires.now) c.args.held.now (view c.args.seat.now)) (place_of (g.J.Sink.contents c.carry_out.new.journal) (g.J.Journal.told c.carry_out.new.journal) (g.W.Wires.seen c.carry_out.new.wires) c.carry_out.new.held (view c.carry_out.new.seat)) (place_of (g.J.Sink.contents c.run_posts.new.journal) (g.J.Journal.told c.run_posts.new.journal) (g.W.Wires.seen c.run_posts.new.wires) c.run_posts.new.held (view c.run_posts.new.seat)) c.now.ensures.tells (drained_as c.as_slice-drained.result.now _ _ _ c.as_slice-drained.ensures c.in-Ok.ensures.ran) c.in_ok-carry_out.ensures.carries c.in_err-run_posts.ensures.runs)

pub returns-in_err-run_posts-clause-pass : goal.returns-in_err-run_posts-clause-pass
returns-in_err-run_posts-clause-pass g c = c.drain_if_any.ensures.pass

pub returns-in_err-run_posts-clause-keeps : goal.returns-in_err-run_posts-clause-keeps
returns-in_err-run_posts-clause-keeps g c = keeps_more c.args.permits.now (g.W.Wires.seen c.args.wires.now) (g.W.Wires.seen c.carry_out.new.wires) (g.W.Wires.seen c.run_posts.new.wires) c.args.held.now c.carry_out.new.held c.run_posts.new.held (view c.args.seat.now) c.carry_out.new.seat c.run_posts.new.seat c.carry_out.ensures.keeps c.run_posts.ensures.keeps

pub returns-in_err-run_posts-clause-rises : goal.returns-in_err-run_posts-clause-rises
returns-in_err-run_posts-clause-rises g c =
    let p = err_from_is_err_and c.from_residual-in_err-run_posts.result c.from_residual-in_err-run_posts.ensures.1 in
    rw (p.1, p.2) (rises_err {T = Unit {0}} {U = Bool} _ (g.W.Wires.faults c.args.wires.now) (g.W.Wires.faults c.run_posts.new.wires) (g.J.Sink.faults c.args.journal.now) (g.J.Sink.faults c.run_posts.new.journal) (rises_more _ (g.W.Wires.faults c.args.wires.now) (g.W.Wires.faults c.carry_out.new.wires) (g.W.Wires.faults c.run_posts.new.wires) (g.J.Sink.faults c.args.journal.now) (g.J.Sink.faults c.carry_out.new.journal) (g.J.Sink.faults c.run_posts.new.journal) (omega (arith, c.carry_out.ensures.rises.at_wires)) (omega (arith, c.carry_out.ensures.rises.at_journal)) c.in_err-run_posts.ensures.rises))

pub same-list : goal.same-list
same-list g c = refl

pub returns-in-Err-newer-clause-turns : goal.returns-in-Err-newer-clause-turns
returns-in-Err-newer-clause-turns g c =
    broke_obey c.args.names.now ended.Memory (sides_of (g.C.Clock.moments c.args.clock.now) (hands.view c.args.pass.now.pass) (looks c.args.follower.now) c.args.follower.now.kept) (sides_of (g.C.Clock.moments c.now.new.self) (hands.view c.drain_if_any.new.pass.pass) (looks c.newer.new.self) c.newer.new.self.kept) c.now.result c.as_slice-drained.result.now c.args.core.now.kind c.carry_out.new.core.kind c.run_posts.new.core.kind c.run_posts.new.core.kind (place_of (g.J.Sink.contents c.args.journal.now) (g.J.Journal.told c.args.journal.now) (g.W.Wires.seen c.args.wires.now) c.args.held.now (view c.args.seat.now)) (place_of (g.J.Sink.contents c.carry_out.new.journal) (g.J.Journal.told c.carry_out.new.journal) (g.W.Wires.seen c.carry_out.new.wires) c.carry_out.new.held (view c.carry_out.new.seat)) (place_of (g.J.Sink.contents c.run_posts.new.journal) (g.J.Journal.told c.run_posts.new.journal) (g.W.Wires.seen c.run_posts.new.wires) c.run_posts.new.held (view c.run_posts.new.seat)) (place_of (g.J.Sink.contents c.run_posts.new.journal) (g.J.Journal.told c.run_posts.new.journal) (g.W.Wires.seen c.run_posts.new.wires) c.run_posts.new.held (view c.run_posts.new.seat)) c.now.ensures.tells (drained_as c.as_slice-drained.result.now _ _ _ c.as_slice-drained.ensures c.in-Ok.ensures.ran) c.in_ok-carry_out.ensures.carries c.in_ok-run_posts.ensures.runs
    (cuts_memory c.args.names.now c.run_posts.new.core.kind c.run_posts.new.core.kind (place_of (g.J.Sink.contents c.run_posts.new.journal) (g.J.Journal.told c.run_posts.new.journal) (g.W.Wires.seen c.run_posts.new.wires) c.run_posts.new.held (view c.run_posts.new.seat)))

pub returns-in-Err-newer-clause-pass : goal.returns-in-Err-newer-clause-pass
returns-in-Err-newer-clause-pass g c = c.drain_if_any.ensures.pass

pub returns-in-Err-newer-clause-keeps : goal.returns-in-Err-newer-clause-keeps
returns-in-Err-newer-clause-keeps g c = keeps_more c.args.permits.now (g.W.Wires.seen c.args.wires.now) (g.W.Wires.seen c.carry_out.new.wires) (g.W.Wires.seen c.run_posts.new.wires) c.args.held.now c.carry_out.new.held c.run_posts.new.held (view c.args.seat.now) c.carry_out.new.seat c.run_posts.new.seat c.carry_out.ensures.keeps c.run_posts.ensures.keeps

pub returns-in-Err-newer-clause-rises : goal.returns-in-Err-newer-clause-rises
returns-in-Err-newer-clause-rises g c = rises_memory (g.W.Wires.faults c.args.wires.now) (g.W.Wires.faults c.run_posts.new.wires) (g.J.Sink.faults c.args.journal.now) (g.J.Sink.faults c.run_posts.new.journal) (omega (arith, c.carry_out.ensures.rises.at_wires, c.run_posts.ensures.rises.at_wires)) (omega (arith, c.carry_out.ensures.rises.at_journal, c.run_posts.ensures.rises.at_journal))

pub obey-requires-clause-core : goal.obey-requires-clause-core
obey-requires-clause-core g c = c.in_ok-run_posts.ensures.runs.rests

pub obey-requires-clause-holds : goal.obey-requires-clause-holds
obey-requires-clause-holds g c = (keeps_more c.args.permits.now (g.W.Wires.seen c.args.wires.now) (g.W.Wires.seen c.carry_out.new.wires) (g.W.Wires.seen c.run_posts.new.wires) c.args.held.now c.carry_out.new.held c.run_posts.new.held (view c.args.seat.now) c.carry_out.new.seat c.run_posts.new.seat c.carry_out.ensures.keeps c.run_posts.ensures.keeps).holds

pub obey-requires-clause-version : goal.obey-requires-clause-version
obey-requires-clause-version g c = c.in-Ok-newer.ensures.number

pub returns-in_err-obey-clause-turns : goal.returns-in_err-obey-clause-turns
returns-in_err-obey-clause-turns g c =
    let p = err_from_is_err_and c.from_residual-in_err-obey.result c.from_residual-in_err-obey.ensures.1 in
    rw (p.1, p.2) (broke_obey c.args.names.now _ (sides_of (g.C.Clock.moments c.args.clock.now) (hands.view c.args.pass.now.pass) (looks c.args.follower.now) c.args.follower.now.kept) (sides_of (g.C.Clock.moments c.now.new.self) (hands.view c.drain_if_any.new.pass.pass) (looks c.newer.new.self) c.newer.new.self.kept) c.now.result c.as_slice-drained.result.now c.args.core.now.kind c.carry_out.new.core.kind c.run_posts.new.core.kind c.obey.new.core.kind (place_of (g.J.Sink.contents c.args.journal.now) (g.J.Journal.told c.args.journal.now) (g.W.Wires.seen c.args.wires.now) c.args.held.now (view c.args.seat.now)) (place_of (g.J.Sink.contents c.carry_out.new.journal) (g.J.Journal.told c.carry_out.new.journal) (g.W.Wires.seen c.carry_out.new.wires) c.carry_out.new.held (view c.carry_out.new.seat)) (place_of (g.J.Sink.contents c.run_posts.new.journal) (g.J.Journal.told c.run_posts.new.journal) (g.W.Wires.seen c.run_posts.new.wires) c.run_posts.new.held (view c.run_posts.new.seat)) (place_of (g.J.Sink.contents c.obey.new.journal) (g.J.Journal.told c.obey.new.journal) (g.W.Wires.seen c.obey.new.wires) c.obey.new.held (view c.obey.new.seat)) c.now.ensures.tells (drained_as c.as_slice-drained.result.now _ _ _ c.as_slice-drained.ensures c.in-Ok.ensures.ran) c.in_ok-carry_out.ensures.carries c.in_ok-run_posts.ensures.runs (cuts_one c.args.names.now _ c.run_posts.new.core.kind c.obey.new.core.kind (place_of (g.J.Sink.contents c.run_posts.new.journal) (g.J.Journal.told c.run_posts.new.journal) (g.W.Wires.seen c.run_posts.new.wires) c.run_posts.new.held (view c.run_posts.new.seat)) (place_of (g.J.Sink.contents c.obey.new.journal) (g.J.Journal.told c.obey.new.journal) (g.W.Wires.seen c.obey.new.wires) c.obey.new.held (view c.obey.new.seat)) c.in_err-obey.ensures.carries))

pub returns-in_err-obey-clause-pass : goal.returns-in_err-obey-clause-pass
returns-in_err-obey-clause-pass g c = c.drain_if_any.ensures.pass

pub returns-in_err-obey-clause-keeps : goal.returns-in_err-obey-clause-keeps
returns-in_err-obey-clause-keeps g c = keeps_more c.args.permits.now (g.W.Wires.seen c.args.wires.now) (g.W.Wires.seen c.run_posts.new.wires) (g.W.Wires.seen c.obey.new.wires) c.args.held.now c.run_posts.new.held c.obey.new.held (view c.args.seat.now) c.run_posts.new.seat c.obey.new.seat (keeps_more c.args.permits.now (g.W.Wires.seen c.args.wires.now) (g.W.Wires.seen c.carry_out.new.wires) (g.W.Wires.seen c.run_posts.new.wires) c.args.held.now c.carry_out.new.held c.run_posts.new.held (view c.args.seat.now) c.carry_out.new.seat c.run_posts.new.seat c.carry_out.ensures.keeps c.run_posts.ensures.keeps) c.obey.ensures.keeps

pub returns-in_err-obey-clause-rises : goal.returns-in_err-obey-clause-rises
returns-in_err-obey-clause-rises g c =
    let p = err_from_is_err_and c.from_residual-in_err-obey.result c.from_residual-in_err-obey.ensures.1 in
    rw (p.1, p.2) (rises_err {T = Unit {0}} {U = Bool} _ (g.W.Wires.faults c.args.wires.now) (g.W.Wires.faults c.obey.new.wires) (g.J.Sink.faults c.args.journal.now) (g.J.Sink.faults c.obey.new.journal) (rises_more _ (g.W.Wires.faults c.args.wires.now) (g.W.Wires.faults c.run_posts.new.wires) (g.W.Wires.faults c.obey.new.wires) (g.J.Sink.faults c.args.journal.now) (g.J.Sink.faults c.run_posts.new.journal) (g.J.Sink.faults c.obey.new.journal) (omega (arith, c.carry_out.ensures.rises.at_wires, c.run_posts.ensures.rises.at_wires)) (omega (arith, c.carry_out.ensures.rises.at_journal, c.run_posts.ensures.rises.at_journal)) c.in_err-obey.ensures.rises))

pub take_next-requires-clause-core : goal.take_next-requires-clause-core
take_next-requires-clause-core g c = c.in_ok-obey.ensures.carries.rests

pub take_next-requires-clause-holds : goal.take_next-requires-clause-holds
take_next-requires-clause-holds g c = (keeps_more c.args.permits.now (g.W.Wires.seen c.args.wires.now) (g.W.Wires.seen c.run_posts.new.wires) (g.W.Wires.seen c.obey.new.wires) c.args.held.now c.run_posts.new.held c.obey.new.held (view c.args.seat.now) c.run_posts.new.seat c.obey.new.seat (keeps_more c.args.permits.now (g.W.Wires.seen c.args.wires.now) (g.W.Wires.seen c.carry_out.new.wires) (g.W.Wires.seen c.run_posts.new.wires) c.args.held.now c.carry_out.new.held c.run_posts.new.held (view c.args.seat.now) c.carry_out.new.seat c.run_posts.new.seat c.carry_out.ensures.keeps c.run_posts.ensures.keeps) c.obey.ensures.keeps).holds

pub take_next-requires-clause-names : goal.take_next-requires-clause-names
take_next-requires-clause-names g c = (keeps_more c.args.permits.now (g.W.Wires.seen c.args.wires.now) (g.W.Wires.seen c.run_posts.new.wires) (g.W.Wires.seen c.obey.new.wires) c.args.held.now c.run_posts.new.held c.obey.new.held (view c.args.seat.now) c.run_posts.new.seat c.obey.new.seat (keeps_more c.args.permits.now (g.W.Wires.seen c.args.wires.now) (g.W.Wires.seen c.carry_out.new.wires) (g.W.Wires.seen c.run_posts.new.wires) c.args.held.now c.carry_out.new.held c.run_posts.new.held (view c.args.seat.now) c.carry_out.new.seat c.run_posts.new.seat c.carry_out.ensures.keeps c.run_posts.ensures.keeps) c.obey.ensures.keeps).clusters ∙ c.requires.names

pub take_next-requires-clause-below : goal.take_next-requires-clause-below
take_next-requires-clause-below g c = (keeps_more c.args.permits.now (g.W.Wires.seen c.args.wires.now) (g.W.Wires.seen c.run_posts.new.wires) (g.W.Wires.seen c.obey.new.wires) c.args.held.now c.run_posts.new.held c.obey.new.held (view c.args.seat.now) c.run_posts.new.seat c.obey.new.seat (keeps_more c.args.permits.now (g.W.Wires.seen c.args.wires.now) (g.W.Wires.seen c.carry_out.new.wires) (g.W.Wires.seen c.run_posts.new.wires) c.args.held.now c.carry_out.new.held c.run_posts.new.held (view c.args.seat.now) c.carry_out.new.seat c.run_posts.new.seat c.carry_out.ensures.keeps c.run_posts.ensures.keeps) c.obey.ensures.keeps).below c.requires.below

pub returns-in_err-stops-clause-turns : goal.returns-in_err-stops-clause-turns
returns-in_err-stops-clause-turns g c =
    let p = err_from_is_err_and c.from_residual-in_err-stops.result c.from_residual-in_err-stops.ensures.1 in
    rw (p.1, p.2) (broke_taking c.args.names.now _ (sides_of (g.C.Clock.moments c.args.clock.now) (hands.view c.args.pass.now.pass) (looks c.args.follower.now) c.args.follower.now.kept) (sides_of (g.C.Clock.moments c.now.new.self) (hands.view c.drain_if_any.new.pass.pass) (looks c.newer.new.self) c.newer.new.self.kept) c.now.result c.as_slice-drained.result.now c.args.core.now.kind c.carry_out.new.core.kind c.run_posts.new.core.kind c.take_next.new.core.kind (place_of (g.J.Sink.contents c.args.journal.now) (g.J.Journal.told c.args.journal.now) (g.W.Wires.seen c.args.wires.now) c.args.held.now (view c.args.seat.now)) (place_of (g.J.Sink.contents c.carry_out.new.journal) (g.J.Journal.told c.carry_out.new.journal) (g.W.Wires.seen c.carry_out.new.wires) c.carry_out.new.held (view c.carry_out.new.seat)) (place_of (g.J.Sink.contents c.run_posts.new.journal) (g.J.Journal.told c.run_posts.new.journal) (g.W.Wires.seen c.run_posts.new.wires) c.run_posts.new.held (view c.run_posts.new.seat)) (place_of (g.J.Sink.contents c.take_next.new.journal) (g.J.Journal.told c.take_next.new.journal) (g.W.Wires.seen c.take_next.new.wires) c.take_next.new.held (view c.take_next.new.seat)) c.now.ensures.tells (drained_as c.as_slice-drained.result.now _ _ _ c.as_slice-drained.ensures c.in-Ok.ensures.ran) c.in_ok-carry_out.ensures.carries c.in_ok-run_posts.ensures.runs c.newer.new.self.kept.version (pressures_in c.in-Ok-newer.newer) c.obey.new.core.kind (place_of (g.J.Sink.contents c.obey.new.journal) (g.J.Journal.told c.obey.new.journal) (g.W.Wires.seen c.obey.new.wires) c.obey.new.held (view c.obey.new.seat)) (obeyed_as c.args.names.now c.run_posts.new.core.kind c.obey.new.core.kind (place_of (g.J.Sink.contents c.run_posts.new.journal) (g.J.Journal.told c.run_posts.new.journal) (g.W.Wires.seen c.run_posts.new.wires) c.run_posts.new.held (view c.run_posts.new.seat)) (place_of (g.J.Sink.contents c.obey.new.journal) (g.J.Journal.told c.obey.new.journal) (g.W.Wires.seen c.obey.new.wires) c.obey.new.held (view c.obey.new.seat)) c.newer.new.self.kept.version c.obeyed.result _ c.newer.new.self.kept.pressures c.in-Ok-newer.newer c.obeyed.ensures c.in-Ok-newer.ensures.newer c.in_ok-obey.ensures.carries) c.in_err-stops.ensures.takes)

pub returns-in_err-stops-clause-pass : goal.returns-in_err-stops-clause-pass
returns-in_err-stops-clause-pass g c = c.drain_if_any.ensures.pass

pub returns-in_err-stops-clause-keeps : goal.returns-in_err-stops-clause-keeps
returns-in_err-stops-clause-keeps g c = keeps_more c.args.permits.now (g.W.Wires.seen c.args.wires.now) (g.W.Wires.seen c.obey.new.wires) (g.W.Wires.seen c.take_next.new.wires) c.args.held.now c.obey.new.held c.take_next.new.held (view c.args.seat.now) c.obey.new.seat c.take_next.new.seat (keeps_more c.args.permits.now (g.W.Wires.seen c.args.wires.now) (g.W.Wires.seen c.run_posts.new.wires) (g.W.Wires.seen c.obey.new.wires) c.args.held.now c.run_posts.new.held c.obey.new.held (view c.args.seat.now) c.run_posts.new.seat c.obey.new.seat (keeps_more c.args.permits.now (g.W.Wires.seen c.args.wires.now) (g.W.Wires.seen c.carry_out.new.wires) (g.W.Wires.seen c.run_posts.new.wires) c.args.held.now c.carry_out.new.held c.run_posts.new.held (view c.args.seat.now) c.carry_out.new.seat c.run_posts.new.seat c.carry_out.ensures.keeps c.run_posts.ensures.keeps) c.obey.ensures.keeps) c.take_next.ensures.keeps

pub returns-in_err-stops-clause-rises : goal.returns-in_err-stops-clause-rises
returns-in_err-stops-clause-rises g c =
    let p = err_from_is_err_and c.from_residual-in_err-stops.result c.from_residual-in_err-stops.ensures.1 in
    rw (p.1, p.2) (rises_more _ (g.W.Wires.faults c.args.wires.now) (g.W.Wires.faults c.obey.new.wires) (g.W.Wires.faults c.take_next.new.wires) (g.J.Sink.faults c.args.journal.now) (g.J.Sink.faults c.obey.new.journal) (g.J.Sink.faults c.take_next.new.journal) (omega (arith, c.carry_out.ensures.rises.at_wires, c.run_posts.ensures.rises.at_wires, c.obey.ensures.rises.at_wires)) (omega (arith, c.carry_out.ensures.rises.at_journal, c.run_posts.ensures.rises.at_journal, c.obey.ensures.rises.at_journal)) c.in_err-stops.ensures.rises)

pub offer_all-requires-clause-core : goal.offer_all-requires-clause-core
offer_all-requires-clause-core g c = c.in_ok-stops.ensures.takes.rests

pub offer_all-requires-clause-holds : goal.offer_all-requires-clause-holds
offer_all-requires-clause-holds g c = (keeps_more c.args.permits.now (g.W.Wires.seen c.args.wires.now) (g.W.Wires.seen c.obey.new.wires) (g.W.Wires.seen c.take_next.new.wires) c.args.held.now c.obey.new.held c.take_next.new.held (view c.args.seat.now) c.obey.new.seat c.take_next.new.seat (keeps_more c.args.permits.now (g.W.Wires.seen c.args.wires.now) (g.W.Wires.seen c.run_posts.new.wires) (g.W.Wires.seen c.obey.new.wires) c.args.held.now c.run_posts.new.held c.obey.new.held (view c.args.seat.now) c.run_posts.new.seat c.obey.new.seat (keeps_more c.args.permits.now (g.W.Wires.seen c.args.wires.now) (g.W.Wires.seen c.carry_out.new.wires) (g.W.Wires.seen c.run_posts.new.wires) c.args.held.now c.carry_out.new.held c.run_posts.new.held (view c.args.seat.now) c.carry_out.new.seat c.run_posts.new.seat c.carry_out.ensures.keeps c.run_posts.ensures.keeps) c.obey.ensures.keeps) c.take_next.ensures.keeps).holds

pub returns-in_err-offer_all-clause-turns : goal.returns-in_err-offer_all-clause-turns
returns-in_err-offer_all-clause-turns g c =
    let p = err_from_is_err_and c.from_residual-in_err-offer_all.result c.from_residual-in_err-offer_all.ensures.1 in
    rw (p.1, p.2) (broke_offering c.args.names.now _ (sides_of (g.C.Clock.moments c.args.clock.now) (hands.view c.args.pass.now.pass) (looks c.args.follower.now) c.args.follower.now.kept) (sides_of (g.C.Clock.moments c.now.new.self) (hands.view c.drain_if_any.new.pass.pass) (looks c.newer.new.self) c.newer.new.self.kept) c.now.result c.as_slice-drained.result.now c.args.core.now.kind c.carry_out.new.core.kind c.run_posts.new.core.kind c.offer_all.new.core.kind (place_of (g.J.Sink.contents c.args.journal.now) (g.J.Journal.told c.args.journal.now) (g.W.Wires.seen c.args.wires.now) c.args.held.now (view c.args.seat.now)) (place_of (g.J.Sink.contents c.carry_out.new.journal) (g.J.Journal.told c.carry_out.new.journal) (g.W.Wires.seen c.carry_out.new.wires) c.carry_out.new.held (view c.carry_out.new.seat)) (place_of (g.J.Sink.contents c.run_posts.new.journal) (g.J.Journal.told c.run_posts.new.journal) (g.W.Wires.seen c.run_posts.new.wires) c.run_posts.new.held (view c.run_posts.new.seat)) (place_of (g.J.Sink.contents c.offer_all.new.journal) (g.J.Journal.told c.offer_all.new.journal) (g.W.Wires.seen c.offer_all.new.wires) c.offer_all.new.held (view c.offer_all.new.seat)) c.now.ensures.tells (drained_as c.as_slice-drained.result.now _ _ _ c.as_slice-drained.ensures c.in-Ok.ensures.ran) c.in_ok-carry_out.ensures.carries c.in_ok-run_posts.ensures.runs c.newer.new.self.kept.version (pressures_in c.in-Ok-newer.newer) c.obey.new.core.kind (place_of (g.J.Sink.contents c.obey.new.journal) (g.J.Journal.told c.obey.new.journal) (g.W.Wires.seen c.obey.new.wires) c.obey.new.held (view c.obey.new.seat)) (obeyed_as c.args.names.now c.run_posts.new.core.kind c.obey.new.core.kind (place_of (g.J.Sink.contents c.run_posts.new.journal) (g.J.Journal.told c.run_posts.new.journal) (g.W.Wires.seen c.run_posts.new.wires) c.run_posts.new.held (view c.run_posts.new.seat)) (place_of (g.J.Sink.contents c.obey.new.journal) (g.J.Journal.told c.obey.new.journal) (g.W.Wires.seen c.obey.new.wires) c.obey.new.held (view c.obey.new.seat)) c.newer.new.self.kept.version c.obeyed.result _ c.newer.new.self.kept.pressures c.in-Ok-newer.newer c.obeyed.ensures c.in-Ok-newer.ensures.newer c.in_ok-obey.ensures.carries) c.take_next.new.core.kind (place_of (g.J.Sink.contents c.take_next.new.journal) (g.J.Journal.told c.take_next.new.journal) (g.W.Wires.seen c.take_next.new.wires) c.take_next.new.held (view c.take_next.new.seat)) c.in_ok-stops.stops c.in_ok-stops.ensures.takes c.in_err-offer_all.ensures.offers)

pub returns-in_err-offer_all-clause-pass : goal.returns-in_err-offer_all-clause-pass
returns-in_err-offer_all-clause-pass g c = c.drain_if_any.ensures.pass

pub returns-in_err-offer_all-clause-keeps : goal.returns-in_err-offer_all-clause-keeps
returns-in_err-offer_all-clause-keeps g c = keeps_more c.args.permits.now (g.W.Wires.seen c.args.wires.now) (g.W.Wires.seen c.take_next.new.wires) (g.W.Wires.seen c.offer_all.new.wires) c.args.held.now c.take_next.new.held c.offer_all.new.held (view c.args.seat.now) c.take_next.new.seat c.offer_all.new.seat (keeps_more c.args.permits.now (g.W.Wires.seen c.args.wires.now) (g.W.Wires.seen c.obey.new.wires) (g.W.Wires.seen c.take_next.new.wires) c.args.held.now c.obey.new.held c.take_next.new.held (view c.args.seat.now) c.obey.new.seat c.take_next.new.seat (keeps_more c.args.permits.now (g.W.Wires.seen c.args.wires.now) (g.W.Wires.seen c.run_posts.new.wires) (g.W.Wires.seen c.obey.new.wires) c.args.held.now c.run_posts.new.held c.obey.new.held (view c.args.seat.now) c.run_posts.new.seat c.obey.new.seat (keeps_more c.args.permits.now (g.W.Wires.seen c.args.wires.now) (g.W.Wires.seen c.carry_out.new.wires) (g.W.Wires.seen c.run_posts.new.wires) c.args.held.now c.carry_out.new.held c.run_posts.new.held (view c.args.seat.now) c.carry_out.new.seat c.run_posts.new.seat c.carry_out.ensures.keeps c.run_posts.ensures.keeps) c.obey.ensures.keeps) c.take_next.ensures.keeps) c.offer_all.ensures.keeps

pub returns-in_err-offer_all-clause-rises : goal.returns-in_err-offer_all-clause-rises
returns-in_err-offer_all-clause-rises g c =
    let p = err_from_is_err_and c.from_residual-in_err-offer_all.result c.from_residual-in_err-offer_all.ensures.1 in
    rw (p.1, p.2) (rises_err {T = Unit {0}} {U = Bool} _ (g.W.Wires.faults c.args.wires.now) (g.W.Wires.faults c.offer_all.new.wires) (g.J.Sink.faults c.args.journal.now) (g.J.Sink.faults c.offer_all.new.journal) (rises_more _ (g.W.Wires.faults c.args.wires.now) (g.W.Wires.faults c.take_next.new.wires) (g.W.Wires.faults c.offer_all.new.wires) (g.J.Sink.faults c.args.journal.now) (g.J.Sink.faults c.take_next.new.journal) (g.J.Sink.faults c.offer_all.new.journal) (omega (arith, c.carry_out.ensures.rises.at_wires, c.run_posts.ensures.rises.at_wires, c.obey.ensures.rises.at_wires, c.take_next.ensures.rises.at_wires)) (omega (arith, c.carry_out.ensures.rises.at_journal, c.run_posts.ensures.rises.at_journal, c.obey.ensures.rises.at_journal, c.take_next.ensures.rises.at_journal)) c.in_err-offer_all.ensures.rises))

pub returns-clause-turns : goal.returns-clause-turns
returns-clause-turns g c =
    turn_is c.args.names.now (sides_of (g.C.Clock.moments c.args.clock.now) (hands.view c.args.pass.now.pass) (looks c.args.follower.now) c.args.follower.now.kept) (sides_of (g.C.Clock.moments c.now.new.self) (hands.view c.drain_if_any.new.pass.pass) (looks c.newer.new.self) c.newer.new.self.kept) c.now.result c.newer.new.self.kept.version c.as_slice-drained.result.now (pressures_in c.in-Ok-newer.newer) c.args.core.now.kind c.carry_out.new.core.kind c.run_posts.new.core.kind c.obey.new.core.kind c.take_next.new.core.kind c.offer_all.new.core.kind (place_of (g.J.Sink.contents c.args.journal.now) (g.J.Journal.told c.args.journal.now) (g.W.Wires.seen c.args.wires.now) c.args.held.now (view c.args.seat.now)) (place_of (g.J.Sink.contents c.carry_out.new.journal) (g.J.Journal.told c.carry_out.new.journal) (g.W.Wires.seen c.carry_out.new.wires) c.carry_out.new.held (view c.carry_out.new.seat)) (place_of (g.J.Sink.contents c.run_posts.new.journal) (g.J.Journal.told c.run_posts.new.journal) (g.W.Wires.seen c.run_posts.new.wires) c.run_posts.new.held (view c.run_posts.new.seat)) (place_of (g.J.Sink.contents c.obey.new.journal) (g.J.Journal.told c.obey.new.journal) (g.W.Wires.seen c.obey.new.wires) c.obey.new.held (view c.obey.new.seat)) (place_of (g.J.Sink.contents c.take_next.new.journal) (g.J.Journal.told c.take_next.new.journal) (g.W.Wires.seen c.take_next.new.wires) c.take_next.new.held (view c.take_next.new.seat)) (place_of (g.J.Sink.contents c.offer_all.new.journal) (g.J.Journal.told c.offer_all.new.journal) (g.W.Wires.seen c.offer_all.new.wires) c.offer_all.new.held (view c.offer_all.new.seat)) c.in_ok-stops.stops
    (asks_once (sides_of (g.C.Clock.moments c.args.clock.now) (hands.view c.args.pass.now.pass) (looks c.args.follower.now) c.args.follower.now.kept) (sides_of (g.C.Clock.moments c.now.new.self) (hands.view c.drain_if_any.new.pass.pass) (looks c.newer.new.self) c.newer.new.self.kept) c.now.result c.as_slice-drained.result.now c.newer.new.self.kept.version (pressures_in c.in-Ok-newer.newer) c.now.ensures.tells (drained_as c.as_slice-drained.result.now _ _ _ c.as_slice-drained.ensures c.in-Ok.ensures.ran) c.in-Ok.ensures.drains c.newer.ensures.look.0 refl (front_of_kept c.newer.new.self.kept.version c.obeyed.result _ c.newer.new.self.kept.pressures c.in-Ok-newer.newer c.in-Ok-newer.ensures.newer c.in-Ok-newer.ensures.len) c.newer.ensures.rising c.in-Ok-newer.ensures.fresh)
    c.in_ok-carry_out.ensures.carries c.in_ok-run_posts.ensures.runs (obeyed_as c.args.names.now c.run_posts.new.core.kind c.obey.new.core.kind (place_of (g.J.Sink.contents c.run_posts.new.journal) (g.J.Journal.told c.run_posts.new.journal) (g.W.Wires.seen c.run_posts.new.wires) c.run_posts.new.held (view c.run_posts.new.seat)) (place_of (g.J.Sink.contents c.obey.new.journal) (g.J.Journal.told c.obey.new.journal) (g.W.Wires.seen c.obey.new.wires) c.obey.new.held (view c.obey.new.seat)) c.newer.new.self.kept.version c.obeyed.result _ c.newer.new.self.kept.pressures c.in-Ok-newer.newer c.obeyed.ensures c.in-Ok-newer.ensures.newer c.in_ok-obey.ensures.carries) c.in_ok-stops.ensures.takes c.in_ok-offer_all.ensures.offers

pub returns-clause-pass : goal.returns-clause-pass
returns-clause-pass g c = c.drain_if_any.ensures.pass

pub returns-clause-keeps : goal.returns-clause-keeps
returns-clause-keeps g c = keeps_more c.args.permits.now (g.W.Wires.seen c.args.wires.now) (g.W.Wires.seen c.take_next.new.wires) (g.W.Wires.seen c.offer_all.new.wires) c.args.held.now c.take_next.new.held c.offer_all.new.held (view c.args.seat.now) c.take_next.new.seat c.offer_all.new.seat (keeps_more c.args.permits.now (g.W.Wires.seen c.args.wires.now) (g.W.Wires.seen c.obey.new.wires) (g.W.Wires.seen c.take_next.new.wires) c.args.held.now c.obey.new.held c.take_next.new.held (view c.args.seat.now) c.obey.new.seat c.take_next.new.seat (keeps_more c.args.permits.now (g.W.Wires.seen c.args.wires.now) (g.W.Wires.seen c.run_posts.new.wires) (g.W.Wires.seen c.obey.new.wires) c.args.held.now c.run_posts.new.held c.obey.new.held (view c.args.seat.now) c.run_posts.new.seat c.obey.new.seat (keeps_more c.args.permits.now (g.W.Wires.seen c.args.wires.now) (g.W.Wires.seen c.carry_out.new.wires) (g.W.Wires.seen c.run_posts.new.wires) c.args.held.now c.carry_out.new.held c.run_posts.new.held (view c.args.seat.now) c.carry_out.new.seat c.run_posts.new.seat c.carry_out.ensures.keeps c.run_posts.ensures.keeps) c.obey.ensures.keeps) c.take_next.ensures.keeps) c.offer_all.ensures.keeps

pub returns-clause-rises : goal.returns-clause-rises
returns-clause-rises g c = rises_ok c.in_ok-stops.stops (g.W.Wires.faults c.args.wires.now) (g.W.Wires.faults c.offer_all.new.wires) (g.J.Sink.faults c.args.journal.now) (g.J.Sink.faults c.offer_all.new.journal) (omega (arith, c.carry_out.ensures.rises.at_wires, c.run_posts.ensures.rises.at_wires, c.obey.ensures.rises.at_wires, c.take_next.ensures.rises.at_wires, c.offer_all.ensures.rises.at_wires)) (omega (arith, c.carry_out.ensures.rises.at_journal, c.run_posts.ensures.rises.at_journal, c.obey.ensures.rises.at_journal, c.take_next.ensures.rises.at_journal, c.offer_all.ensures.rises.at_journal))
