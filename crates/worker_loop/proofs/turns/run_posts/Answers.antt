-- Post after post is carried out.
use Rattle.shared_state.specs.PermitSeats.{view}
use Rattle.std.proofs.Common.{arith, refl}
use Rattle.std.proofs.lemmas.Result.{err_from_is_err_and}
use Rattle.worker_loop.proofs.Carrying.{all_ran, cut_posts, first_allowed, more_ran, none_in, none_ran, rest_allowed}
use Rattle.worker_loop.proofs.Keeping.{keeps_more, keeps_same, rises_more, rises_ok}
use Rattle.worker_loop.specs.Places.{place_of}
use Rattle.worker_loop.proofs.turns.run_posts.Goals as goal

pub loop-post-init : goal.loop-post-init
loop-post-init g c = record {
  so = none_ran c.args.names.now c.args.posts.now c.args.core.now.kind (place_of (g.J.Sink.contents c.args.journal.now) (g.J.Journal.told c.args.journal.now) (g.W.Wires.seen c.args.wires.now) c.args.held.now (view c.args.seat.now)) c.requires.core c.requires.posts;
  keeps = keeps_same c.args.permits.now (g.W.Wires.seen c.args.wires.now) (g.W.Wires.seen c.args.wires.now) c.args.held.now c.args.seat.now c.requires.holds refl;
  wires = omega arith;
  journal = omega arith;
}

pub run_post-requires-clause-core : goal.run_post-requires-clause-core
run_post-requires-clause-core g c = c.loop-post.invariant.so.rests

pub run_post-requires-clause-post : goal.run_post-requires-clause-post
run_post-requires-clause-post g c = first_allowed c.in-Some.post.now c.loop-post.rest.now c.in-Some.after.now c.in-Some.ensures.cases.0 c.loop-post.invariant.so.allowed

pub run_post-requires-clause-holds : goal.run_post-requires-clause-holds
run_post-requires-clause-holds g c = c.loop-post.invariant.keeps.holds

pub returns-in_err-run_post-clause-runs : goal.returns-in_err-run_post-clause-runs
returns-in_err-run_post-clause-runs g c =
    let p = err_from_is_err_and c.from_residual.result c.from_residual.ensures.1 in
    rw (p.1, p.2) (cut_posts c.args.names.now c.args.posts.now c.loop-post.rest.now c.in-Some.after.now c.in-Some.post.now c.args.core.now.kind c.loop-post.core.kind c.run_post.new.core.kind (place_of (g.J.Sink.contents c.args.journal.now) (g.J.Journal.told c.args.journal.now) (g.W.Wires.seen c.args.wires.now) c.args.held.now (view c.args.seat.now)) (place_of (g.J.Sink.contents c.loop-post.journal) (g.J.Journal.told c.loop-post.journal) (g.W.Wires.seen c.loop-post.wires) c.loop-post.held (view c.loop-post.seat)) (place_of (g.J.Sink.contents c.run_post.new.journal) (g.J.Journal.told c.run_post.new.journal) (g.W.Wires.seen c.run_post.new.wires) c.run_post.new.held (view c.run_post.new.seat)) c.in-Some.ensures.cases.0 c.loop-post.invariant.so _ c.in_err-run_post.ensures.carries)

pub returns-in_err-run_post-clause-keeps : goal.returns-in_err-run_post-clause-keeps
returns-in_err-run_post-clause-keeps g c = keeps_more c.args.permits.now (g.W.Wires.seen c.args.wires.now) (g.W.Wires.seen c.loop-post.wires) (g.W.Wires.seen c.run_post.new.wires) c.args.held.now c.loop-post.held c.run_post.new.held (view c.args.seat.now) c.loop-post.seat c.run_post.new.seat c.loop-post.invariant.keeps c.run_post.ensures.keeps

pub returns-in_err-run_post-clause-rises : goal.returns-in_err-run_post-clause-rises
returns-in_err-run_post-clause-rises g c =
    let p = err_from_is_err_and c.from_residual.result c.from_residual.ensures.1 in
    rw (p.1, p.2) (rises_more _ (g.W.Wires.faults c.args.wires.now) (g.W.Wires.faults c.loop-post.wires) (g.W.Wires.faults c.run_post.new.wires) (g.J.Sink.faults c.args.journal.now) (g.J.Sink.faults c.loop-post.journal) (g.J.Sink.faults c.run_post.new.journal) c.loop-post.invariant.wires c.loop-post.invariant.journal c.in_err-run_post.ensures.rises)

pub loop-post-smaller : goal.loop-post-smaller
loop-post-smaller g c = omega (arith, c.in-Some.ensures.cases.1)

pub loop-post-preserved : goal.loop-post-preserved
loop-post-preserved g c = record {
  so = more_ran c.args.names.now c.args.posts.now c.loop-post.rest.now c.in-Some.after.now c.in-Some.post.now c.args.core.now.kind c.loop-post.core.kind c.run_post.new.core.kind (place_of (g.J.Sink.contents c.args.journal.now) (g.J.Journal.told c.args.journal.now) (g.W.Wires.seen c.args.wires.now) c.args.held.now (view c.args.seat.now)) (place_of (g.J.Sink.contents c.loop-post.journal) (g.J.Journal.told c.loop-post.journal) (g.W.Wires.seen c.loop-post.wires) c.loop-post.held (view c.loop-post.seat)) (place_of (g.J.Sink.contents c.run_post.new.journal) (g.J.Journal.told c.run_post.new.journal) (g.W.Wires.seen c.run_post.new.wires) c.run_post.new.held (view c.run_post.new.seat)) c.in-Some.ensures.cases.0 c.loop-post.invariant.so (rest_allowed c.in-Some.post.now c.loop-post.rest.now c.in-Some.after.now c.in-Some.ensures.cases.0 c.loop-post.invariant.so.allowed) c.in_ok-run_post.ensures.carries;
  keeps = keeps_more c.args.permits.now (g.W.Wires.seen c.args.wires.now) (g.W.Wires.seen c.loop-post.wires) (g.W.Wires.seen c.run_post.new.wires) c.args.held.now c.loop-post.held c.run_post.new.held (view c.args.seat.now) c.loop-post.seat c.run_post.new.seat c.loop-post.invariant.keeps c.run_post.ensures.keeps;
  wires = omega (arith, c.loop-post.invariant.wires, c.run_post.ensures.rises.at_wires);
  journal = omega (arith, c.loop-post.invariant.journal, c.run_post.ensures.rises.at_journal);
}

pub returns-clause-runs : goal.returns-clause-runs
returns-clause-runs g c = all_ran c.args.names.now c.args.posts.now c.loop-post.rest.now c.args.core.now.kind c.loop-post.core.kind (place_of (g.J.Sink.contents c.args.journal.now) (g.J.Journal.told c.args.journal.now) (g.W.Wires.seen c.args.wires.now) c.args.held.now (view c.args.seat.now)) (place_of (g.J.Sink.contents c.loop-post.journal) (g.J.Journal.told c.loop-post.journal) (g.W.Wires.seen c.loop-post.wires) c.loop-post.held (view c.loop-post.seat)) (none_in c.loop-post.rest.now c.in_default.ensures.cases) c.loop-post.invariant.so

pub returns-clause-keeps : goal.returns-clause-keeps
returns-clause-keeps g c = c.loop-post.invariant.keeps

pub returns-clause-rises : goal.returns-clause-rises
returns-clause-rises g c = rises_ok tt (g.W.Wires.faults c.args.wires.now) (g.W.Wires.faults c.loop-post.wires) (g.J.Sink.faults c.args.journal.now) (g.J.Sink.faults c.loop-post.journal) c.loop-post.invariant.wires c.loop-post.invariant.journal
