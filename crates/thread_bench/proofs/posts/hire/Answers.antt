-- One pass more is taken out of those that are left.
use Rattle.post_queue.specs.Clauses.{IsPosterOf}
use Rattle.std.proofs.lemmas.List.Elements.{All-pop, All-push}
use Rattle.std.specs.Prelude.{Some}
use Rattle.thread_bench.proofs.posts.hire.Goals as goal

pub loop-pass-preserved : goal.loop-pass-preserved
loop-pass-preserved c =
    let kept = c.loop-pass.invariant in
    let taken = All-pop (IsPosterOf c.args.posts.now) _ _ (Some c.in-Some.pass) c.in-Some.ensures.one kept.passes in
    record { passes = taken.0; posters = rw c.in_ok-push.ensures.items (All-push (IsPosterOf c.args.posts.now) _ _ kept.posters taken.1) }
