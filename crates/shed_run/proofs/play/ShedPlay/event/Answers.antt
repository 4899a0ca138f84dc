-- The event was judged, and what it comes to was played.
use Rattle.shed_run.proofs.Playing.{event_can, event_played}
use Rattle.shed_run.proofs.play.ShedPlay.event.Goals as goal
use Rattle.std.proofs.Common.{refl}

pub play_whole-requires : goal.play_whole-requires
play_whole-requires c =
    event_can c.args.self.now c.args.event.now c.in_ok-verdict.verdict c.judge.new.self c.args.self.now.play c.instead.result c.posts-posts.result c.requires c.in_ok-verdict.ensures.judged refl c.instead.ensures c.posts-posts.ensures

pub returns : goal.returns
returns c =
    event_played c.args.self.now c.play_whole.new.self c.args.event.now c.in_ok-verdict.verdict c.judge.new.self c.instead.result c.posts-posts.result c.in-Some.number c.args.text.now c.play_whole.new.text c.in_ok-verdict.ensures.judged
    c.instead.ensures c.posts-posts.ensures c.in-Some.ensures.1 c.in_ok-play_whole.ensures.others.1 c.in_ok-play_whole.ensures.others.0 c.in_ok-play_whole.ensures.ok
