-- Both are new, and each has its box.
use Rattle.loop_rows.proofs.Started.{two_boxes}
use Rattle.loop_rows.specs.Meetings.{in_memory}
use Rattle.worker_threads.proofs.Readying.{new_ready}
use Rattle.loop_rows.proofs.meeting.meet_over.Goals as goal

pub run_both-requires-clause-first : goal.run_both-requires-clause-first
run_both-requires-clause-first g c κs within =
    new_ready in_memory _ 0 _ _ (two_boxes c.args.places.posts.items c.push_reserved.new.self.items c.push_reserved-2.new.self.items _ _ c.requires.places.no_box c.push_reserved.ensures.items c.push_reserved-2.ensures.items).0 c.worker_of-posted.ensures

pub run_both-requires-clause-second : goal.run_both-requires-clause-second
run_both-requires-clause-second g c κs within =
    new_ready in_memory _ 1 _ _ (two_boxes c.args.places.posts.items c.push_reserved.new.self.items c.push_reserved-2.new.self.items _ _ c.requires.places.no_box c.push_reserved.ensures.items c.push_reserved-2.ensures.items).1 c.worker_of-posted-2.ensures
