-- A place that is known, or a new one.
use Rattle.tape_summary.proofs.Placing.{place_added, place_known}
use Rattle.tape_summary.proofs.tracks.Tracks.place.Goals as goal
use Rattle.tape_summary.proofs.tracks.Tracks.place.Goals.{in-Some, in-None+in_ok-at-in-None}

pub returns : goal.returns
returns c = elim c.match-known.branch [
  | in-Some w ↦ place_known c.args.self.now c.match-known.self c.args.spot c.known.result _ c.match-known.at _ c.known.ensures w.in-Some.is w.self-is w.at-is
  | in-None+in_ok-at-in-None w ↦ place_added c.args.self.now _ c.match-known.self c.args.spot c.known.result _ c.match-known.at _ c.known.ensures w.in-None.is w.in_ok-at-in-None.ensures w.self-is w.at-is
]
