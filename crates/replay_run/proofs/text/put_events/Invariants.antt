use Rattle.std.proofs.Common.{◌≡◌, ◌++◌, List, ℕ, length}
use Rattle.std.specs.List.{AllByRecursion}
use Rattle.flow_notes.specs.Event.{IsEvent}
use Rattle.replay_run.specs.SessionText.{event_text_lines}
use Rattle.replay_run.proofs.text.put_events.Given as goal

abbrev pub invariant-loop-event : goal.invariant-loop-event
invariant-loop-event l = record {
  spelled : AllByRecursion (IsEvent l.names) l.rest;
  told : (done : List ℕ) × (l.into ≡ l.fn.into ++ done) × (event_text_lines l.names l.events ≡ done ++ event_text_lines l.names l.rest);
}

abbrev pub decreases-loop-event : goal.decreases-loop-event
decreases-loop-event l = length l.rest
