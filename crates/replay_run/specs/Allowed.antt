-- A session that breaks no rule, and how its replay may end.
pub use Rattle.session_run.specs.Ending.{IsUnrefused}
use Rattle.session_run.specs.Ending.{longest_line, most_octets}
use Rattle.replay_run.specs.SeenTape.{IsSeen}
use Rattle.session_run.specs.Newlines.{has_newline}
use Rattle.session_lines.specs.Seen.{Playing, seen_text}
use Rattle.session_lines.specs.declared.order.Format.{Format}
use Rattle.session_run.specs.declared.status.Status.{Status}
use Rattle.flow_notes.specs.declared.events.Event.{Event}
use Rattle.std.specs.Prelude.{List, None, Option, Some, false, length, ℕ, ◌++◌, ◌∷◌, ◌≡◌, ◌≤◌}
use Rattle.tape_laws.specs.declared.PlainLimits.{PlainLimits}

-- a header, limits and events, each of which may come after those before it, within the most octets of a session and of a line
pub record IsAllowed (text : List ℕ) : Type 0 where
  pub format : Format
  pub limits : PlainLimits
  pub events : List Event
  pub may : IsSeen (Playing format limits events)
  pub is : text ≡ seen_text (Playing format limits events)
  pub within : length text ≤ most_octets
  pub short : (before line behind : List ℕ) → text ≡ before ++ (line ++ 10 ∷ behind) → has_newline line ≡ false → length line ≤ longest_line

-- such a session is replayed to its end, but for lack of memory and a source or sink that fails
abbrev pub Completes : Option (List ℕ) → Status → Type 0
Completes None how = Unit {0}
Completes (Some text) how = IsAllowed text → IsUnrefused how
