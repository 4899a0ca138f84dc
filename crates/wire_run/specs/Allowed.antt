-- A wire session that breaks no rule, and how its run may end.
use Rattle.flow_notes.specs.declared.events.Event.{Event}
use Rattle.proxy_config.specs.declared.config.Config.{Config}
use Rattle.session_config.specs.ClusterNames.{names_in, resources_in}
use Rattle.session_lines.specs.WireLines.{Behind, wire_text}
use Rattle.session_lines.specs.WireOrder.{MayFollowWireAll}
pub use Rattle.session_run.specs.Ending.{IsUnrefused}
use Rattle.session_run.specs.Ending.{longest_line, most_octets}
use Rattle.session_run.specs.Newlines.{has_newline}
use Rattle.session_run.specs.declared.status.Status.{Status}
use Rattle.std.specs.Prelude.{List, None, Option, Some, false, length, ℕ, ◌++◌, ◌∷◌, ◌≡◌, ◌≤◌}

-- a header and events, each of which may come after those before it, within the most octets of a session and of a line
pub record IsAllowedWire (config : Config) (text : List ℕ) : Type 0 where
  pub events : List Event
  pub may : MayFollowWireAll (names_in config) (resources_in config) events
  pub is : text ≡ wire_text (names_in config) (Behind events)
  pub within : length text ≤ most_octets
  pub short : (before line behind : List ℕ) → text ≡ before ++ (line ++ 10 ∷ behind) → has_newline line ≡ false → length line ≤ longest_line

-- such a session is run to its end, but for lack of memory and a source or sink that fails
abbrev pub Completes : Config → Option (List ℕ) → Status → Type 0
Completes config None how = Unit {0}
Completes config (Some text) how = IsAllowedWire config text → IsUnrefused how
