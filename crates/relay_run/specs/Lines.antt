-- Which lines a relay's session has: those of a wire session, none of which reads a paused flow. Events stand newest first.
use Rattle.flow_notes.specs.declared.events.Event.{Event}
use Rattle.proxy_config.specs.declared.config.Config.{Config}
use Rattle.relay_laws.specs.Pairs.{Tape}
use Rattle.relay_laws.specs.Session.{reads_paused, relay_tape}
use Rattle.relay_run.specs.Terms.{limit_of}
use Rattle.session_config.specs.ClusterNames.{names_in, resources_in}
use Rattle.session_lines.specs.WireLines.{Behind, NoLine, WireEvent, WireHeader, WireItem, WireSeen, wire_events, wire_line}
use Rattle.session_lines.specs.WireOrder.{MayFollowWire}
use Rattle.std.specs.Prelude.{List, [], false, ℕ, ◌∷◌, ◌≡◌}

-- an event of a wire session that may follow these, and doesn't read a paused flow of their tape
pub record MayFollowRelay (config : Config) (es : List Event) (e : Event) : Type 0 where
  pub wire : MayFollowWire (names_in config) (resources_in config) es e
  pub backs_off : reads_paused (limit_of config) e (relay_tape (limit_of config) es) ≡ false

abbrev pub MayFollowRelayAll : Config → List Event → Type 0
MayFollowRelayAll config [] = Unit {0}
MayFollowRelayAll config (e ∷ es) = MayFollowRelay config es e × MayFollowRelayAll config es

-- whether the next line may spell this
abbrev pub MayComeRelay : Config → WireSeen → WireItem → Type 0
MayComeRelay config NoLine WireHeader = Unit {0}
MayComeRelay config (Behind es) (WireEvent e) = MayFollowRelay config es e
MayComeRelay config seen item = ⊥

-- the line spells what may come
pub record SpellsRelay (config : Config) (seen : WireSeen) (line : List ℕ) (item : WireItem) : Type 0 where
  pub may : MayComeRelay config seen item
  pub is : wire_line (names_in config) item ≡ line

-- it spells nothing that may come
abbrev pub SpellsNoRelay : Config → WireSeen → List ℕ → Type 0
SpellsNoRelay config seen line = (item : WireItem) → SpellsRelay config seen line item → ⊥

-- lines that may come one after another
abbrev pub IsRelaySeen : Config → WireSeen → Type 0
IsRelaySeen config NoLine = Unit {0}
IsRelaySeen config (Behind es) = MayFollowRelayAll config es

-- the tape of their events
abbrev pub seen_tape : Config → WireSeen → Tape
seen_tape config seen = relay_tape (limit_of config) (wire_events seen)
