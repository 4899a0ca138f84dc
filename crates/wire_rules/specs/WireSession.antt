-- The kind of session that a wire session is.
use Rattle.h2_frames.specs.Frame.{content_of}
use Rattle.proxy_config.specs.declared.config.Config.{Config}
use Rattle.std.specs.List.{AllByRecursion}
use Rattle.std.specs.Prelude.{IsSomeAnd, None, false, ◌≡◌, ◌≤◌}
use Rattle.tape_laws.specs.Connections.{open_connections}
use Rattle.tape_laws.specs.History.{Noted}
use Rattle.tape_laws.specs.Setup.{Session}
use Rattle.wire_laws.specs.Base.{wire_base}
use Rattle.wire_laws.specs.Content.{IsPlaced, PlacesContent}
use Rattle.wire_laws.specs.Credit.{left_on, left_to}
use Rattle.wire_laws.specs.Marks.{WireHistory, WireMark, WireStep, taking}
use Rattle.wire_laws.specs.Messages.{SpellsUnit}
use Rattle.wire_rules.specs.Farewells.{TellsOfClose}
use Rattle.wire_rules.specs.Firing.{FiresDue, LeavesNoneDue}
use Rattle.wire_rules.specs.Jobs.{DrainsInTurn, next_to_drain}
use Rattle.wire_rules.specs.Licenses.{IsLicensed, is_drained, wire_must_end}
use Rattle.wire_rules.specs.Owed.{wire_asked}
use Rattle.wire_rules.specs.WireSetup.{wire_setup}
use Rattle.flow_notes.specs.declared.notes.Note.TheVariants as note

-- body enters a buffer only where the whole payload, padding counted, was within both windows (RFC 9113 section 6.9.1)
abbrev pub WithinWindow : Config → WireStep → WireHistory → Type 0
WithinWindow config (Noted (note.Arrive f octets)) past = IsSomeAnd (taking past) (λ t.
    (content_of t.frame ≤ left_on config f t.before) × (content_of t.frame ≤ left_to config t.conn t.before))
WithinWindow config step past = Unit {0}

-- what a wire session asks of each step besides
pub record MayStandOnWire (config : Config) (step : WireStep) (past : WireHistory) : Type 0 where
  -- content is placed once, and within the windows
  pub placed : PlacesContent config step past
  pub within : WithinWindow config step past
  -- heads, trailers, replies and answers are spelled as what was picked
  pub spelled : SpellsUnit config step past
  -- a GOAWAY stands before a close, and only there
  pub told : TellsOfClose config step past
  pub fired : FiresDue config step past
  -- a job makes clients drain, one after another
  pub drains : DrainsInTurn config step past

-- what a whole dispatch leaves besides
pub record LeavesOnWire (config : Config) (past : WireHistory) : Type 0 where
  pub placed : IsPlaced config past
  pub to_drain : next_to_drain config past ≡ None
  pub fired : LeavesNoneDue config past
  pub drained : AllByRecursion (λ c. is_drained config c past ≡ false) (open_connections (wire_base config) past)

abbrev pub wire_session : Config → Session WireMark
wire_session config = record {
  setup = wire_setup config;
  asked = wire_asked config;
  licensed = IsLicensed config;
  may = MayStandOnWire config;
  must_end = wire_must_end config;
  leaves = LeavesOnWire config;
}
