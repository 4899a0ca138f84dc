-- How tapes of wire sessions are written down, with their marks.
use Rattle.hpack_codec.specs.declared.fields.Field.{Field}
use Rattle.proxy_config.specs.declared.config.Cluster.{Cluster}
use Rattle.proxy_config.specs.declared.config.Config.{Config}
use Rattle.proxy_config.specs.declared.routes.Filter.{Filter}
use Rattle.proxy_config.specs.declared.routes.Route.{Route}
use Rattle.std.specs.Prelude.{Bool, List, None, Option, Some, [], false, if◌then◌else◌, nat_lt, true, ℕ, ◌*◌, ◌+◌, ◌-◌, ◌==◌, ◌∷◌}
use Rattle.tape_laws.specs.History.{EachFollows, Noted}
use Rattle.tape_laws.specs.Lawful.{IsLawful}
use Rattle.tape_laws.specs.Order.{Grants, NextUnit}
use Rattle.tape_laws.specs.Quiet.{IsQuiet}
use Rattle.tape_laws.specs.Units.{FramedUnit, Pick, Put}
use Rattle.wire_laws.specs.Marks.{WireHistory, WireStep}
use Rattle.wire_laws.specs.Truth.{ActsRight}
use Rattle.wire_rules.specs.WireSession.{wire_session}
use Rattle.flow_rules.specs.declared.causes.Cause.TheVariants as cause
use Rattle.flow_notes.specs.declared.notes.Note.TheVariants as note

abbrev pub digit : ℕ → ℕ
digit c = if nat_lt c 58 then c - 48 else c - 87

-- octets by two hexadecimal digits each
abbrev pub hex : List ℕ → List ℕ
hex (a ∷ b ∷ rest) = (16 * digit a + digit b) ∷ hex rest
hex digits = []

abbrev pub field : List ℕ → List ℕ → Bool → Field
field name value never = record { name = name; value = value; never = never }

abbrev pub cluster : List ℕ → Cluster
cluster name = record { name = name; address = None }

abbrev pub route : Option (List ℕ) → Option (List ℕ) → Option (List ℕ) → List ℕ → List Filter → List Filter → Route
route authority path prefix to there back = record {
  authority = authority;
  path = path;
  prefix = prefix;
  cluster = to;
  request = there;
  response = back;
  hold_limit = 1048576;
  meter_limit = 1048576;
  meter_rate = 65536;
}

-- a lawful tape of whole dispatches, whose acts are those of its frames
pub record Lawful (config : Config) (tape : WireHistory) : Type 0 where
  pub lawful : IsLawful (wire_session config) tape
  pub quiet : IsQuiet (wire_session config) tape
  pub acts : EachFollows (ActsRight config) tape

-- the same of one that may be cut short
pub record Begun (config : Config) (tape : WireHistory) : Type 0 where
  pub lawful : IsLawful (wire_session config) tape
  pub acts : EachFollows (ActsRight config) tape

-- ---- tests that tell steps and units apart
abbrev pub is_put : FramedUnit → Bool
is_put (Put w) = true
is_put u = false

abbrev pub picks_put : Option Pick → Bool
picks_put (Some p) = is_put p.unit
picks_put None = false

abbrev pub refuses : ℕ → WireStep → Bool
refuses n (Noted (note.Doom x (cause.Refused status))) = status == n
refuses n step = false

abbrev pub grants_octets : ℕ → NextUnit → Bool
grants_octets n (Grants g) = g.n == n
grants_octets n next = false
