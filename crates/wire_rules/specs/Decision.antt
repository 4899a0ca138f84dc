-- What is decided of a request head (RFC 9113 section 8.3.1): whether its exchange is doomed at once, and where it goes.
use Rattle.flow_rules.specs.declared.causes.Cause.{Cause}
use Rattle.hpack_codec.specs.declared.fields.Field.{Field}
use Rattle.proxy_config.specs.declared.config.Config.{Config}
use Rattle.std.specs.Prelude.{Bool, List, None, Option, Some, false, if◌then◌else◌, not, true, ℕ, ◌&&◌, ◌∷◌}
use Rattle.tape_laws.specs.History.{Marked}
use Rattle.wire_heads.specs.Requests.{decision as decide}
use Rattle.wire_heads.specs.declared.requests.Decision.{Decision}
use Rattle.wire_laws.specs.Base.{is_open_conn}
use Rattle.wire_laws.specs.Draining.{draining}
use Rattle.wire_laws.specs.Marks.{Fields, Reading, Refused, Took, WireHistory}
use Rattle.wire_laws.specs.Overload.{stops_requests}
use Rattle.wire_laws.specs.Peers.{is_client}
use Rattle.wire_rules.specs.Choice.{chosen}
use Rattle.flow_rules.specs.declared.causes.Cause.TheVariants as cause
use Rattle.h2_session.specs.declared.act.Act.TheVariants as act
use Rattle.wire_heads.specs.declared.requests.Decision.TheVariants as decision

-- the fields of a block, where they were read and aren't too long
abbrev pub fields_of : Reading → Option (List Field)
fields_of (Fields fields) = Some fields
fields_of reading = None

abbrev pub is_refused : Reading → Bool
is_refused Refused = true
is_refused reading = false

abbrev pub decision_of : Config → Reading → Bool → WireHistory → Decision
decision_of config reading last past =
    decide config (fields_of reading) last (stops_requests config past) (λ cluster. chosen config cluster past)

-- the cause of an exchange that is doomed by its decision, and the connection of one that isn't, 0 for none
abbrev pub cause_of : Decision → Option Cause
cause_of (decision.Going routed conn) = None
cause_of (decision.Refused status row) = Some (cause.Refused status)
cause_of decision.Malformed = Some (cause.StreamError 1)
cause_of decision.Overload = Some cause.Overload

abbrev pub conn_of : Decision → ℕ
conn_of (decision.Going routed conn) = conn
conn_of decided = 0

-- a request head that opens an exchange
pub record Opening : Type 0 where
  pub conn : ℕ
  pub stream : ℕ
  pub decided : Decision

-- the frame just taken ended such a head: on a client's open connection that isn't draining, in a block that can be read
abbrev pub opening : Config → WireHistory → Option Opening
opening config (Marked (Took c frame (act.Head s block last) reading) ∷ past) =
    if is_client c past && is_open_conn config c past && not (draining config c past) && not (is_refused reading)
    then Some (record { conn = c; stream = s; decided = decision_of config reading last past }) else None
opening config past = None
