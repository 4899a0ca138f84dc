-- What may be framed on a connection: a unit is one frame, or one header block with its frames.
use Rattle.flow_rules.specs.declared.ids.FlowId.{FlowId}
use Rattle.flow_rules.specs.declared.causes.Cause.{Cause}
use Rattle.flow_notes.specs.declared.notes.CloseCause.{CloseCause}
use Rattle.flow_rules.specs.Kinds.{Hold as HoldKind, Kind, Meter as MeterKind}
use Rattle.std.specs.Prelude.{List, ℕ}

-- A stage that keeps octets on their way. A Hold has a limit in octets, a Meter a limit and a rate in octets for 50 ms.
pub data StageKind : Type 0 where
  Hold : ℕ → StageKind
  Meter : ℕ → ℕ → StageKind

-- what the rules of a flow say of it
abbrev pub kind_of : StageKind → Kind
kind_of (Hold limit) = HoldKind
kind_of (Meter limit rate) = MeterKind

-- what waits on a connection besides its flows: a control frame, or a reply without a body
pub data Waiting : Type 0 where
  Control : (octets : List ℕ) → Waiting
  Reply : (stream status : ℕ) → Waiting

-- which unit a head or answer note frames; a farewell is the GOAWAY before a close, with the code and cause of that close
pub data FramedUnit : Type 0 where
  HeadOf : FlowId → FramedUnit
  TrailersOf : FlowId → FramedUnit
  Put : Waiting → FramedUnit
  Farewell : (code : ℕ) → CloseCause → FramedUnit

-- a unit that was picked for a connection, which the next note frames
pub record Pick : Type 0 where
  pub conn : ℕ
  pub unit : FramedUnit

-- a WINDOW_UPDATE that is due on a stream, or on the connection as stream 0 (RFC 9113 section 6.9)
pub record Grant : Type 0 where
  pub stream : ℕ
  pub n : ℕ

-- what a step asks for at once, before anything but pauses
pub data Demand : Type 0 where
  WantsOut : (conn n : ℕ) → Demand
  WantsStart : (exchange conn stream to : ℕ) → Demand
  WantsArrive : FlowId → List ℕ → Demand
  WantsDoom : (exchange : ℕ) → Cause → Demand
  WantsClose : (conn code : ℕ) → CloseCause → Demand
  WantsPicked : (conn : ℕ) → Demand
