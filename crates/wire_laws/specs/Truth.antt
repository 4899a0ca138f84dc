-- The marks of a history are true of the octets that came.
use Rattle.flow_notes.specs.declared.events.Event.{Event}
use Rattle.h2_frames.specs.Frame.{Frame}
use Rattle.h2_session.specs.Acts.{act_of}
use Rattle.h2_session.specs.declared.act.Act.{Act}
use Rattle.hpack_codec.specs.Table.{Table}
use Rattle.proxy_config.specs.declared.config.Config.{Config}
use Rattle.std.specs.List.{AllByRecursion}
use Rattle.std.specs.Prelude.{Bool, IsTrue, List, Option, Some, false, ℕ, ◌&&◌, ◌==◌, ◌∷◌, ◌≡◌}
use Rattle.tape_laws.specs.Connections.{open_connections}
use Rattle.tape_laws.specs.Dispatches.{this_event}
use Rattle.tape_laws.specs.History.{BeforeTurn, EachFollows, Marked}
use Rattle.wire_laws.specs.Base.{is_open_conn, wire_base}
use Rattle.wire_laws.specs.Blocks.{TableAfter}
use Rattle.wire_laws.specs.Happenings.{happenings, side_of}
use Rattle.wire_laws.specs.Marks.{Broke, Took, WireHistory, WireStep}
use Rattle.wire_laws.specs.Octets.{BreaksOff, HasTaken, IsTakenUp}
use Rattle.flow_notes.specs.declared.events.Event.TheVariants as event

-- the dispatch is that of octets from the connection
abbrev pub reads : ℕ → Option Event → Bool
reads c (Some (event.Read d octets)) = d == c
reads c e = false

abbrev pub IsReadNow : Config → ℕ → WireHistory → Type 0
IsReadNow config c past = IsTrue (is_open_conn config c past && reads c (this_event past))

-- a frame is taken while its connection is open and read, and its act is the session's for what happened
pub record TakesFrame (config : Config) (c : ℕ) (frame : Frame) (a : Act) (past : WireHistory) : Type 0 where
  pub now : IsReadNow config c past
  pub act : a ≡ act_of (side_of config c past) frame (happenings config c past)

abbrev pub ActsRight : Config → WireStep → WireHistory → Type 0
ActsRight config (Marked (Took c frame a reading)) past = TakesFrame config c frame a past
ActsRight config (Marked (Broke c code)) past = IsReadNow config c past
ActsRight config step past = Unit {0}

-- it is the next of the octets, and octets that break off do
abbrev pub FramesRight : Config → WireStep → WireHistory → Type 0
FramesRight config (Marked (Took c frame a reading)) past =
    (rest : List ℕ) × HasTaken config c rest (Marked (Took c frame a reading) ∷ past)
FramesRight config (Marked (Broke c code)) past = BreaksOff config c code past
FramesRight config step past = Unit {0}

-- its field block was read so
abbrev pub BlocksRight : Config → WireStep → WireHistory → Type 0
BlocksRight config (Marked (Took c frame a reading)) past =
    (t : Table) × TableAfter config c (Marked (Took c frame a reading) ∷ past) t
BlocksRight config step past = Unit {0}

-- a dispatch leaves no frame of an open connection, and no fault that its octets show
abbrev pub AllTakenUp : Config → WireHistory → Type 0
AllTakenUp config past = AllByRecursion (λ c. IsTakenUp config c past) (open_connections (wire_base config) past)

pub record MarksAreTrue (config : Config) (history : WireHistory) : Type 0 where
  pub acts : EachFollows (ActsRight config) history
  pub frames : EachFollows (FramesRight config) history
  pub blocks : EachFollows (BlocksRight config) history
  pub all : EachFollows (BeforeTurn (AllTakenUp config)) history
