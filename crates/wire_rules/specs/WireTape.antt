-- The lawful tapes of a wire session.
use Rattle.flow_notes.specs.declared.events.Event.{Event}
use Rattle.flow_notes.specs.declared.notes.Note.{Note}
use Rattle.proxy_config.specs.declared.config.Config.{Config}
use Rattle.std.specs.Prelude.{List, reverse, ◌≡◌}
use Rattle.tape_laws.specs.Dispatches.{events_back}
use Rattle.tape_laws.specs.History.{notes_of}
use Rattle.tape_laws.specs.Lawful.{IsLawful}
use Rattle.tape_laws.specs.Quiet.{IsQuiet}
use Rattle.wire_laws.specs.Marks.{WireHistory}
use Rattle.wire_laws.specs.Truth.{AllTakenUp, MarksAreTrue}
use Rattle.wire_rules.specs.WireSession.{wire_session}

-- a history that may be cut short in its last dispatch
pub record IsWireLawful (config : Config) (history : WireHistory) : Type 0 where
  pub lawful : IsLawful (wire_session config) history
  pub marks : MarksAreTrue config history

-- a history that ends with a whole dispatch
pub record IsWireWhole (config : Config) (history : WireHistory) : Type 0 where
  pub lawful : IsWireLawful config history
  pub quiet : IsQuiet (wire_session config) history
  pub all : AllTakenUp config history

-- a tape with these events is lawful where some placing of the marks among its notes makes it so
pub record IsWireTape (config : Config) (events : List Event) (tape : List Note) : Type 0 where
  pub history : WireHistory
  pub notes : tape ≡ reverse (notes_of history)
  pub shown : events ≡ reverse (events_back history)
  pub whole : IsWireWhole config history
