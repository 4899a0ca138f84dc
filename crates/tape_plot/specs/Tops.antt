-- Tapes on which the last place of a flow that octets came to is the flow's last place wherever octets are framed: then what is told
-- from the tape alone is what lies in the buffers.
use Rattle.std.specs.Prelude.{false, ◌==◌, ◌≡◌, ◌⊎◌}
use Rattle.tape_laws.specs.History.{EachFollows, History, Noted, Step}
use Rattle.tape_laws.specs.Setup.{Setup}
use Rattle.tape_laws.specs.World.{last_place}
use Rattle.tape_plot.specs.Levels.{places, top}
use Rattle.flow_notes.specs.declared.notes.Note.TheVariants as note

-- a frame of octets comes from the last place that octets came to, and an exchange has a stream
abbrev pub FromTop : {Mark : Type 0} → Setup Mark → Step Mark → History Mark → Type 0
FromTop setup (Noted (note.Frame c f n last)) past = (n ≡ 0) ⊎ (top (places f past) ≡ last_place setup f past)
FromTop setup (Noted (note.Start x c s d)) past = (s == 0) ≡ false
FromTop setup step past = Unit {0}

abbrev pub AreFromTop : {Mark : Type 0} → Setup Mark → History Mark → Type 0
AreFromTop setup history = EachFollows (FromTop setup) history

-- each exchange has a stream
abbrev pub HasStream : {Mark : Type 0} → Step Mark → History Mark → Type 0
HasStream (Noted (note.Start x c s d)) past = (s == 0) ≡ false
HasStream step past = Unit {0}

abbrev pub HaveStreams : {Mark : Type 0} → History Mark → Type 0
HaveStreams history = EachFollows HasStream history
