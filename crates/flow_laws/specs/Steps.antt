-- Steps that follow one another, and which buffer a step feeds and eases.
use Rattle.flow_rules.specs.declared.ids.BufferId.{BufferId}
use Rattle.std.specs.Prelude.{List, None, Option, Some, [], ◌+◌, ◌∷◌}
use Rattle.tape_laws.specs.History.{History, Noted, Step}
use Rattle.tape_laws.specs.Pauses.{place_buffer}
use Rattle.tape_laws.specs.Setup.{Setup}
use Rattle.flow_rules.specs.declared.ids.BufferId.TheVariants as buffer
use Rattle.flow_notes.specs.declared.notes.CloseCause.TheVariants as closed
use Rattle.flow_notes.specs.declared.notes.Note.TheVariants as note

-- a history with these steps after it, the first of them first
abbrev pub after : {Mark : Type 0} → List (Step Mark) → History Mark → History Mark
after [] past = past
after (s ∷ ss) past = after ss (s ∷ past)

-- the buffer with a watermark that a step makes longer; a receive buffer has none, and pauses nobody
abbrev pub fed_by : {Mark : Type 0} → Setup Mark → Step Mark → History Mark → Option BufferId
fed_by setup (Noted (note.Move f p n)) past = Some (place_buffer setup f (p + 1) past)
fed_by setup (Noted (note.Frame c f n last)) past = Some (buffer.Write c)
fed_by setup (Noted (note.Head c s octets)) past = Some (buffer.Write c)
fed_by setup (Noted (note.Answer c octets)) past = Some (buffer.Write c)
fed_by setup (Noted (note.Credit c s n)) past = Some (buffer.Write c)
fed_by setup step past = None

-- the buffer that it makes shorter, whose drain its watchers are told of
abbrev pub eased_by : {Mark : Type 0} → Setup Mark → Step Mark → History Mark → Option BufferId
eased_by setup (Noted (note.Move f p n)) past = Some (place_buffer setup f p past)
eased_by setup (Noted (note.Frame c f n last)) past = Some (buffer.Send f)
eased_by setup (Noted (note.Out c n)) past = Some (buffer.Write c)
eased_by setup (Noted (note.Close c code closed.Lost)) past = Some (buffer.Write c)
eased_by setup step past = None
