-- Tapes of plain sessions, newest note first.
use Rattle.flow_rules.specs.declared.ids.BufferId.{BufferId}
use Rattle.flow_rules.specs.declared.ids.FlowId.{FlowId}
use Rattle.flow_notes.specs.declared.notes.Note.{Note}
use Rattle.std.specs.Prelude.{List, [], false, map, replicate, ℕ, ◌∷◌}
use Rattle.tape_laws.specs.Flows.{request}
use Rattle.tape_laws.specs.History.{History, NoMark, Noted}
use Rattle.tape_laws.specs.PlainTape.{IsPlainWhole}
use Rattle.tape_laws.specs.declared.PlainLimits.{PlainLimits}
use Rattle.flow_rules.specs.declared.ids.BufferId.TheVariants as buffer
use Rattle.flow_notes.specs.declared.events.Event.TheVariants as event
use Rattle.flow_notes.specs.declared.notes.Note.TheVariants as note
use Rattle.flow_notes.specs.declared.events.PlainEvent.TheVariants as plain

abbrev pub noted : List Note → History NoMark
noted tape = map (λ n. Noted n) tape

-- a lawful tape of whole dispatches
abbrev pub Whole : PlainLimits → List Note → Type 0
Whole limits tape = IsPlainWhole limits (noted tape)

abbrev pub octets : ℕ → List ℕ
octets n = replicate n 170

abbrev pub q1 : FlowId
q1 = request 1

abbrev pub q3 : FlowId
q3 = request 3

abbrev pub write : BufferId
write = buffer.Write 0

-- one stream was begun
abbrev pub begun : List Note
begun =
    note.Start 1 0 1 0
    ∷ note.Turn 1 (event.Plain (plain.Begin 1))
    ∷ []

-- ten octets came and were moved
abbrev pub moved : List Note
moved =
    note.Move q1 0 10
    ∷ note.Arrive q1 (octets 10)
    ∷ note.Turn 2 (event.Plain (plain.Body 1 (octets 10)))
    ∷ begun

-- they stand above the send buffer's limit of 8 and make 19 octets of the write buffer
abbrev pub limits_8_30 : PlainLimits
limits_8_30 = record { recv = 65535; send = 8; write = 30; quantum = 16384 }

abbrev pub limits_8_10 : PlainLimits
limits_8_10 = record { recv = 65535; send = 8; write = 10; quantum = 16384 }

abbrev pub limits_10_19 : PlainLimits
limits_10_19 = record { recv = 65535; send = 10; write = 19; quantum = 16384 }

abbrev pub limits_0_1 : PlainLimits
limits_0_1 = record { recv = 65535; send = 0; write = 1; quantum = 16384 }

-- the send buffer rose and drained, and the write buffer is above its limit of 10
abbrev pub paused : List Note
paused =
    note.Resume q1 (buffer.Send q1)
    ∷ note.Pause q1 write
    ∷ note.Frame 0 q1 10 false
    ∷ note.Pause q1 (buffer.Send q1)
    ∷ moved

-- of its 19 octets 5 left, and then 9
abbrev pub eased : List Note
eased =
    note.Out 0 9
    ∷ note.Turn 4 (event.Plain (plain.Room 9))
    ∷ note.Out 0 5
    ∷ note.Turn 3 (event.Plain (plain.Room 5))
    ∷ paused
