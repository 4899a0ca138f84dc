-- How many octets a Meter may let go.
use Rattle.flow_rules.specs.declared.ids.FlowId.{FlowId}
use Rattle.std.specs.Prelude.{List, [], if◌then◌else◌, max, min, ℕ, ◌&&◌, ◌*◌, ◌+◌, ◌-◌, ◌/◌, ◌==◌, ◌∷◌}
use Rattle.tape_laws.specs.Dispatches.{time}
use Rattle.tape_laws.specs.Flows.{same_flow}
use Rattle.tape_laws.specs.History.{History, Noted}
use Rattle.tape_laws.specs.Units.{Hold, Meter, StageKind}
use Rattle.flow_notes.specs.declared.events.Event.TheVariants as event
use Rattle.flow_notes.specs.declared.notes.Note.TheVariants as note

-- the moment when the exchange began
abbrev pub began : {Mark : Type 0} → ℕ → History Mark → ℕ
began x [] = 0
began x (Noted (note.Start y c s d) ∷ past) = if y == x then time past else began x past
began x (step ∷ past) = began x past

-- A Meter begins with as many tokens as its rate, has no more than that, loses one for each octet that it passes
-- on, and gains as many as its rate for each whole 50 ms since it began.
abbrev pub tokens : {Mark : Type 0} → FlowId → ℕ → ℕ → History Mark → ℕ
tokens f p rate [] = 0
tokens f p rate (Noted (note.Start x c s d) ∷ past) = if x == f.exchange then rate else tokens f p rate past
tokens f p rate (Noted (note.Turn k (event.Tick now)) ∷ past) =
    let since = began f.exchange past in
    min rate (tokens f p rate past + rate * ((max now (time past) - since) / 50 - (time past - since) / 50))
tokens f p rate (Noted (note.Move g q n) ∷ past) =
    tokens f p rate past - (if same_flow g f && (p == q) then n else 0)
tokens f p rate (step ∷ past) = tokens f p rate past

-- the rate of the i-th stage, counted from 1
abbrev pub rate_of : StageKind → ℕ
rate_of (Hold limit) = 0
rate_of (Meter limit rate) = rate

abbrev pub rate_at : List StageKind → ℕ → ℕ
rate_at [] i = 0
rate_at (s ∷ ss) i = if i == 1 then rate_of s else rate_at ss (i - 1)
