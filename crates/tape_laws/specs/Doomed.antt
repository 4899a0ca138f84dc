-- A doomed exchange is untouched until it is gone, at the end of the dispatch.
use Rattle.flow_notes.specs.declared.notes.Note.{Note}
use Rattle.std.specs.Prelude.{Bool, IfSome, IsTrue, List, None, Option, Some, [], drop, false, true, ℕ, ◌++◌, ◌∷◌, ◌≡◌}
use Rattle.tape_laws.specs.Dispatches.{has, live, started}
use Rattle.tape_laws.specs.History.{History, Marked, Noted, Step}
use Rattle.tape_laws.specs.Pauses.{Heads}
use Rattle.flow_rules.specs.declared.causes.FireKind.TheVariants as kind
use Rattle.flow_notes.specs.declared.notes.Note.TheVariants as note

-- the exchange that a note names
abbrev pub named : Note → Option ℕ
named (note.Arrive f octets) = Some f.exchange
named (note.Move f p n) = Some f.exchange
named (note.Frame c f n last) = Some f.exchange
named (note.Pause f b) = Some f.exchange
named (note.Resume f b) = Some f.exchange
named (note.Doom x why) = Some x
named (note.Fire kind.Route id) = Some id
named (note.Fire kind.StreamIdle id) = Some id
named n = None

-- the exchanges that were doomed and aren't gone, in the order of their dooms
abbrev pub condemned : {Mark : Type 0} → History Mark → List ℕ
condemned [] = []
condemned (Noted (note.Doom x why) ∷ past) = condemned past ++ x ∷ []
condemned (Noted (note.Gone x) ∷ past) = drop 1 (condemned past)
condemned (step ∷ past) = condemned past

-- a note names only a live exchange; a doomed one is gone once, in its turn, and no dispatch leaves any
abbrev pub LeavesDoomed : {Mark : Type 0} → Step Mark → History Mark → Type 0
LeavesDoomed (Noted (note.Gone x)) past = Heads x (condemned past)
LeavesDoomed (Noted (note.Turn k e)) past = condemned past ≡ []
LeavesDoomed (Noted (note.Start x c s d)) past = has (started past) x ≡ false
LeavesDoomed (Noted n) past = IfSome (named n) (λ x. IsTrue (has (live past) x))
LeavesDoomed (Marked m) past = Unit {0}

-- the last step was a gone note
abbrev pub is_swept : {Mark : Type 0} → History Mark → Bool
is_swept (Noted (note.Gone x) ∷ past) = true
is_swept history = false

-- exchanges are gone at their dispatch's end: behind a gone note only others stand, or the next turn note
abbrev pub SweepsLast : {Mark : Type 0} → Step Mark → History Mark → Type 0
SweepsLast (Noted (note.Gone x)) past = Unit {0}
SweepsLast (Noted (note.Turn k e)) past = Unit {0}
SweepsLast step past = is_swept past ≡ false
