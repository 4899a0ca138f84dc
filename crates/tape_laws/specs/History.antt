-- A history is a tape with its newest step first, so that each of its tails is what stood before.
use Rattle.flow_notes.specs.declared.notes.Note.{Note}
use Rattle.std.specs.Prelude.{List, [], ◌∷◌}
use Rattle.flow_notes.specs.declared.notes.Note.TheVariants as note

-- A step is a note of the tape, or a mark that the tape doesn't show. What marks there are depends on the kind of
-- session: a wire session marks each frame that is taken and each unit that is picked, a plain session nothing.
pub data Step (Mark : Type 0) : Type 0 where
  Noted : Note → Step Mark
  Marked : Mark → Step Mark

abbrev pub History : Type 0 → Type 0
History Mark = List (Step Mark)

-- the marks of a plain session: there is none
pub data NoMark : Type 0 where

-- the notes of a history, newest first
abbrev pub notes_of : {Mark : Type 0} → History Mark → List Note
notes_of [] = []
notes_of (Noted n ∷ past) = n ∷ notes_of past
notes_of (Marked m ∷ past) = notes_of past

-- a history with these notes after it, the first of them first
abbrev pub onto : {Mark : Type 0} → List Note → History Mark → History Mark
onto [] past = past
onto (n ∷ ns) past = onto ns (Noted n ∷ past)

-- P holds of the whole history and of each earlier one
abbrev pub AtEachMoment : {Mark : Type 0} → (History Mark → Type 0) → History Mark → Type 0
AtEachMoment P [] = P []
AtEachMoment P (step ∷ past) = P (step ∷ past) × AtEachMoment P past

-- each step may follow what stood before it
abbrev pub EachFollows : {Mark : Type 0} → (Step Mark → History Mark → Type 0) → History Mark → Type 0
EachFollows May [] = Unit {0}
EachFollows May (step ∷ past) = May step past × EachFollows May past

-- a dispatch begins with its turn note, so P holds at each end of a dispatch but perhaps the last
abbrev pub BeforeTurn : {Mark : Type 0} → (History Mark → Type 0) → Step Mark → History Mark → Type 0
BeforeTurn P (Noted (note.Turn k e)) past = P past
BeforeTurn P step past = Unit {0}

-- P holds at each settled moment: one after which no pause note stands
abbrev pub BeforeOthers : {Mark : Type 0} → (History Mark → Type 0) → Step Mark → History Mark → Type 0
BeforeOthers P (Noted (note.Pause f b)) past = Unit {0}
BeforeOthers P step past = P past
