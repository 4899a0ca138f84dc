-- What a run of small steps does to a core and its notes: words on before and after that compose.
use Rattle.flow_notes.specs.Event.{IsEvent}
use Rattle.flow_notes.specs.Note.{IsNote}
use Rattle.flow_notes.specs.declared.events.Event.{Event}
use Rattle.flow_notes.specs.declared.notes.Note.{Note}
use Rattle.std.specs.List.{AllByRecursion}
use Rattle.std.specs.Prelude.{List, [], ℕ, ◌++◌, ◌∷◌, ◌≡◌, ◌⊎◌}
use Rattle.tape_laws.specs.Dispatches.{events_back}
use Rattle.tape_laws.specs.Following.{MayFollowAll}
use Rattle.tape_laws.specs.History.{History, NoMark, onto}
use Rattle.tape_laws.specs.PlainTape.{IsPlainLawful}
use Rattle.tape_laws.specs.declared.PlainLimits.{PlainLimits}
use Rattle.plain_core.specs.Stands.{Good, Rests}
use Rattle.plain_core.specs.declared.plain.PlainCore.{PlainCore}
use Rattle.flow_notes.specs.declared.notes.Note.TheVariants as note

-- each note has a spelling
abbrev pub AreSpelled : List Note → Type 0
AreSpelled notes = AllByRecursion (IsNote []) notes

-- notes were appended: those that stood before stay in front
pub record Appends (before after : List Note) : Type 0 where
  pub added : List Note
  pub is : after ≡ before ++ added

-- the first of them is the turn note of this event
pub record AppendsTurn (before : List Note) (e : Event) (after : List Note) : Type 0 where
  pub number : ℕ
  pub added : List Note
  pub is : after ≡ before ++ note.Turn number e ∷ added

-- there is a history with these notes that the core stands for
pub record IsGood (core : PlainCore) (notes : List Note) : Type 0 where
  pub limits : PlainLimits
  pub history : History NoMark
  pub good : Good limits core (onto notes history)

-- from each history that the core stood for, it stands for that one with the new notes
pub record Keeps (old : PlainCore) (before : List Note) (new : PlainCore) (after : List Note) : Type 0 where
  pub appends : Appends before after
  pub spelled : AreSpelled before → AreSpelled after
  pub events : (h : History NoMark) → events_back (onto after h) ≡ events_back (onto before h)
  pub goes : (limits : PlainLimits) (h : History NoMark) → Good limits old (onto before h) → Good limits new (onto after h)
  pub well : new.failed ≡ old.failed

-- the notes so far are lawful, though the last dispatch is cut short
pub record Cuts (old : PlainCore) (before after : List Note) : Type 0 where
  pub appends : Appends before after
  pub spelled : AreSpelled before → AreSpelled after
  pub events : (h : History NoMark) → events_back (onto after h) ≡ events_back (onto before h)
  pub lawful : (limits : PlainLimits) (h : History NoMark) → Good limits old (onto before h) → IsPlainLawful limits (onto after h)

-- the event's effect is there, and what it begins is under way
pub record Opens (old : PlainCore) (before : List Note) (e : Event) (new : PlainCore) (after : List Note) : Type 0 where
  pub appends : AppendsTurn before e after
  pub spelled : IsEvent [] e → AreSpelled before → AreSpelled after
  pub shows : (h : History NoMark) → events_back (onto after h) ≡ e ∷ events_back (onto before h)
  pub goes : (limits : PlainLimits) (h : History NoMark) → Rests limits old (onto before h) → MayFollowAll (e ∷ events_back (onto before h)) → Good limits new (onto after h)
  pub well : new.failed ≡ old.failed

-- a whole dispatch of an event leads from rest to rest
pub record Turns (old : PlainCore) (before : List Note) (e : Event) (new : PlainCore) (after : List Note) : Type 0 where
  pub appends : AppendsTurn before e after
  pub spelled : IsEvent [] e → AreSpelled before → AreSpelled after
  pub shows : (h : History NoMark) → events_back (onto after h) ≡ e ∷ events_back (onto before h)
  pub goes : (limits : PlainLimits) (h : History NoMark) → Rests limits old (onto before h) → MayFollowAll (e ∷ events_back (onto before h)) → Rests limits new (onto after h)

-- what a dispatch that was cut short leaves: the notes that were there, or some of the event's
pub record CutsTurn (old : PlainCore) (before : List Note) (e : Event) (after : List Note) : Type 0 where
  pub appends : Appends before after
  pub spelled : IsEvent [] e → AreSpelled before → AreSpelled after
  pub shows : (h : History NoMark) →
      (events_back (onto after h) ≡ events_back (onto before h)) ⊎ (events_back (onto after h) ≡ e ∷ events_back (onto before h))
  pub lawful : (limits : PlainLimits) (h : History NoMark) → Rests limits old (onto before h) → MayFollowAll (e ∷ events_back (onto before h)) → IsPlainLawful limits (onto after h)
