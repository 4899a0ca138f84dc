-- The notes of one dispatch behind a history.
use Rattle.flow_notes.specs.Event.{IsEvent}
use Rattle.flow_notes.specs.Note.{IsNote}
use Rattle.flow_notes.specs.declared.events.Event.{Event}
use Rattle.flow_notes.specs.declared.notes.Note.{Note}
use Rattle.std.proofs.Common.{append_assoc, arith, refl, subst, sym, ◌∙◌}
use Rattle.std.proofs.lemmas.List.{append-nil}
use Rattle.std.specs.List.{AllByRecursion}
use Rattle.std.specs.Prelude.{List, [], ℕ, ◌++◌, ◌+◌, ◌<◌, ◌∷◌, ◌≡◌}
use Rattle.tape_laws.specs.Dispatches.{events_back, turns}
use Rattle.tape_laws.specs.History.{History, NoMark, Noted, notes_of, onto}
use Rattle.tape_laws.specs.Text.{note_line, tape_text}
use Rattle.tape_summary.specs.NotesText.{notes_text}
use Rattle.wire_run.specs.Tapes.{AreTurnsInOrder}
use Rattle.wire_state.specs.Noting.{IsStep}
use Rattle.worker_core.specs.Dispatching.{Tells}
use Rattle.flow_notes.specs.declared.notes.Note.TheVariants as note

-- the text of a history with notes behind it
pub onto_text : (names : List (List ℕ)) (ns : List Note) (h : History NoMark) → tape_text names (onto ns h) ≡ tape_text names h ++ notes_text names ns
onto_text names [] h = sym (append-nil (tape_text names h))
onto_text names (n ∷ ns) h = onto_text names ns (Noted n ∷ h) ∙ append_assoc (tape_text names h) (note_line names n) (notes_text names ns)

-- a note that begins no dispatch stands in the one that was begun
record Stays (n : Note) (h : History NoMark) : Type 0 where
  shown : events_back (Noted n ∷ h) ≡ events_back h
  turned : turns (Noted n ∷ h) ≡ turns h
  ordered : 0 < turns h → AreTurnsInOrder h → AreTurnsInOrder (Noted n ∷ h)
  spelled : (names : List (List ℕ)) → IsNote names n

stays : (n : Note) (h : History NoMark) → IsStep n → Stays n h
stays (note.Turn k e) h i = absurd i
stays (note.Arrive f o) h i = record { shown = refl; turned = refl; ordered = λ some o. (some, o); spelled = λ names. i }
stays (note.Move f p n) h i = record { shown = refl; turned = refl; ordered = λ some o. (some, o); spelled = λ names. i }
stays (note.Frame c f n last) h i = record { shown = refl; turned = refl; ordered = λ some o. (some, o); spelled = λ names. i }
stays (note.Out c n) h i = record { shown = refl; turned = refl; ordered = λ some o. (some, o); spelled = λ names. i }
stays (note.Pause f b) h i = record { shown = refl; turned = refl; ordered = λ some o. (some, o); spelled = λ names. i }
stays (note.Resume f b) h i = record { shown = refl; turned = refl; ordered = λ some o. (some, o); spelled = λ names. i }
stays (note.Credit c s n) h i = record { shown = refl; turned = refl; ordered = λ some o. (some, o); spelled = λ names. i }
stays (note.Head c s o) h i = record { shown = refl; turned = refl; ordered = λ some o. (some, o); spelled = λ names. i }
stays (note.Answer c o) h i = record { shown = refl; turned = refl; ordered = λ some o. (some, o); spelled = λ names. i }
stays (note.Waste c s n) h i = record { shown = refl; turned = refl; ordered = λ some o. (some, o); spelled = λ names. i }
stays (note.Start x c s d) h i = record { shown = refl; turned = refl; ordered = λ some o. (some, o); spelled = λ names. i }
stays (note.Doom x why) h i = record { shown = refl; turned = refl; ordered = λ some o. (some, o); spelled = λ names. i }
stays (note.Gone x) h i = record { shown = refl; turned = refl; ordered = λ some o. (some, o); spelled = λ names. i }
stays (note.Close c code why) h i = record { shown = refl; turned = refl; ordered = λ some o. (some, o); spelled = λ names. i }
stays (note.Fire kind id) h i = record { shown = refl; turned = refl; ordered = λ some o. (some, o); spelled = λ names. i }

-- so do such notes
record AllStay (ns : List Note) (h : History NoMark) : Type 0 where
  shown : events_back (onto ns h) ≡ events_back h
  turned : turns (onto ns h) ≡ turns h
  ordered : 0 < turns h → AreTurnsInOrder h → AreTurnsInOrder (onto ns h)
  spelled : (names : List (List ℕ)) → AllByRecursion (IsNote names) ns

all_stay : (ns : List Note) (h : History NoMark) → AllByRecursion IsStep ns → AllStay ns h
all_stay [] h a = record { shown = refl; turned = refl; ordered = λ some o. o; spelled = λ names. tt }
all_stay (n ∷ ns) h a =
    let one = stays n h a.0 in
    let more = all_stay ns (Noted n ∷ h) a.1 in
    record {
      shown = more.shown ∙ one.shown;
      turned = more.turned ∙ one.turned;
      ordered = λ some o. more.ordered (let P : ℕ → Type 0 = λ k. 0 < k in subst P (sym one.turned) some) (one.ordered some o);
      spelled = λ names. (one.spelled names, more.spelled names);
    }

notes_onto : (names : List (List ℕ)) (ns : List Note) (h : History NoMark) → AllByRecursion (IsNote names) ns → AllByRecursion (IsNote names) (notes_of h) → AllByRecursion (IsNote names) (notes_of (onto ns h))
notes_onto names [] h a b = b
notes_onto names (n ∷ ns) h a b = notes_onto names ns (Noted n ∷ h) a.1 (a.0, b)

-- a whole dispatch
pub record Adds (number : ℕ) (e : Event) (ns : List Note) (h : History NoMark) : Type 0 where
  pub shown : events_back (onto ns h) ≡ e ∷ events_back h
  pub turned : turns (onto ns h) ≡ turns h + 1
  pub ordered : number ≡ turns h + 1 → AreTurnsInOrder h → AreTurnsInOrder (onto ns h)
  pub spelled : (names : List (List ℕ)) → 0 < number → IsEvent names e → AllByRecursion (IsNote names) ns
  pub told : (names : List (List ℕ)) → 0 < number → IsEvent names e → AllByRecursion (IsNote names) (notes_of h) → AllByRecursion (IsNote names) (notes_of (onto ns h))

whole : (number : ℕ) (e : Event) (added : List Note) (h : History NoMark) → AllByRecursion IsStep added → Adds number e (note.Turn number e ∷ added) h
whole number e added h a =
    let all = all_stay added (Noted (note.Turn number e) ∷ h) a in
    record {
      shown = all.shown;
      turned = all.turned;
      ordered = λ is o. all.ordered (omega arith) (is, o);
      spelled = λ names some is. ((some, is), all.spelled names);
      told = λ names some is was. notes_onto names (note.Turn number e ∷ added) h ((some, is), all.spelled names) was;
    }

pub dispatch_adds : (number : ℕ) (e : Event) (ns : List Note) (h : History NoMark) → Tells number e [] ns → Adds number e ns h
dispatch_adds number e ns h t = let P : List Note → Type 0 = λ v. Adds number e v h in subst P (sym t.is) (whole number e t.added h t.steps)

-- with the names of the lines
pub renamed : (names clusters : List (List ℕ)) (e : Event) → names ≡ clusters → IsEvent names e → IsEvent clusters e
renamed names clusters e is k = let P : List (List ℕ) → Type 0 = λ v. IsEvent v e in subst P is k
