-- A text of notes, passage by passage.
use Rattle.flow_rules.specs.declared.ids.BufferId.{BufferId}
use Rattle.flow_rules.specs.declared.ids.FlowId.{FlowId}
use Rattle.flow_notes.specs.Buffer.{buffer_words}
use Rattle.flow_notes.specs.Flow.{flow_word}
use Rattle.flow_notes.specs.Line.{newline, spaced}
use Rattle.flow_notes.specs.Note.{IsNote}
use Rattle.flow_notes.specs.Passages.{notes_of_passage}
use Rattle.flow_notes.specs.declared.notes.Note.{Note}
use Rattle.flow_notes.specs.declared.passages.Passage.{Passage}
use Rattle.tape_summary.specs.NotesText.{notes_text}
use Rattle.std.proofs.Common.{ap, append_assoc, arith, refl, subst, sym, ◌∙◌}
use Rattle.std.proofs.lemmas.Grind.{common_steps}
use Rattle.std.proofs.lemmas.List.{append-nil}
use Rattle.std.specs.List.{AllByRecursion, flat_map}
use Rattle.io_ports.specs.declared.octets.NoMemory.{NoMemory}
use Rattle.std.specs.Prelude.{Err, List, Ok, OnOk, Result, [], codes, map, ℕ, ◌++◌, ◌∷◌, ◌≡◌}
use Rattle.tape_laws.specs.Text.{note_line}
use Rattle.flow_rules.specs.declared.ids.BufferId.TheVariants as buffer
use Rattle.flow_notes.specs.declared.notes.Note.TheVariants as note

text_joined : (names : List (List ℕ)) (ms ns : List Note) → notes_text names (ms ++ ns) ≡ notes_text names ms ++ notes_text names ns
text_joined names [] ns = refl
text_joined names (m ∷ ms) ns = ap (λ (v : List ℕ). note_line names m ++ v) (text_joined names ms ns) ∙ sym (append_assoc (note_line names m) (notes_text names ms) (notes_text names ns))

front_spelled : (names : List (List ℕ)) (ms ns : List Note) → AllByRecursion (IsNote names) (ms ++ ns) → AllByRecursion (IsNote names) ms
front_spelled names [] ns s = tt
front_spelled names (m ∷ ms) ns s = (s.0, front_spelled names ms ns s.1)

back_spelled : (names : List (List ℕ)) (ms ns : List Note) → AllByRecursion (IsNote names) (ms ++ ns) → AllByRecursion (IsNote names) ns
back_spelled names [] ns s = s
back_spelled names (m ∷ ms) ns s = back_spelled names ms ns s.1

spelled_as : (names : List (List ℕ)) (ms ns : List Note) → ms ≡ ns → AllByRecursion (IsNote names) ms → AllByRecursion (IsNote names) ns
spelled_as names ms ns e s = let P : List Note → Type 0 = λ v. AllByRecursion (IsNote names) v in subst P e s

pub all_spelled : (names : List (List ℕ)) (notes : List Note) (left : List (List Note)) → notes ≡ flat_map (λ notes. notes) left → AllByRecursion (IsNote names) notes → AllByRecursion (IsNote names) (flat_map (λ notes. notes) left)
all_spelled names notes left e s = spelled_as names notes (flat_map (λ notes. notes) left) e s

first_of_left : (left after : List (List Note)) (ns : List Note) → left ≡ ns ∷ after → flat_map (λ notes. notes) left ≡ ns ++ flat_map (λ notes. notes) after
first_of_left left after ns e = ap (λ (v : List (List Note)). flat_map (λ notes. notes) v) e

pub first_spelled : (names : List (List ℕ)) (left after : List (List Note)) (ns : List Note) → left ≡ ns ∷ after → AllByRecursion (IsNote names) (flat_map (λ notes. notes) left) → AllByRecursion (IsNote names) ns
first_spelled names left after ns e s = front_spelled names ns (flat_map (λ notes. notes) after) (spelled_as names (flat_map (λ notes. notes) left) (ns ++ flat_map (λ notes. notes) after) (first_of_left left after ns e) s)

pub after_spelled : (names : List (List ℕ)) (left after : List (List Note)) (ns : List Note) → left ≡ ns ∷ after → AllByRecursion (IsNote names) (flat_map (λ notes. notes) left)
    → AllByRecursion (IsNote names) (flat_map (λ notes. notes) after)
after_spelled names left after ns e s = back_spelled names ns (flat_map (λ notes. notes) after) (spelled_as names (flat_map (λ notes. notes) left) (ns ++ flat_map (λ notes. notes) after) (first_of_left left after ns e) s)

-- so much is told
abbrev pub IsTold : (names : List (List ℕ)) → List Note → List (List Note) → List ℕ → List ℕ → Type 0
IsTold names notes left old into = (done : List ℕ) × (into ≡ old ++ done) × (notes_text names notes ≡ done ++ notes_text names (flat_map (λ notes. notes) left))

pub told_none : (names : List (List ℕ)) (notes : List Note) (left : List (List Note)) (old : List ℕ) → notes ≡ flat_map (λ notes. notes) left → IsTold names notes left old old
told_none names notes left old e = ([], sym (append-nil old), ap (notes_text names) e)

pub told_more : (names : List (List ℕ)) (notes : List Note) (left after : List (List Note)) (ns : List Note) (old into new : List ℕ) → left ≡ ns ∷ after → new ≡ into ++ notes_text names ns → IsTold names notes left old into
    → IsTold names notes after old new
told_more names notes left after ns old into new e is k = (
  k.0 ++ notes_text names ns,
  is ∙ ap (λ (v : List ℕ). v ++ notes_text names ns) k.1 ∙ append_assoc old k.0 (notes_text names ns),
  k.2
      ∙ ap (λ (v : List Note). k.0 ++ notes_text names v) (first_of_left left after ns e)
      ∙ ap (λ (v : List ℕ). k.0 ++ v) (text_joined names ns (flat_map (λ notes. notes) after))
      ∙ sym (append_assoc k.0 (notes_text names ns) (notes_text names (flat_map (λ notes. notes) after))),
)

pub told_all : (names : List (List ℕ)) (notes : List Note) (left : List (List Note)) (old into : List ℕ) → left ≡ [] → IsTold names notes left old into → into ≡ old ++ notes_text names notes
told_all names notes left old into e k =
    k.1
    ∙ ap (λ (v : List ℕ). old ++ v) (sym (k.2 ∙ ap (λ (v : List (List Note)). k.0 ++ notes_text names (flat_map (λ notes. notes) v)) e ∙ append-nil k.0))

-- ---- a row of pauses or resumes

pub row_more : (names : List (List ℕ)) (g : FlowId → Note) (flows rest after : List FlowId) (f : FlowId) (line old into new : List ℕ) → rest ≡ f ∷ after → line ≡ note_line names (g f) → new ≡ into ++ line
    → (done : List ℕ) × (into ≡ old ++ done) × (notes_text names (map g flows) ≡ done ++ notes_text names (map g rest))
    → (done : List ℕ) × (new ≡ old ++ done) × (notes_text names (map g flows) ≡ done ++ notes_text names (map g after))
row_more names g flows rest after f line old into new e el en k = (
  k.0 ++ line,
  en ∙ ap (λ (v : List ℕ). v ++ line) k.1 ∙ append_assoc old k.0 line,
  k.2
      ∙ ap (λ (v : List FlowId). k.0 ++ notes_text names (map g v)) e
      ∙ ap (λ (v : List ℕ). k.0 ++ (v ++ notes_text names (map g after))) (sym el)
      ∙ sym (append_assoc k.0 line (notes_text names (map g after))),
)

pub pause_spelled : (names : List (List ℕ)) (f : FlowId) (b : BufferId) → codes "pause " ++ (flow_word f ++ (spaced (buffer_words b) ++ newline)) ≡ note_line names (note.Pause f b)
pause_spelled names f (buffer.Recv g) = grind (arith, common_steps)
pause_spelled names f (buffer.Stage g i) = grind (arith, common_steps)
pause_spelled names f (buffer.Send g) = grind (arith, common_steps)
pause_spelled names f (buffer.Write c) = grind (arith, common_steps)

pub resume_spelled : (names : List (List ℕ)) (f : FlowId) (b : BufferId) → codes "resume " ++ (flow_word f ++ (spaced (buffer_words b) ++ newline)) ≡ note_line names (note.Resume f b)
resume_spelled names f (buffer.Recv g) = grind (arith, common_steps)
resume_spelled names f (buffer.Stage g i) = grind (arith, common_steps)
resume_spelled names f (buffer.Send g) = grind (arith, common_steps)
resume_spelled names f (buffer.Write c) = grind (arith, common_steps)

-- they name no cluster
pub pauses_named : (names : List (List ℕ)) (flows : List FlowId) (b : BufferId) → notes_text [] (map (λ f. note.Pause f b) flows) ≡ notes_text names (map (λ f. note.Pause f b) flows)
pauses_named names [] b = refl
pauses_named names (f ∷ flows) b = ap (λ (v : List ℕ). note_line [] (note.Pause f b) ++ v) (pauses_named names flows b)

pub resumes_named : (names : List (List ℕ)) (flows : List FlowId) (b : BufferId) → notes_text [] (map (λ f. note.Resume f b) flows) ≡ notes_text names (map (λ f. note.Resume f b) flows)
resumes_named names [] b = refl
resumes_named names (f ∷ flows) b = ap (λ (v : List ℕ). note_line [] (note.Resume f b) ++ v) (resumes_named names flows b)

pub passage_told : (names : List (List ℕ)) (p q : Passage) (old new : List ℕ) (r : Result (Unit {0}) NoMemory) → p ≡ q → OnOk r (new ≡ old ++ notes_text [] (notes_of_passage q))
    → notes_text [] (notes_of_passage q) ≡ notes_text names (notes_of_passage q) → OnOk r (new ≡ old ++ notes_text names (notes_of_passage p))
passage_told names p q old new (Ok x) is e n = e ∙ ap (λ (v : List ℕ). old ++ v) (n ∙ ap (λ (v : Passage). notes_text names (notes_of_passage v)) (sym is))
passage_told names p q old new (Err x) is e n = tt
