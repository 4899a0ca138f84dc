-- The text of a tape with the lines of what was shed.
use Rattle.flow_notes.specs.declared.events.Event.{Event}
use Rattle.flow_notes.specs.declared.notes.Note.{Note}
use Rattle.shed_run.specs.ShedLines.{At, Placed, ShedLine, lines_at, shed_line}
use Rattle.shed_run.specs.ShedText.{notes_with, text_with}
use Rattle.std.proofs.Common.{ap, append-nil, append_assoc, arith, refl, sym, ◌∙◌}
use Rattle.std.proofs.lemmas.Bool.{eq-eqb, ne_eqb}
use Rattle.std.specs.List.{AllByRecursion}
use Rattle.std.specs.Prelude.{List, [], if◌then◌else◌, length, ℕ, ◌++◌, ◌+◌, ◌<◌, ◌∷◌, ◌≡◌, ◌≤◌}
use Rattle.tape_laws.specs.Dispatches.{events_back, turns}
use Rattle.tape_laws.specs.History.{History, Marked, NoMark, Noted, onto}
use Rattle.tape_laws.specs.Text.{note_line}
use Rattle.tape_summary.specs.NotesText.{notes_text}
use Rattle.wire_state.specs.Noting.{IsStep}
use Rattle.flow_notes.specs.declared.notes.Note.TheVariants as note

-- ---- dispatches are counted by their events

pub turns_are : (h : History NoMark) → turns h ≡ length (events_back h)
turns_are [] = refl
turns_are (Marked m ∷ past) = turns_are past
turns_are (Noted (note.Turn k e) ∷ past) = let i = turns_are past in omega (arith, i)
turns_are (Noted (note.Arrive f o) ∷ past) = turns_are past
turns_are (Noted (note.Move f p n) ∷ past) = turns_are past
turns_are (Noted (note.Frame c f n last) ∷ past) = turns_are past
turns_are (Noted (note.Out c n) ∷ past) = turns_are past
turns_are (Noted (note.Pause f b) ∷ past) = turns_are past
turns_are (Noted (note.Resume f b) ∷ past) = turns_are past
turns_are (Noted (note.Credit c s n) ∷ past) = turns_are past
turns_are (Noted (note.Head c s o) ∷ past) = turns_are past
turns_are (Noted (note.Answer c o) ∷ past) = turns_are past
turns_are (Noted (note.Waste c s n) ∷ past) = turns_are past
turns_are (Noted (note.Start x c s d) ∷ past) = turns_are past
turns_are (Noted (note.Doom x why) ∷ past) = turns_are past
turns_are (Noted (note.Gone x) ∷ past) = turns_are past
turns_are (Noted (note.Close c code why) ∷ past) = turns_are past
turns_are (Noted (note.Fire kind id) ∷ past) = turns_are past

module _ (names : List (List ℕ)) where
  -- ---- one dispatch more

  step_text : (lines : List Placed) (n : Note) (h : History NoMark) → IsStep n → notes_with names lines (Noted n ∷ h) ≡ notes_with names lines h ++ note_line names n
  step_text lines (note.Turn k e) h i = absurd i
  step_text lines (note.Arrive f o) h i = refl
  step_text lines (note.Move f p n) h i = refl
  step_text lines (note.Frame c f n last) h i = refl
  step_text lines (note.Out c n) h i = refl
  step_text lines (note.Pause f b) h i = refl
  step_text lines (note.Resume f b) h i = refl
  step_text lines (note.Credit c s n) h i = refl
  step_text lines (note.Head c s o) h i = refl
  step_text lines (note.Answer c o) h i = refl
  step_text lines (note.Waste c s n) h i = refl
  step_text lines (note.Start x c s d) h i = refl
  step_text lines (note.Doom x why) h i = refl
  step_text lines (note.Gone x) h i = refl
  step_text lines (note.Close c code why) h i = refl
  step_text lines (note.Fire kind id) h i = refl

  steps_text : (lines : List Placed) (ns : List Note) (h : History NoMark) → AllByRecursion IsStep ns → notes_with names lines (onto ns h) ≡ notes_with names lines h ++ notes_text names ns
  steps_text lines [] h a = sym (append-nil (notes_with names lines h))
  steps_text lines (n ∷ ns) h a =
      steps_text lines ns (Noted n ∷ h) a.1 ∙ ap (λ (v : List ℕ). v ++ notes_text names ns) (step_text lines n h a.0) ∙ append_assoc (notes_with names lines h) (note_line names n) (notes_text names ns)

  -- no line stands behind the dispatch yet
  pub dispatch_text : (lines : List Placed) (k : ℕ) (e : Event) (added : List Note) (h : History NoMark) → AllByRecursion IsStep added → turns (onto (note.Turn k e ∷ added) h) ≡ turns h + 1 → lines_at (turns h + 1) lines ≡ []
      → text_with names lines (onto (note.Turn k e ∷ added) h) ≡ text_with names lines h ++ notes_text names (note.Turn k e ∷ added)
  dispatch_text lines k e added h steps turned none =
      ap (λ (v : List ℕ). notes_with names lines (onto (note.Turn k e ∷ added) h) ++ v) (ap (λ m. lines_at m lines) turned ∙ none)
      ∙ append-nil (notes_with names lines (onto (note.Turn k e ∷ added) h))
      ∙ steps_text lines added (Noted (note.Turn k e) ∷ h) steps
      ∙ append_assoc (text_with names lines h) (note_line names (note.Turn k e)) (notes_text names added)

  -- ---- one line more

  elsewhere : (k n : ℕ) (l : ShedLine) (lines : List Placed) → n < k → lines_at n (At k l ∷ lines) ≡ lines_at n lines
  elsewhere k n l lines less = ap (λ b. if b then lines_at n lines ++ shed_line l else lines_at n lines) (ne_eqb k n (λ same. omega (arith, same, less)))

  here : (k : ℕ) (l : ShedLine) (lines : List Placed) → lines_at k (At k l ∷ lines) ≡ lines_at k lines ++ shed_line l
  here k l lines = ap (λ b. if b then lines_at k lines ++ shed_line l else lines_at k lines) (eq-eqb k k refl)

  before_line : (k : ℕ) (l : ShedLine) (lines : List Placed) (h : History NoMark) → turns h ≤ k → notes_with names (At k l ∷ lines) h ≡ notes_with names lines h
  before_line k l lines [] most = refl
  before_line k l lines (Marked m ∷ past) most = before_line k l lines past most
  before_line k l lines (Noted (note.Turn j e) ∷ past) most =
      ap (λ (v : List ℕ). (v ++ lines_at (turns past) (At k l ∷ lines)) ++ note_line names (note.Turn j e)) (before_line k l lines past (omega (arith, most)))
      ∙ ap (λ (v : List ℕ). (notes_with names lines past ++ v) ++ note_line names (note.Turn j e)) (elsewhere k (turns past) l lines (omega (arith, most)))
  before_line k l lines (Noted (note.Arrive f o) ∷ past) most = ap (λ (v : List ℕ). v ++ note_line names (note.Arrive f o)) (before_line k l lines past most)
  before_line k l lines (Noted (note.Move f p n) ∷ past) most = ap (λ (v : List ℕ). v ++ note_line names (note.Move f p n)) (before_line k l lines past most)
  before_line k l lines (Noted (note.Frame c f n last) ∷ past) most = ap (λ (v : List ℕ). v ++ note_line names (note.Frame c f n last)) (before_line k l lines past most)
  before_line k l lines (Noted (note.Out c n) ∷ past) most = ap (λ (v : List ℕ). v ++ note_line names (note.Out c n)) (before_line k l lines past most)
  before_line k l lines (Noted (note.Pause f b) ∷ past) most = ap (λ (v : List ℕ). v ++ note_line names (note.Pause f b)) (before_line k l lines past most)
  before_line k l lines (Noted (note.Resume f b) ∷ past) most = ap (λ (v : List ℕ). v ++ note_line names (note.Resume f b)) (before_line k l lines past most)
  before_line k l lines (Noted (note.Credit c s n) ∷ past) most = ap (λ (v : List ℕ). v ++ note_line names (note.Credit c s n)) (before_line k l lines past most)
  before_line k l lines (Noted (note.Head c s o) ∷ past) most = ap (λ (v : List ℕ). v ++ note_line names (note.Head c s o)) (before_line k l lines past most)
  before_line k l lines (Noted (note.Answer c o) ∷ past) most = ap (λ (v : List ℕ). v ++ note_line names (note.Answer c o)) (before_line k l lines past most)
  before_line k l lines (Noted (note.Waste c s n) ∷ past) most = ap (λ (v : List ℕ). v ++ note_line names (note.Waste c s n)) (before_line k l lines past most)
  before_line k l lines (Noted (note.Start x c s d) ∷ past) most = ap (λ (v : List ℕ). v ++ note_line names (note.Start x c s d)) (before_line k l lines past most)
  before_line k l lines (Noted (note.Doom x why) ∷ past) most = ap (λ (v : List ℕ). v ++ note_line names (note.Doom x why)) (before_line k l lines past most)
  before_line k l lines (Noted (note.Gone x) ∷ past) most = ap (λ (v : List ℕ). v ++ note_line names (note.Gone x)) (before_line k l lines past most)
  before_line k l lines (Noted (note.Close c code why) ∷ past) most = ap (λ (v : List ℕ). v ++ note_line names (note.Close c code why)) (before_line k l lines past most)
  before_line k l lines (Noted (note.Fire kind id) ∷ past) most = ap (λ (v : List ℕ). v ++ note_line names (note.Fire kind id)) (before_line k l lines past most)

  pub line_text : (l : ShedLine) (lines : List Placed) (h : History NoMark) → text_with names (At (turns h) l ∷ lines) h ≡ text_with names lines h ++ shed_line l
  line_text l lines h =
      ap (λ (v : List ℕ). v ++ lines_at (turns h) (At (turns h) l ∷ lines)) (before_line (turns h) l lines h (omega arith))
      ∙ ap (λ (v : List ℕ). notes_with names lines h ++ v) (here (turns h) l lines)
      ∙ sym (append_assoc (notes_with names lines h) (lines_at (turns h) lines) (shed_line l))
