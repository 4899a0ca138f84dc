-- The picture of a tape that was read, and where it goes.
use Rattle.session_run.specs.Ends.{AppendsFront}
use Rattle.session_run.specs.Newlines.{has_newline}
use Rattle.session_run.specs.declared.status.Status.{Status}
use Rattle.std.specs.Io.KnownBytes.{Appends, Consumes, IsAtEnd}
use Rattle.std.specs.Prelude.{Err, List, None, Ok, Option, Result, false, ℕ, ◌++◌, ◌≡◌}
use Rattle.tape_plot.specs.Kept.{until}
use Rattle.tape_plot.specs.Reads.{Reads}
use Rattle.tape_plot.specs.Said.{IsTape, Said, tape_text, told}
use Rattle.tape_plot.specs.Shown.{ShowsBuffers}
use Rattle.tape_plot.specs.declared.choice.Choice.{Choice}
use Rattle.tape_plot.specs.declared.report.Outcome.{Outcome}
use Rattle.session_run.specs.declared.status.Status.TheVariants as status

-- A tape was read whole, and a text shows the buffers that are chosen: what each holds up to the last dispatch that is drawn.
pub record Pictures (left_old left_new : Option (List ℕ)) (choice : Choice) (text : List ℕ) : Type 0 where
  pub read : List ℕ
  pub said : List Said
  pub rest : List ℕ
  pub consumes : Consumes left_old left_new read
  pub tells : IsTape said
  pub reads : read ≡ tape_text said ++ rest
  pub cut : has_newline rest ≡ false
  pub end : IsAtEnd left_new
  pub shows : ShowsBuffers text choice.lanes choice.first (until choice.last (told said)) said

abbrev pub PicturesAs : Option (List ℕ) → Option (List ℕ) → Choice → Result (List ℕ) Outcome → Type 0
PicturesAs left_old left_new choice (Ok text) = Pictures left_old left_new choice text
PicturesAs left_old left_new choice (Err outcome) = Reads left_old left_new outcome

-- the text is written whole, or a front of it where the sink failed, which its count tells
abbrev pub WritesAs : Type 0 → Option (List ℕ) → Option (List ℕ) → List ℕ → Status → Type 0
WritesAs of_sink old new text status.Done = Appends old new text
WritesAs of_sink old new text status.WriteFault = of_sink × AppendsFront old new text
WritesAs of_sink old new text other = ⊥

pub record WritesText (of_sink : Type 0) (old new : Option (List ℕ)) (text : List ℕ) (outcome : Outcome) : Type 0 where
  pub whole : outcome.refusal ≡ None
  pub writes : WritesAs of_sink old new text outcome.status

-- where the picture is whole, it is that of the tape that was read
abbrev pub DrawsAs : Option (List ℕ) → Option (List ℕ) → Option (List ℕ) → Option (List ℕ) → Choice → Status → Type 0
DrawsAs left_old left_new old new choice status.Done = (text : List ℕ) × Appends old new text × Pictures left_old left_new choice text
DrawsAs left_old left_new old new choice other = Unit {0}
