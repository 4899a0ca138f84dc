-- What was read of a tape, and what of it is held.
use Rattle.flow_notes.specs.Line.{newline}
use Rattle.session_run.specs.Held.{held_of}
use Rattle.session_run.specs.Newlines.{has_newline}
use Rattle.session_run.specs.declared.status.Status.{Status}
use Rattle.std.specs.Io.KnownBytes.{Consumes, IsAtEnd}
use Rattle.std.specs.Prelude.{Err, List, Ok, Option, Result, false, length, min, ℕ, ◌++◌, ◌+◌, ◌-◌, ◌^◌, ◌∷◌, ◌≡◌}
use Rattle.tape_laws.specs.Dispatches.{turns}
use Rattle.tape_plot.specs.Kept.{PlotIs, until}
use Rattle.tape_plot.specs.Limits.{LimitsAre}
use Rattle.tape_plot.specs.Said.{IsSaid, IsTape, MayFollow, Said, part_of, part_with, said_text, tape_text, told}
use Rattle.tape_plot.specs.Standing.{LanesStand}
use Rattle.tape_plot.specs.declared.report.Outcome.{Outcome}
use Rattle.tape_plot.specs.declared.plot.Plot.{Plot}
use Rattle.tape_plot.specs.declared.tape.Part.{Part}
use Rattle.tape_plot.specs.declared.tape.Stop.{Stop}
use Rattle.tape_plot.specs.declared.tape.Tape.{Tape}
use Rattle.session_run.specs.declared.status.Status.TheVariants as status
use Rattle.tape_plot.specs.declared.tape.Stop.TheVariants as stop

-- what is kept of a tape goes on with a line
pub record PlotTells (says : Said) (before after : Plot) : Type 0 where
  pub goes : (first last : ℕ) (said : List Said) → PlotIs before first last (told said) → PlotIs after first last (told (says ∷ said))
  pub limits : (said : List Said) → LimitsAre before.limits said → LimitsAre after.limits (says ∷ said)

-- a line may follow a tape that was read so far, which was then read so far, and is taken up
pub record Follows (line : List ℕ) (before after : Plot) (old new : Part) : Type 0 where
  pub says : Said
  pub is : IsSaid says
  pub may : MayFollow says old
  pub text : line ++ newline ≡ said_text says
  pub part : new ≡ part_with says
  pub plot : PlotTells says before after

-- these lines were taken up of what was read, and the rest is held
pub record TapeIs (tape : Tape) (first last : ℕ) (said : List Said) (read : List ℕ) : Type 0 where
  pub tells : IsTape said
  pub part : tape.part ≡ part_of said
  pub reads : read ≡ tape_text said ++ held_of tape.lines
  pub count : tape.read ≡ length (tape_text said)
  pub number : tape.number ≡ length said
  pub plot : PlotIs tape.plot first last (told said)
  pub limits : LimitsAre tape.plot.limits said

-- the whole of a tape was read: what stands behind its lines is the front of a line that was cut
pub record IsWhole (tape : Tape) (first last : ℕ) (said : List Said) (rest : List ℕ) (left : Option (List ℕ)) : Type 0 where
  pub cut : has_newline rest ≡ false
  pub end : IsAtEnd left
  pub part : tape.part ≡ part_of said
  pub plot : PlotIs tape.plot first last (told said)
  pub limits : LimitsAre tape.plot.limits said

-- what stands behind the lines, by why reading stops
abbrev pub EndsBy : Stop → Tape → ℕ → ℕ → List Said → List ℕ → Option (List ℕ) → Type 0
EndsBy stop.End tape first last said rest left = IsWhole tape first last said rest left
EndsBy (stop.Refused why) tape first last said rest left = tape.number ≡ length said
EndsBy (stop.Failed how) tape first last said rest left = Unit {0}

-- reading stops behind these lines
pub record Leaves (why : Stop) (tape : Tape) (first last : ℕ) (read : List ℕ) (left : Option (List ℕ)) : Type 0 where
  pub said : List Said
  pub rest : List ℕ
  pub tells : IsTape said
  pub reads : read ≡ tape_text said ++ rest
  pub ends : EndsBy why tape first last said rest left

abbrev pub WentAs : Tape → ℕ → ℕ → List ℕ → Option (List ℕ) → Result (Unit {0}) Stop → Type 0
WentAs tape first last read left (Ok done) = (said : List Said) × TapeIs tape first last said read
WentAs tape first last read left (Err why) = Leaves why tape first last read left

-- one line that is held
pub record TakesLine (old new : Tape) (result : Result (Unit {0}) Stop) : Type 0 where
  pub goes : (first last : ℕ) (said : List Said) (read : List ℕ) (left : Option (List ℕ)) → TapeIs old first last said read → WentAs new first last read left result

-- a step, or a run of steps, that reads
pub record Goes (old new : Tape) (left_old left_new : Option (List ℕ)) (result : Result (Unit {0}) Stop) : Type 0 where
  pub got : List ℕ
  pub consumes : Consumes left_old left_new got
  pub goes : (first last : ℕ) (said : List Said) (read : List ℕ) → TapeIs old first last said read → WentAs new first last (read ++ got) left_new result

-- by the status: a line that is refused is the one behind them, whose number stands still at its type's end
abbrev pub EndsHow : Status → ℕ → List Said → List ℕ → Option (List ℕ) → Type 0
EndsHow status.Done line said rest left = (has_newline rest ≡ false) × IsAtEnd left
EndsHow status.Session line said rest left = line ≡ min (length said + 1) (2 ^ 64 - 1)
EndsHow other line said rest left = Unit {0}

-- The octets that were read are lines of a tape and a rest: the front of a line that was cut, where the source has ended, or what
-- begins with the line that is refused.
pub record Reads (left_old left_new : Option (List ℕ)) (outcome : Outcome) : Type 0 where
  pub read : List ℕ
  pub said : List Said
  pub rest : List ℕ
  pub consumes : Consumes left_old left_new read
  pub tells : IsTape said
  pub reads : read ≡ tape_text said ++ rest
  pub ends : EndsHow outcome.status outcome.line said rest left_new

-- The same of a tape that was read whole: its clock stands at the last dispatch that is drawn, each of its lanes stands for what the
-- tape tells up to that, and the limits are those of its summary.
pub record ReadsTape (left_old left_new : Option (List ℕ)) (first last : ℕ) (tape : Tape) : Type 0 where
  pub read : List ℕ
  pub said : List Said
  pub rest : List ℕ
  pub consumes : Consumes left_old left_new read
  pub tells : IsTape said
  pub reads : read ≡ tape_text said ++ rest
  pub cut : has_newline rest ≡ false
  pub end : IsAtEnd left_new
  pub part : tape.part ≡ part_of said
  pub starts : tape.plot.clock.first ≡ first
  pub ends : min tape.plot.clock.turn tape.plot.clock.last ≡ turns (until last (told said))
  pub lanes : LanesStand tape.plot.levels first (until last (told said))
  pub limits : LimitsAre tape.plot.limits said

abbrev pub ReadsAs : Option (List ℕ) → Option (List ℕ) → ℕ → ℕ → Result Tape Outcome → Type 0
ReadsAs left_old left_new first last (Ok tape) = ReadsTape left_old left_new first last tape
ReadsAs left_old left_new first last (Err outcome) = Reads left_old left_new outcome
