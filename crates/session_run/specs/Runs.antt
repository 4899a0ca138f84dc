-- What stands while a session is read, and when its lines have ended.
use Rattle.session_run.specs.Ending.{EndsAs, longest_line, most_octets}
use Rattle.session_run.specs.Held.{held_of}
use Rattle.session_run.specs.Kinds.{Kind}
use Rattle.session_run.specs.Newlines.{has_newline}
use Rattle.session_run.specs.Tells.{IsLast, Tells, TellsAs, TellsFront}
use Rattle.session_run.specs.declared.run.Run.{Run}
use Rattle.session_run.specs.declared.status.Status.{Status}
use Rattle.std.specs.Io.KnownBytes.{Appends, Consumes, IsAtEnd}
use Rattle.std.specs.Prelude.{Err, List, MatchResult, None, Option, Result, Some, [], false, length, suc, ℕ, ◌*◌, ◌++◌, ◌+◌, ◌-◌, ◌<◌, ◌≡◌, ◌≤◌}
use Rattle.session_run.specs.declared.status.Status.TheVariants as status

-- these octets were read and these written, and the player stands for the lines before those that are held
pub record RunIs {P : Type 0} (kind : Kind P) (run : Run P) (config read written : List ℕ) : Type 0 where
  pub consumed : List ℕ
  pub lines : ℕ
  pub told : List ℕ
  pub stands : kind.Stands run.player config consumed lines told
  pub reads : read ≡ consumed ++ held_of run.lines
  pub text : written ++ run.text ≡ told
  pub count : run.read ≡ length consumed
  pub number : run.number ≡ suc lines

-- the lines have ended with this status, and what isn't written of the text stands in the run
pub record Halts {P : Type 0} (kind : Kind P) (run : Run P) (how : Status) (config read written : List ℕ) (left : Option (List ℕ)) : Type 0 where
  pub player : P
  pub consumed : List ℕ
  pub lines : ℕ
  pub told : List ℕ
  pub rest : List ℕ
  pub stands : kind.Stands player config consumed lines told
  pub reads : read ≡ consumed ++ rest
  pub ends : EndsAs (kind.Refuses player) (kind.may_end player) how consumed rest left
  pub text : written ++ run.text ≡ told
  pub number : run.number ≡ suc lines
  pub stays : how ≡ status.Done → run.player ≡ player

abbrev pub HaltsAs : {P : Type 0} → Kind P → Run P → Status → (config read written : List ℕ) → Option (List ℕ) → Type 0
HaltsAs kind run status.WriteFault config read written left = TellsFront kind config read written left
HaltsAs kind run status config read written left = Halts kind run status config read written left

-- by how much the run may still go on: each step plays octets that are held, or reads some
abbrev pub to_go : {P : Type 0} → Run P → ℕ
to_go run = 2 * most_octets + 131072 - (2 * run.read + length (held_of run.lines))

-- whether n octets of a line, with so many newlines behind them, are too many
abbrev pub Judged : ℕ → ℕ → ℕ → Option Status → Type 0
Judged read n newlines None = (n ≤ longest_line) × (read + n + newlines ≤ most_octets)
Judged read n newlines (Some status.Session) = (longest_line < n) × (read + longest_line < most_octets)
Judged read n newlines (Some status.TooLong) = (most_octets < read + n + newlines) × (most_octets ≤ read + longest_line)
Judged read n newlines (Some s) = ⊥

-- a failure has its cause
abbrev pub CausedBy : Type 0 → Type 0 → Result (Unit {0}) Status → Type 0
CausedBy of_source of_sink (Err status.ReadFault) = of_source
CausedBy of_source of_sink (Err status.WriteFault) = of_sink
CausedBy of_source of_sink result = Unit {0}

-- one line that is held
pub record TakesLine {P : Type 0} (kind : Kind P) (old new : Run P) (result : Result (Unit {0}) Status) : Type 0 where
  pub goes : (config read written : List ℕ) (left : Option (List ℕ)) → RunIs kind old config read written
      → MatchResult result (λ _. RunIs kind new config read written) (λ status. HaltsAs kind new status config read written left)
  pub caused : CausedBy ⊥ ⊥ result

-- what a step writes
pub record Writes {P : Type 0} (kind : Kind P) (old new : Run P) (out_old out_new : Option (List ℕ)) (result : Result (Unit {0}) Status) : Type 0 where
  pub wrote : List ℕ
  pub appends : Appends out_old out_new wrote
  pub goes : (config read written : List ℕ) (left : Option (List ℕ)) → RunIs kind old config read written
      → MatchResult result (λ _. RunIs kind new config read (written ++ wrote)) (λ status. HaltsAs kind new status config read (written ++ wrote) left)

-- how the session ends where nothing more can be read
pub record AtEnd {P : Type 0} (kind : Kind P) (run : Run P) (status : Status) : Type 0 where
  pub goes : (config read written : List ℕ) (left : Option (List ℕ)) → RunIs kind run config read written → has_newline (held_of run.lines) ≡ false
      → run.read + length (held_of run.lines) ≤ most_octets → IsAtEnd left → HaltsAs kind run status config read written left
  pub ends : CausedBy ⊥ ⊥ (Err status)

-- what a step reads
pub record Refills {P : Type 0} (kind : Kind P) (old new : Run P) (left_old left_new : Option (List ℕ)) (result : Result (Unit {0}) Status) : Type 0 where
  pub got : List ℕ
  pub consumes : Consumes left_old left_new got
  pub goes : (config read written : List ℕ) → RunIs kind old config read written
      → MatchResult result (λ _. RunIs kind new config (read ++ got) written) (λ status. HaltsAs kind new status config (read ++ got) written left_new)

-- a step, or a run of steps, that reads and writes
pub record Steps {P : Type 0} (kind : Kind P) (old new : Run P) (left_old left_new out_old out_new : Option (List ℕ)) (result : Result (Unit {0}) Status) : Type 0 where
  pub got : List ℕ
  pub wrote : List ℕ
  pub consumes : Consumes left_old left_new got
  pub appends : Appends out_old out_new wrote
  pub goes : (config read written : List ℕ) → RunIs kind old config read written
      → MatchResult result (λ _. RunIs kind new config (read ++ got) (written ++ wrote)) (λ status. HaltsAs kind new status config (read ++ got) (written ++ wrote) left_new)

-- the last line or lines stand behind the text
pub record EndsText {P : Type 0} (kind : Kind P) (old : Run P) (how : Status) (new : List ℕ) : Type 0 where
  pub goes : (player : P) (lines : ℕ) → old.number ≡ suc lines → (how ≡ status.Done → old.player ≡ player) → (last : List ℕ) × (new ≡ old.text ++ last) × IsLast kind how player lines last

-- the text then tells how the session ended
pub record Adds {P : Type 0} (kind : Kind P) (old : Run P) (new : List ℕ) (how added : Status) : Type 0 where
  pub goes : (config read written : List ℕ) (left : Option (List ℕ)) → Halts kind old how config read written left → Tells kind added config read (written ++ new) left

-- and so does what is written
pub record Finishes {P : Type 0} (kind : Kind P) (old : Run P) (how : Status) (out_old out_new : Option (List ℕ)) (result : Status) : Type 0 where
  pub wrote : List ℕ
  pub appends : Appends out_old out_new wrote
  pub goes : (config read written : List ℕ) (left : Option (List ℕ)) → HaltsAs kind old how config read written left → TellsAs kind result config read (written ++ wrote) left

-- a run that begins, under a configuration
pub record Begins {P : Type 0} (kind : Kind P) (player : P) (config : List ℕ) : Type 0 where
  pub stands : kind.Stands player config [] 0 []
