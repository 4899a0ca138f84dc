-- What a run of a session tells.
use Rattle.flow_notes.specs.Line.{line_of, newline}
use Rattle.session_run.specs.Ending.{EndsAs}
use Rattle.session_run.specs.Kinds.{Kind}
use Rattle.session_run.specs.declared.status.Status.{Status}
use Rattle.std.specs.Fmt.{decimal}
use Rattle.std.specs.Io.KnownBytes.{Appends, Consumes}
use Rattle.std.specs.Prelude.{List, Option, [], codes, suc, ℕ, ◌++◌, ◌∷◌, ◌≡◌}
use Rattle.session_run.specs.declared.status.Status.TheVariants as status

abbrev pub numbered_line : List (List ℕ) → ℕ → List ℕ
numbered_line words k = line_of (words ++ decimal k ∷ []) ++ newline

-- the last line or lines, by the status, behind so many lines
abbrev pub IsLast : {P : Type 0} → Kind P → Status → P → ℕ → List ℕ → Type 0
IsLast kind status.Done player count last = kind.Sums player last
IsLast kind status.Session player count last = last ≡ numbered_line (codes "refused" ∷ codes "line" ∷ []) (suc count)
IsLast kind status.TooLong player count last = last ≡ codes "refused length session" ++ newline
IsLast kind status player count last = last ≡ []

-- the text is what came of the lines before the first one that was refused or not read, with the last line or lines of
-- the status
pub record Tells {P : Type 0} (kind : Kind P) (status : Status) (config read told : List ℕ) (left : Option (List ℕ)) : Type 0 where
  pub player : P
  pub lines : List ℕ
  pub count : ℕ
  pub text : List ℕ
  pub rest : List ℕ
  pub last : List ℕ
  pub stands : kind.Stands player config lines count text
  pub reads : read ≡ lines ++ rest
  pub ends : EndsAs (kind.Refuses player) (kind.may_end player) status lines rest left
  pub is_last : IsLast kind status player count last
  pub is : told ≡ text ++ last

-- where the sink failed, what was written is a front of such a text
pub record TellsFront {P : Type 0} (kind : Kind P) (config read text : List ℕ) (left : Option (List ℕ)) : Type 0 where
  pub status : Status
  pub whole : List ℕ
  pub rest : List ℕ
  pub front : whole ≡ text ++ rest
  pub tells : Tells kind status config read whole left

abbrev pub TellsAs : {P : Type 0} → Kind P → Status → (config read text : List ℕ) → Option (List ℕ) → Type 0
TellsAs kind status.WriteFault config read text left = TellsFront kind config read text left
TellsAs kind status config read text left = Tells kind status config read text left

-- what was read of the source and written to the sink, under this configuration
pub record Replayed {P : Type 0} (kind : Kind P) (config : List ℕ) (left_old left_new out_old out_new : Option (List ℕ)) (status : Status) : Type 0 where
  pub read : List ℕ
  pub text : List ℕ
  pub consumes : Consumes left_old left_new read
  pub appends : Appends out_old out_new text
  pub tells : TellsAs kind status config read text left_new
