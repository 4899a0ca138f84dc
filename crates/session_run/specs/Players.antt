-- What a player does.
use Rattle.flow_notes.specs.Line.{newline}
use Rattle.io_ports.specs.declared.octets.NoMemory.{NoMemory}
use Rattle.session_run.specs.Kinds.{Kind}
use Rattle.session_run.specs.declared.player.Went.{Went}
use Rattle.std.specs.Prelude.{Err, List, Ok, Result, suc, ℕ, ◌++◌, ◌≡◌}
use Rattle.session_run.specs.declared.player.Went.TheVariants as went

-- the line was played, and what came of it stands behind the text
pub record GoesOn {P : Type 0} (kind : Kind P) (new : P) (line config lines : List ℕ) (count : ℕ) (told text_old text_new : List ℕ) : Type 0 where
  pub added : List ℕ
  pub text : text_new ≡ text_old ++ added
  pub stands : kind.Stands new config (lines ++ (line ++ newline)) (suc count) (told ++ added)

-- by the answer; the text of a line that doesn't go on is as it was
abbrev pub PlayedAs : {P : Type 0} → Kind P → (old new : P) → (line config lines : List ℕ) → (count : ℕ) → (told text_old text_new : List ℕ) → Result Went NoMemory → Type 0
PlayedAs kind old new line config lines count told text_old text_new (Ok went.On) = GoesOn kind new line config lines count told text_old text_new
PlayedAs kind old new line config lines count told text_old text_new (Ok went.Refused) = kind.Refuses old line × (text_new ≡ text_old)
PlayedAs kind old new line config lines count told text_old text_new (Err e) = text_new ≡ text_old

pub record PlaysLine {P : Type 0} (kind : Kind P) (old : P) (line text_old : List ℕ) (new : P) (text_new : List ℕ) (result : Result Went NoMemory) : Type 0 where
  pub goes : (config lines : List ℕ) (count : ℕ) (told : List ℕ) → kind.Stands old config lines count told → PlayedAs kind old new line config lines count told text_old text_new result

-- a player with lines before it
pub record IsPlaying {P : Type 0} (kind : Kind P) (player : P) : Type 0 where
  pub config : List ℕ
  pub lines : List ℕ
  pub count : ℕ
  pub told : List ℕ
  pub stands : kind.Stands player config lines count told

-- the summary stands behind the text
pub record AddsSummary {P : Type 0} (kind : Kind P) (player : P) (text_old text_new : List ℕ) : Type 0 where
  pub added : List ℕ
  pub text : text_new ≡ text_old ++ added
  pub sums : kind.Sums player added
