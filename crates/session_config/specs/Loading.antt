-- What reading a configuration answers, by the octets that its source gave.
use Rattle.io_ports.specs.Faults.{Rose}
use Rattle.config_tables.specs.Reading.{config_of}
use Rattle.proxy_config.specs.declared.config.Config.{Config}
use Rattle.session_config.specs.declared.load.ConfigEnd.{ConfigEnd}
use Rattle.std.specs.Io.KnownBytes.{Consumes, IsAtEnd}
use Rattle.std.specs.Prelude.{Err, List, Ok, Option, Result, [], length, ℕ, ◌++◌, ◌<◌, ◌≡◌, ◌≤◌}
use Rattle.session_config.specs.declared.load.ConfigEnd.TheVariants as end

-- a configuration has at most so many octets
abbrev pub longest_config : ℕ
longest_config = 1048576

-- the source was read to its end, and gave no more than a configuration may have
abbrev pub IsWhole : (text : List ℕ) → (left : Option (List ℕ)) → Type 0
IsWhole text left = IsAtEnd left × (length text ≤ longest_config)

-- why reading stopped, by what was read
abbrev pub StopsAs : ConfigEnd → (text : List ℕ) → (left : Option (List ℕ)) → Type 0
StopsAs (end.Refused fault) text left = IsWhole text left × (config_of text ≡ Err fault)
StopsAs end.TooLong text left = longest_config < length text
StopsAs end.ReadFault text left = length text ≤ longest_config
StopsAs end.Memory text left = Unit {0}

abbrev pub LoadsAs : Result Config ConfigEnd → (text : List ℕ) → (left : Option (List ℕ)) → Type 0
LoadsAs (Ok config) text left = IsWhole text left × (config_of text ≡ Ok config)
LoadsAs (Err stop) text left = StopsAs stop text left

-- the octets that the source gave, and what came of them
pub record Loads (left_old left_new : Option (List ℕ)) (result : Result Config ConfigEnd) : Type 0 where
  pub text : List ℕ
  pub consumes : Consumes left_old left_new text
  pub is : LoadsAs result text left_new

-- the octets alone
abbrev pub ReadsAs : Result (List ℕ) ConfigEnd → (text : List ℕ) → (left : Option (List ℕ)) → Type 0
ReadsAs (Ok all) text left = IsWhole text left × (all ≡ text)
ReadsAs (Err (end.Refused fault)) text left = ⊥
ReadsAs (Err stop) text left = StopsAs stop text left

pub record ReadsWhole (left_old left_new : Option (List ℕ)) (result : Result (List ℕ) ConfigEnd) : Type 0 where
  pub text : List ℕ
  pub consumes : Consumes left_old left_new text
  pub is : ReadsAs result text left_new

-- a piece stands behind the text, and the source is at its end where there was none; a piece that was taken without room
-- for it is lost
abbrev pub PieceAs : Result ℕ ConfigEnd → (old new got : List ℕ) → (left : Option (List ℕ)) → Type 0
PieceAs (Ok n) old new got left = (new ≡ old ++ got) × (length got ≡ n) × (n ≡ 0 → IsAtEnd left)
PieceAs (Err end.ReadFault) old new got left = got ≡ []
PieceAs (Err end.Memory) old new got left = Unit {0}
PieceAs (Err stop) old new got left = ⊥

pub record ReadsPiece (left_old left_new : Option (List ℕ)) (old new : List ℕ) (result : Result ℕ ConfigEnd) : Type 0 where
  pub got : List ℕ
  pub consumes : Consumes left_old left_new got
  pub is : PieceAs result old new got left_new

-- a fault of the source has its cause
abbrev pub CausesFault : {T : Type 0} → ℕ → ℕ → Result T ConfigEnd → Type 0
CausesFault old new (Err end.ReadFault) = Rose old new
CausesFault old new result = Unit {0}
