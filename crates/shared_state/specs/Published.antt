-- The rule of the published list: what each reader has seen is a beginning of one list, and the entry that is shown is its last.
use Rattle.std.specs.Prelude.{◌≡◌, ℕ, List, length, replicate}
use mathlib.Core.Option.{some}
use lib.ListN.{get_elem?}
use Rattle.shared_state.specs.declared.entries.Entry.{Entry}
use Rattle.shared_state.specs.Entries.{StartsWith, last_or}

-- The entry is the last of these, which are the pressures of versions 1, 2 and so on. Where there are none it is version 0, whose pressures are all 0
abbrev pub IsLast : Entry → List (List ℕ) → Type 0
IsLast e all = (e.version ≡ length all) × (e.pressures ≡ last_or (replicate 16 0) all)

pub record IsOneList (e : Entry) (views : List (List (List ℕ))) : Type 0 where
  pub all : List (List ℕ)
  pub last : IsLast e all
  pub each : (seat : ℕ) (seen : List (List ℕ)) → get_elem? views seat ≡ some seen → StartsWith all seen

-- the entry is the last of what is seen afterwards, which begins with what was seen
abbrev pub Shows : List (List ℕ) → Entry → List (List ℕ) → Type 0
Shows v e w = IsLast e w × StartsWith w v
