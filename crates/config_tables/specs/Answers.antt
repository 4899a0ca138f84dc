-- What a step of the reader answers.
use Rattle.std.specs.Prelude.{◌≡◌, ◌≢◌, List, [], ◌∷◌, Option, Some, None, Result, Ok, Err}
use Rattle.toml.specs.Data.{Members, no_members}
use Rattle.toml.specs.View.{table_view}
use Rattle.toml.specs.declared.value.Value.{Value}
use denote.Ref.{Bor}
use Rattle.std.specs.BTreeMap.{BTreeMap}
use Rattle.std.specs.Prelude.{String}
use Rattle.std.specs.declared.alloc.Global.{Global}
use Rattle.config_tables.specs.declared.fault.ConfigFault.{ConfigFault}
use Rattle.config_tables.specs.declared.fault.ConfigFault.TheVariants.{NoMemory}

abbrev pub first : {X : Type 0} → List X → Option X
first [] = None
first (x ∷ xs) = Some x

-- Ok exactly where there are none of these faults, and otherwise the first of them; running out of memory aside
abbrev pub Checks : {T : Type 0} → List ConfigFault → Result T ConfigFault → Type 0
Checks faults (Ok x) = faults ≡ []
Checks faults (Err fault) = fault ≢ NoMemory → first faults ≡ Some fault

-- the members of a table that may be absent
abbrev pub members_of : Option (Bor (BTreeMap (String Global) Value)) → Members
members_of None = no_members
members_of (Some table) = table_view table.now
