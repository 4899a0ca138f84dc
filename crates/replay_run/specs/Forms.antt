-- The words of a replay.
use Rattle.replay_run.specs.declared.form.Form.{Form}
use Rattle.std.specs.Fmt.{decimal}
use Rattle.std.specs.Prelude.{List, [], codes, ℕ, ◌∷◌, ◌≡◌, ◌≤◌, ◌⊎◌}
use Rattle.replay_run.specs.declared.form.Form.TheVariants as form

-- the name of a configuration may be any word
abbrev pub HasWords : Form → List (List ℕ) → Type 0
HasWords form.Plain words = words ≡ codes "plain" ∷ []
HasWords form.Wire words = (name : List ℕ) × (words ≡ codes "wire" ∷ name ∷ [])
HasWords form.Shed words = (name : List ℕ) × (words ≡ codes "shed" ∷ name ∷ [])
HasWords form.Relay words = (name : List ℕ) × (words ≡ codes "relay" ∷ name ∷ [])
HasWords (form.Drill n) words = words ≡ codes "drill" ∷ decimal n ∷ []

-- a drill has 1 to 1,000 streams
abbrev pub IsForm : Form → Type 0
IsForm form.Plain = Unit {0}
IsForm form.Wire = Unit {0}
IsForm form.Shed = Unit {0}
IsForm form.Relay = Unit {0}
IsForm (form.Drill n) = (1 ≤ n) × (n ≤ 1000)

pub record SpellsForm (words : List (List ℕ)) (f : Form) : Type 0 where
  pub ranges : IsForm f
  pub is : HasWords f words

-- a configuration is read first
abbrev pub ReadsConfig : List (List ℕ) → Type 0
ReadsConfig words = SpellsForm words form.Wire ⊎ SpellsForm words form.Shed ⊎ SpellsForm words form.Relay

pub record HasNoForm (words : List (List ℕ)) : Type 0 where
  pub none : (f : Form) → SpellsForm words f → ⊥

-- the word of a drill's number
pub record IsDrillWord (word : List ℕ) (n : ℕ) : Type 0 where
  pub least : 1 ≤ n
  pub most : n ≤ 1000
  pub is : word ≡ decimal n

pub record IsNoDrill (word : List ℕ) : Type 0 where
  pub none : (n : ℕ) → IsDrillWord word n → ⊥
