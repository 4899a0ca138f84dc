-- What is said of a player.
use Rattle.std.specs.Prelude.{Bool, List, ℕ}

-- a kind of player
pub record Kind (P : Type 0) : Type 1 where
  -- it stands for these octets of a configuration, these of the lines so far and how many they are, and this text of what came of them
  pub Stands : P → (config lines : List ℕ) → (count : ℕ) → (text : List ℕ) → Type 0
  -- the line isn't one that may come next
  pub Refuses : P → List ℕ → Type 0
  -- the session may end behind the lines so far
  pub may_end : P → Bool
  -- the text is the summary
  pub Sums : P → List ℕ → Type 0

abbrev pub kind_of : {P : Type 0} → (P → List ℕ → List ℕ → ℕ → List ℕ → Type 0) → (P → List ℕ → Type 0) → (P → Bool) → (P → List ℕ → Type 0) → Kind P
kind_of stands refuses ends sums = record { Stands = stands; Refuses = refuses; may_end = ends; Sums = sums }
