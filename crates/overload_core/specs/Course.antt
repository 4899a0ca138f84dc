-- The classes over the course of the dispatches, and which exchange is reset next.
use Rattle.std.specs.Prelude.{◌≡◌, ℕ, zero, suc, ◌+◌, ◌^◌, ◌<◌, ◌⊎◌, ◌==◌, Bool, true, false, cond, nat_le, Option, None, Some, List, [], ◌∷◌, length}
use Rattle.std.specs.List.{list_any, AllPairs}
use Rattle.overload_core.specs.Accounts.{cleared, in_class}

-- what each exchange holds at one moment, in octets; one that is not live holds nothing
abbrev pub Holding : Type 0
Holding = ℕ → ℕ

-- the greatest class, of those up to k, that so many octets reach: the k-th starts at 2^(start + k - 1)
unfoldable pub reached : ℕ → ℕ → ℕ → ℕ
reached zero start bytes = 0
reached (suc k) start bytes = cond (nat_le (2 ^ (start + k)) bytes) (suc k) (reached k start bytes)

-- the class of so many octets
abbrev pub class_number : ℕ → ℕ → ℕ
class_number start bytes = reached 8 start bytes

-- a class has those exchanges that are in it, in this order
pub record IsClass (place : ℕ → ℕ) (Before : ℕ → ℕ → ℕ → Type 0) (class : ℕ) (exchanges : List ℕ) : Type 0 where
  pub those : (e : ℕ) → list_any (λ x. x == e) exchanges ≡ (place e == class)
  pub order : AllPairs (Before class) exchanges

-- each of the lists is a class, and the first is class k
abbrev pub AreClasses : (ℕ → ℕ) → (ℕ → ℕ → ℕ → Type 0) → ℕ → List (List ℕ) → Type 0
AreClasses place Before k [] = Unit {0}
AreClasses place Before k (l ∷ ls) = IsClass place Before k l × AreClasses place Before (k + 1) ls

-- The ends of dispatches, of which the newest stands first, are seen as what each exchange held then.

-- the octets of an exchange at the newest end
abbrev pub newest : List Holding → ℕ → ℕ
newest [] e = 0
newest (held ∷ before) e = held e

-- A dispatch ends: these exchanges hold so much, and these live on. Any other than the touched ones, which rise, holds what
-- it held where it is live, and one that is gone doesn't come back.
pub record Ends (ends : List Holding) (live : ℕ → Bool) (touched : List ℕ) (held : Holding) (alive : ℕ → Bool) : Type 0 where
  pub rising : AllPairs (λ x y. x < y) touched
  pub others : (e : ℕ) → list_any (λ x. x == e) touched ≡ false → held e ≡ cond (live e) (newest ends e) 0
  pub gone : (e : ℕ) → live e ≡ false → 0 < newest ends e → held e ≡ 0
  pub holders : (e : ℕ) → 0 < held e → alive e ≡ true

module _ (start : ℕ) where
  -- the class of an exchange that was taken at the newest end
  abbrev pub class_at : List Holding → ℕ → ℕ
  class_at ends e = class_number start (newest ends e)

  -- for how many ends on end, the newest counted first, an exchange has been in the class
  unfoldable pub stay : List Holding → ℕ → ℕ → ℕ
  stay [] class e = 0
  stay (held ∷ before) class e = cond (class_number start (held e) == class) (suc (stay before class e)) 0

  -- of two exchanges in the class the first came into it earlier; of two that came at the same end it has the lesser number
  abbrev pub Precedes : List Holding → ℕ → ℕ → ℕ → Type 0
  Precedes ends class e f = (stay ends class f < stay ends class e) ⊎ ((stay ends class f ≡ stay ends class e) × (e < f))

  -- the exchange is reset before the other: it is in a greater class, or precedes it in its class
  abbrev pub GoesBefore : List Holding → ℕ → ℕ → Type 0
  GoesBefore ends e f = (class_at ends f < class_at ends e) ⊎ ((class_at ends f ≡ class_at ends e) × Precedes ends (class_at ends e) e f)

  -- the class of an exchange now: one that is gone since the newest end is in none
  abbrev pub place : List Holding → (ℕ → Bool) → ℕ → ℕ
  place ends live e = cond (live e) (class_at ends e) 0

  -- the eight classes follow the course: each has the live exchanges of its class, in the order in which they came into it
  pub record Follow (ends : List Holding) (live : ℕ → Bool) (classes : List (List ℕ)) : Type 0 where
    pub eight : length classes ≡ 8
    pub each : AreClasses (place ends live) (Precedes ends) 1 classes

  -- the classes once each of these exchanges is set, one after the other
  unfoldable pub all_set : Holding → List ℕ → List (List ℕ) → List (List ℕ)
  all_set held [] classes = classes
  all_set held (e ∷ es) classes = all_set held es (in_class (class_number start (held e)) e classes)

  -- an exchange that the state clears: it is live, and its class is one of the greatest
  pub record IsCleared (ends : List Holding) (live : ℕ → Bool) (state e : ℕ) : Type 0 where
    pub stands : live e ≡ true
    pub great : 8 < class_at ends e + cleared state

  -- the exchange that is reset next: none where the state clears none, and else the first of those that it clears
  abbrev pub IsResetNext : List Holding → (ℕ → Bool) → ℕ → Option ℕ → Type 0
  IsResetNext ends live state None = (f : ℕ) → IsCleared ends live state f → ⊥
  IsResetNext ends live state (Some e) = IsCleared ends live state e × ((f : ℕ) → IsCleared ends live state f → (f ≡ e) ⊎ GoesBefore ends e f)
