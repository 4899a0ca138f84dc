-- How the armed timers stand in the lists, of which each kind has one.
use Rattle.std.specs.Prelude.{◌≡◌, ℕ, ◌+◌, ◌^◌, ◌<◌, ◌≤◌, nat_eq, List, [], ◌∷◌, ◌++◌, map, length}
use Rattle.std.specs.List.{AllByRecursion, IsDistinct}
use Rattle.link_lists.specs.Places.{same_ptr}
use Rattle.link_lists.specs.Lists.{NodeId}
use Rattle.scaled_timer.specs.declared.timers.Entry.{Entry}
use Rattle.scaled_timer.specs.Order.{in_order}
use Rattle.scaled_timer.specs.Due.{Armed}

-- an armed timer, with its age: the number of timers that were armed before it
abbrev pub Aged : Type 0
Aged = ℕ × Armed

-- the timer of a node of the k-th list
abbrev pub aged : ℕ → NodeId × Entry → Aged
aged k n = (n.1.age, record { timer = n.0; kind = k; id = n.1.id; at = n.1.at })

-- the timers of the lists, of which the first is the k-th
unfoldable pub all_from : ℕ → List (List (NodeId × Entry)) → List Aged
all_from k [] = []
all_from k (l ∷ ls) = map (aged k) l ++ all_from (k + 1) ls

-- the timers of the lists in the order of arming
abbrev pub armed_of : List (List (NodeId × Entry)) → List Armed
armed_of ls = map (λ a. a.1) (in_order (λ a. a.0) (all_from 0 ls))

-- each entry was armed after those before it
unfoldable pub Rises : List (NodeId × Entry) → Type 0
Rises [] = Unit {0}
Rises (n ∷ ns) = AllByRecursion (λ (m : NodeId × Entry). (n.1.at ≤ m.1.at) × (n.1.age < m.1.age)) ns × Rises ns

-- the lists are those of so many kinds, under this state, of timers that were armed until now, so many of so many that ever were
pub record Kept (kinds ppm now drawn held : ℕ) (ls : List (List (NodeId × Entry))) : Type 0 where
  pub same : length ls ≡ kinds
  pub few : kinds < 2 ^ 32
  pub state : ppm ≤ 1000000
  pub latest : now < 2 ^ 60
  pub ages : drawn < 2 ^ 63
  pub count : held ≡ length (all_from 0 ls)
  pub counted : held ≤ drawn
  pub rises : AllByRecursion Rises ls
  pub bounded : AllByRecursion (λ (a : Aged). (a.0 < drawn) × (a.1.at ≤ now)) (all_from 0 ls)
  pub apart : IsDistinct nat_eq (map (λ a. a.0) (all_from 0 ls))
  pub named : IsDistinct same_ptr (map (λ a. a.1.timer) (all_from 0 ls))
