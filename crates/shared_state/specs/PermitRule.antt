-- The rule of the permits' word, and what each kind of step makes of a seat's view.
use Rattle.std.specs.Prelude.{◌≡◌, ℕ, ◌+◌, ◌-◌, ◌≤◌, ◌<◌, List, [], ◌∷◌}
use mathlib.Core.Option.{some}
use lib.ListN.{get_elem?}
use Rattle.atomic_table.specs.Table.{State}
use Rattle.shared_state.specs.declared.permit_rule.PermitView.{PermitView}

-- the most permits of one word, and the most seats
abbrev pub most : ℕ
most = 1048576

-- f of each view, added up
abbrev pub total : (PermitView → ℕ) → List PermitView → ℕ
total f [] = 0
total f (v ∷ vs) = f v + total f vs

abbrev pub held_of : PermitView → ℕ
held_of v = v.held

abbrev pub owing_of : PermitView → ℕ
owing_of v = v.owing

-- the seat itself and those that it may still split off
abbrev pub room_of : PermitView → ℕ
room_of v = 1 + v.splits

-- every seat agrees on max, and owes at most 1
abbrev pub Fits : ℕ → PermitView → Type 0
Fits max v = (v.max ≡ max) × (v.owing ≤ 1)

-- The first word is all that is held and all that is owed, the second is max. At most max permits are held, and there are at most 2^20 seats beside the first
pub record IsAtMostMax (max : ℕ) (s : State (Unit {0}) PermitView) : Type 0 where
  pub words : s.words ≡ (total held_of s.views + total owing_of s.views) ∷ max ∷ []
  pub bound : total held_of s.views ≤ max
  pub small : max ≤ most
  pub seats : total room_of s.views ≤ most + 1
  pub each : (seat : ℕ) (v : PermitView) → get_elem? s.views seat ≡ some v → Fits max v

abbrev pub newcomer : ℕ → ℕ → PermitView
newcomer max splits = record { max = max; held = 0; owing = 0; find = 0; refusals = 0; splits = splits }

abbrev pub granted : PermitView → ℕ → PermitView
granted v found = record v { held = v.held + 1; find = found }

abbrev pub refused : PermitView → ℕ → PermitView
refused v found = record v { owing = 1; find = found; refusals = v.refusals + 1 }

-- one fetch that adds 1: granted exactly where it found less than max
abbrev pub Entered : PermitView → ℕ → PermitView → Type 0
Entered v found w = (found < v.max → w ≡ granted v found) × (v.max ≤ found → w ≡ refused v found)

abbrev pub gave_back : PermitView → PermitView
gave_back v = record v { owing = 0 }

abbrev pub left : PermitView → PermitView
left v = record v { held = v.held - 1 }

-- a seat was split off
abbrev pub dealt : PermitView → PermitView
dealt v = record v { splits = v.splits - 1 }
