-- Exchanges of which none holds octets in its receive buffer.
use Rattle.std.specs.BTreeSet.{contains}
use Rattle.std.specs.Ordering.{nat_cmp}
use Rattle.std.specs.Prelude.{None, Option, Some, false, true, ℕ, ◌<◌, ◌≡◌, ◌≤◌}
use Rattle.plain_core.specs.declared.flows.Flows.{Flows}
use Rattle.plain_core.specs.declared.gaps.Gap.{Gap}

-- none in the gap holds octets
pub record IsGap (flows : Flows) (gap : Gap) : Type 0 where
  pub none : (x : ℕ) → gap.from ≤ x → x < gap.to → contains nat_cmp flows.holding x ≡ false

-- the least from a number on that holds octets
pub record IsLeastHeld (flows : Flows) (from x : ℕ) : Type 0 where
  pub held : contains nat_cmp flows.holding x ≡ true
  pub after : from ≤ x
  pub least : (y : ℕ) → contains nat_cmp flows.holding y ≡ true → from ≤ y → x ≤ y

abbrev pub IsFirstHeld : Flows → ℕ → Option ℕ → Type 0
IsFirstHeld flows from (Some x) = IsLeastHeld flows from x
IsFirstHeld flows from None = (y : ℕ) → contains nat_cmp flows.holding y ≡ true → y < from
