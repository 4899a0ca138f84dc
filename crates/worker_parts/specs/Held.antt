-- The permits that a seat was given for connections.
use Rattle.number_set.specs.NumberSet.{marked}
use Rattle.shared_state.specs.PermitRule.{granted}
use Rattle.shared_state.specs.PermitSeats.{refused_and_paid}
use Rattle.shared_state.specs.declared.permit_rule.PermitView.{PermitView}
use Rattle.shared_state.specs.declared.permits.Permits.{Permits}
use Rattle.std.specs.Prelude.{Bool, List, false, true, ℕ, ◌-◌, ◌<◌, ◌≡◌, ◌≤◌}

-- the seat asked for one for the connection: it is kept where it was given
abbrev pub Asked : ℕ → Permits → PermitView → List ℕ → Bool → PermitView → List ℕ → Type 0
Asked c permits old before true new after = ((new.find < permits.max) × (new ≡ granted old new.find)) × (after ≡ marked c true before)
Asked c permits old before false new after = ((permits.max ≤ new.find) × (new ≡ refused_and_paid old new.find)) × (after ≡ before)

-- so many permits were kept, and so many are
abbrev pub with_fewer : (before after : ℕ) → PermitView → PermitView
with_fewer before after v = record v { held = v.held - (before - after) }
