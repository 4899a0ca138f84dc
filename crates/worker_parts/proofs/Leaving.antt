-- Permits that are left.
use Rattle.shared_state.specs.PermitRule.{left}
use Rattle.shared_state.specs.declared.permit_rule.PermitView.{PermitView}
use Rattle.std.proofs.Common.{ap, arith, ◌∙◌}
use Rattle.std.specs.Prelude.{ℕ, ◌+◌, ◌-◌, ◌≡◌, ◌≤◌}
use Rattle.worker_parts.specs.Held.{with_fewer}

pub fewer_one : (before after : ℕ) (v : PermitView) → after + 1 ≡ before → with_fewer before after v ≡ left v
fewer_one before after v e = let same : v.held - (before - after) ≡ v.held - 1 = omega (arith, e) in ap (λ n. record v { held = n }) same

pub fewer_none : (before after : ℕ) (v : PermitView) → after ≡ before → with_fewer before after v ≡ v
fewer_none before after v e = let same : v.held - (before - after) ≡ v.held = omega (arith, e) in ap (λ n. record v { held = n }) same

-- one more is left
pub fewer_more : (first before after : ℕ) (u v : PermitView) → v ≡ with_fewer first before u → after + 1 ≡ before → before ≤ first → left v ≡ with_fewer first after u
fewer_more first before after u v is e most =
    let same : (u.held - (first - before)) - 1 ≡ u.held - (first - after) = omega (arith, e, most) in
    ap left is ∙ ap (λ n. record u { held = n }) same

pub still_given : (before after : ℕ) (u v : PermitView) → v ≡ left u → after + 1 ≡ before → before ≤ u.held → after ≤ v.held
still_given before after u v is e given = let same : v.held ≡ u.held - 1 = ap (λ (x : PermitView). x.held) is in omega (arith, same, e, given)
