-- What holds of each connection goes on to hold where one of them changed.
use Rattle.paged_map.specs.PagedMap.{PagedMap, WritesThrough, value_at}
use Rattle.proxy_config.specs.declared.config.LimitKeys.{LimitKeys}
use Rattle.std.proofs.Common.{refl, subst, sym}
use Rattle.std.specs.BTreeMap.{is_at}
use Rattle.std.specs.Ordering.{nat_cmp}
use Rattle.std.specs.Prelude.{Bool, IfSome, IsSome, Option, Some, cond, false, true, ℕ, ◌≡◌}
use Rattle.wire_state.specs.Sound.{AreKept, IsKept}
use Rattle.wire_state.specs.declared.conn.Conn.{Conn}

pub kept_changed : (limits : LimitKeys) (n : ℕ) (old new : PagedMap Conn) (v w : Conn) → value_at n old ≡ Some v → WritesThrough n old w new → AreKept limits old
    → (IsKept limits v.outlet → IsKept limits w.outlet) → AreKept limits new
kept_changed limits n old new v w found written kept keeps q =
    subst (λ (o : Option Conn). IfSome o (λ c. IsKept limits c.outlet)) (sym ((written.3 (subst (λ (o : Option Conn). IsSome o) (sym found) refl)).0 q)) (at (is_at (nat_cmp n) q))
  where
    here : IsKept limits v.outlet
    here = subst (λ (o : Option Conn). IfSome o (λ c. IsKept limits c.outlet)) found (kept n)

    at : (b : Bool) → IfSome (cond b (Some w) (value_at q old)) (λ c. IsKept limits c.outlet)
    at true = keeps here
    at false = kept q
