-- What holds of each connection goes on to hold where one came.
use Rattle.paged_map.specs.PagedMap.{PagedMap, value_at}
use Rattle.proxy_config.specs.declared.config.LimitKeys.{LimitKeys}
use Rattle.std.proofs.Common.{subst, sym}
use Rattle.std.specs.BTreeMap.{is_at}
use Rattle.std.specs.Ordering.{nat_cmp}
use Rattle.std.specs.Prelude.{Bool, IfSome, Option, Some, cond, false, true, ℕ, ◌≡◌}
use Rattle.wire_state.specs.Sound.{AreKept, IsKept}
use Rattle.wire_state.specs.declared.conn.Conn.{Conn}

pub kept_more : (limits : LimitKeys) (n : ℕ) (old new : PagedMap Conn) (v : Conn) → ((q : ℕ) → value_at q new ≡ cond (is_at (nat_cmp n) q) (Some v) (value_at q old))
    → AreKept limits old → IsKept limits v.outlet → AreKept limits new
kept_more limits n old new v put kept here q =
    subst (λ (o : Option Conn). IfSome o (λ c. IsKept limits c.outlet)) (sym (put q)) (at (is_at (nat_cmp n) q))
  where
    at : (b : Bool) → IfSome (cond b (Some v) (value_at q old)) (λ c. IsKept limits c.outlet)
    at true = here
    at false = kept q
