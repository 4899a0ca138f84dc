-- Which exchanges are linked and live, where one is doomed.
use Rattle.std.proofs.Common.{ap, refl, sym, ◌∙◌}
use Rattle.std.specs.Prelude.{Bool, None, Option, false, if◌then◌else◌, is_some, nat_eq, not, true, ℕ, ◌&&◌, ◌==◌, ◌≡◌}
use Rattle.wire_links.proofs.Under.{under_remove}
use Rattle.wire_links.specs.Links.{IsSound, Links, doomed, ends_of}
use Rattle.wire_links.specs.declared.links.exchanges.Ends.{Ends}

without : (b : Bool) (o : Option Ends) → is_some (if b then None else o) ≡ (not b && is_some o)
without true o = refl
without false o = refl

pub live_doomed : (x : ℕ) (links : Links) (live left : ℕ → Bool) → IsSound links → ((y : ℕ) → is_some (ends_of y links) ≡ live y)
    → ((y : ℕ) → left y ≡ (not (x == y) && live y)) → (y : ℕ) → is_some (ends_of y (doomed x links)) ≡ left y
live_doomed x links live left s same less y =
    ap is_some (under_remove links.exchanges x y s.exchanges) ∙ (without (nat_eq x y) (ends_of y links) ∙ (ap (λ (b : Bool). not (x == y) && b) (same y) ∙ sym (less y)))
