-- Which exchanges are linked and live, where one begins.
use Rattle.std.proofs.Common.{ap, refl, sym, ◌∙◌}
use Rattle.std.specs.Prelude.{Bool, None, Option, Some, false, if◌then◌else◌, is_some, nat_eq, true, ℕ, ◌==◌, ◌||◌, ◌≡◌}
use Rattle.wire_links.proofs.Under.{under_insert}
use Rattle.wire_links.specs.Links.{Links, ends_of, started}
use Rattle.wire_links.specs.declared.links.exchanges.Ends.{Ends}

with_it : (b : Bool) (e : Ends) (o : Option Ends) → is_some (if b then Some e else o) ≡ (b || is_some o)
with_it true e o = refl
with_it false e o = refl

pub live_started : (x conn stream : ℕ) (to : Option ℕ) (links : Links) (live now : ℕ → Bool) → ((y : ℕ) → is_some (ends_of y links) ≡ live y) → ((y : ℕ) → now y ≡ ((x == y) || live y))
    → (y : ℕ) → is_some (ends_of y (started x conn stream to links)) ≡ now y
live_started x conn stream to links live now same more y =
    let e : Ends = record { client = conn; stream = stream; cluster = to; cluster_stream = None } in
    ap is_some (under_insert links.exchanges x y e) ∙ (with_it (nat_eq x y) e (ends_of y links) ∙ (ap (λ (b : Bool). (x == y) || b) (same y) ∙ sym (more y)))
