-- A request that gets its stream at the connection to its cluster.
use Rattle.std.proofs.Common.{ap, arith, refl, rules, subst, sym, ◌∙◌}
use Rattle.std.proofs.lemmas.Bool.Decides.{nat_tests}
use Rattle.std.specs.Option.{option_map}
use Rattle.std.specs.Prelude.{Bool, IfSome, IsSome, None, Option, Some, false, if◌then◌else◌, is_some, nat_eq, true, ℕ, ◌≡◌}
use Rattle.wire_links.proofs.Under.{under_changed}
use Rattle.wire_links.specs.Links.{IsToFrame, Links, ends_of, exchange_at, framed, with_stream}
use Rattle.wire_links.specs.declared.links.exchanges.Ends.{Ends}
use Rattle.wire_out.specs.Opening.{IsUnframed}

is_there : (n : ℕ) → IsSome (Some n)
is_there n = search rules

ends_to_frame : (o : Option Ends) (conn stream : ℕ) (links : Links) → IfSome o (λ e. e.cluster_stream ≡ None) → IfSome o (λ e. e.cluster ≡ Some conn) → exchange_at conn stream links ≡ None
    → IfSome o (IsToFrame stream links)
ends_to_frame None conn stream links u g n = tt
ends_to_frame (Some e) conn stream links u g n = record {
  unframed = u;
  unused = subst (λ (k : Option ℕ). IfSome k (λ t. exchange_at t stream links ≡ None)) (sym g) n;
  chosen = subst (λ (k : Option ℕ). IsSome k) (sym g) (is_there conn);
}

pub to_frame : (conn x stream : ℕ) (links : Links) → IsUnframed conn x links → exchange_at conn stream links ≡ None → IfSome (ends_of x links) (IsToFrame stream links)
to_frame conn x stream links u n = ends_to_frame (ends_of x links) conn stream links u.stream u.goes n

-- which test a number passes says nothing of whether an exchange is linked
linked : (f : Ends → Ends) (b : Bool) (o p : Option Ends) → (b ≡ true → o ≡ p) → is_some (if b then option_map f o else p) ≡ is_some p
linked f true None p e = ap is_some (e refl)
linked f true (Some v) p e = ap is_some (e refl)
linked f false o p e = refl

is_same : (x y : ℕ) → nat_eq x y ≡ true → x ≡ y
is_same x y e = grind (arith, nat_tests)

pub still_linked : (x stream : ℕ) (links : Links) (y : ℕ) → is_some (ends_of y (framed x stream links)) ≡ is_some (ends_of y links)
still_linked x stream links y =
    ap is_some (under_changed links.exchanges x y (with_stream stream))
    ∙ linked (with_stream stream) (nat_eq x y) (ends_of x links) (ends_of y links) (λ e. ap (λ (n : ℕ). ends_of n links) (is_same x y e))
