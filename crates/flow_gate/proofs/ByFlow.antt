-- Values by flow are those of requests and those of responses.
use Rattle.flow_gate.proofs.Naming.{lookup-left, lookup-named, lookup-right, named-none, set-left, set-named, set-right, written_through}
use Rattle.flow_gate.proofs.Places.{eq_by_place}
use Rattle.flow_gate.proofs.SameIds.{same_flow-comm, same_flow-refl, same_flow_exact}
use Rattle.flow_gate.specs.Ids.{same_flow}
use Rattle.flow_gate.specs.Named.{Updates, WritesThrough, both, named, request_of, response_of}
use Rattle.flow_gate.specs.Parts.{flow_at}
use Rattle.flow_rules.specs.declared.ids.FlowId.{FlowId}
use Rattle.std.proofs.Common.{ap, arith, refl, subst, sym, ◌∙◌}
use Rattle.std.proofs.lemmas.List.{length-append, length-map}
use Rattle.std.specs.BTreeMap.{is_at}
use Rattle.std.specs.Cmp.{IsEquivalence}
use Rattle.std.specs.Map.{lookup, set_value}
use Rattle.std.specs.Ordering.{nat_cmp}
use Rattle.std.specs.Prelude.{Bool, List, Option, cond, false, length, true, ℕ, ◌&&◌, ◌+◌, ◌++◌, ◌==◌, ◌≡◌}

pub same_flow_laws : IsEquivalence same_flow
same_flow_laws = record { refl = same_flow-refl; symm = same_flow-comm; congr = λ f g h here. ap (λ k. same_flow k h) (same_flow_exact f g here) }

-- ---- the two directions
abbrev flow_of : ℕ → Bool → FlowId
flow_of exchange back = record { exchange = exchange; back = back }

and-true : (b : Bool) → (b && true) ≡ b
and-true true = refl
and-true false = refl

and-false : (b : Bool) → (b && false) ≡ false
and-false true = refl
and-false false = refl

at_request : (n m : ℕ) → same_flow (request_of n) (request_of m) ≡ is_at (nat_cmp n) m
at_request n m = and-true (n == m) ∙ sym (eq_by_place n m)

at_response : (n m : ℕ) → same_flow (response_of n) (response_of m) ≡ is_at (nat_cmp n) m
at_response n m = and-true (n == m) ∙ sym (eq_by_place n m)

apart : (n m : ℕ) → same_flow (request_of n) (response_of m) ≡ false
apart n m = and-false (n == m)

apart_back : (n m : ℕ) → same_flow (response_of n) (request_of m) ≡ false
apart_back n m = and-false (n == m)

is_request : (f : FlowId) → f.back ≡ false → request_of f.exchange ≡ f
is_request f e = λ i. record { exchange = f.exchange; back = sym e i }

is_response : (f : FlowId) → f.back ≡ true → response_of f.exchange ≡ f
is_response f e = λ i. record { exchange = f.exchange; back = sym e i }

-- ---- what is at a flow
module _ {X : Type 0} where
  -- what a number has
  abbrev pub number_at : ℕ → List (ℕ × X) → Option X
  number_at n es = lookup (is_at (nat_cmp n)) es

  -- the number has this or nothing, and each other one what it had
  abbrev pub NumberChanges : ℕ → Option X → List (ℕ × X) → List (ℕ × X) → Type 0
  NumberChanges n w old new = (q : ℕ) → number_at q new ≡ cond (is_at (nat_cmp n) q) w (number_at q old)

  pub length-both : (xs ys : List (ℕ × X)) → length (both xs ys) ≡ length xs + length ys
  length-both xs ys = omega (
    arith,
    length-append (named request_of xs) (named response_of ys),
    length-map {B = FlowId × X} xs (λ e. (request_of e.0, e.1)),
    length-map {B = FlowId × X} ys (λ e. (response_of e.0, e.1)),
  )

  request-at : (n : ℕ) (xs ys : List (ℕ × X)) → flow_at (both xs ys) (request_of n) ≡ number_at n xs
  request-at n xs ys =
      lookup-left (same_flow (request_of n)) (named request_of xs) (named response_of ys) (named-none response_of (same_flow (request_of n)) (apart n) ys)
      ∙ lookup-named request_of (same_flow (request_of n)) (is_at (nat_cmp n)) (at_request n) xs

  response-at : (n : ℕ) (xs ys : List (ℕ × X)) → flow_at (both xs ys) (response_of n) ≡ number_at n ys
  response-at n xs ys =
      lookup-right (same_flow (response_of n)) (named request_of xs) (named response_of ys) (named-none request_of (same_flow (response_of n)) (apart_back n) xs)
      ∙ lookup-named response_of (same_flow (response_of n)) (is_at (nat_cmp n)) (at_response n) ys

  pub at-request : (f : FlowId) (xs ys : List (ℕ × X)) → f.back ≡ false → number_at f.exchange xs ≡ flow_at (both xs ys) f
  at-request f xs ys e = sym (request-at f.exchange xs ys) ∙ ap (flow_at (both xs ys)) (is_request f e)

  pub at-response : (f : FlowId) (xs ys : List (ℕ × X)) → f.back ≡ true → number_at f.exchange ys ≡ flow_at (both xs ys) f
  at-response f xs ys e = sym (response-at f.exchange xs ys) ∙ ap (flow_at (both xs ys)) (is_response f e)

  -- ---- what is written to one direction
  pub request_updated : (f : FlowId) (w : Option X) (xs xs' ys : List (ℕ × X)) → f.back ≡ false → NumberChanges f.exchange w xs xs' → Updates same_flow f w (both xs ys) (both xs' ys)
  request_updated f w xs xs' ys e changes = subst (λ g. Updates same_flow g w (both xs ys) (both xs' ys)) (is_request f e) (λ q. each q.exchange q.back)
    where
      each : (m : ℕ) (back : Bool) → flow_at (both xs' ys) (flow_of m back) ≡ cond (same_flow (request_of f.exchange) (flow_of m back)) w (flow_at (both xs ys) (flow_of m back))
      each m false = request-at m xs' ys ∙ changes m ∙ (λ i. cond (sym (at_request f.exchange m) i) w (sym (request-at m xs ys) i))
      each m true = response-at m xs' ys ∙ sym (response-at m xs ys) ∙ sym (ap (λ t. cond t w (flow_at (both xs ys) (response_of m))) (apart f.exchange m))

  pub response_updated : (f : FlowId) (w : Option X) (xs ys ys' : List (ℕ × X)) → f.back ≡ true → NumberChanges f.exchange w ys ys' → Updates same_flow f w (both xs ys) (both xs ys')
  response_updated f w xs ys ys' e changes = subst (λ g. Updates same_flow g w (both xs ys) (both xs ys')) (is_response f e) (λ q. each q.exchange q.back)
    where
      each : (m : ℕ) (back : Bool) → flow_at (both xs ys') (flow_of m back) ≡ cond (same_flow (response_of f.exchange) (flow_of m back)) w (flow_at (both xs ys) (flow_of m back))
      each m true = response-at m xs ys' ∙ changes m ∙ (λ i. cond (sym (at_response f.exchange m) i) w (sym (response-at m xs ys) i))
      each m false = request-at m xs ys' ∙ sym (request-at m xs ys) ∙ sym (ap (λ t. cond t w (flow_at (both xs ys) (request_of m))) (apart_back f.exchange m))

  -- ---- what is written through a loan
  pub request_written : (f : FlowId) (w : X) (xs xs' ys : List (ℕ × X)) → f.back ≡ false → xs' ≡ set_value (is_at (nat_cmp f.exchange)) xs w → WritesThrough same_flow f w (both xs ys) (both xs' ys)
  request_written f w xs xs' ys e is = written_through same_flow same_flow_laws f w (both xs ys) (both xs' ys)
      (ap (λ zs. both zs ys) is
      ∙ sym (set-left (same_flow (request_of f.exchange)) (named request_of xs) (named response_of ys) w (named-none response_of (same_flow (request_of f.exchange)) (apart f.exchange) ys)
      ∙ ap (λ zs. zs ++ named response_of ys) (set-named request_of (same_flow (request_of f.exchange)) (is_at (nat_cmp f.exchange)) (at_request f.exchange) xs w))
      ∙ ap (λ g. set_value (same_flow g) (both xs ys) w) (is_request f e))

  pub response_written : (f : FlowId) (w : X) (xs ys ys' : List (ℕ × X)) → f.back ≡ true → ys' ≡ set_value (is_at (nat_cmp f.exchange)) ys w → WritesThrough same_flow f w (both xs ys) (both xs ys')
  response_written f w xs ys ys' e is = written_through same_flow same_flow_laws f w (both xs ys) (both xs ys')
      (ap (both xs) is
      ∙ sym (set-right (same_flow (response_of f.exchange)) (named request_of xs) (named response_of ys) w (named-none request_of (same_flow (response_of f.exchange)) (apart_back f.exchange) xs)
      ∙ ap (λ zs. named request_of xs ++ zs) (set-named response_of (same_flow (response_of f.exchange)) (is_at (nat_cmp f.exchange)) (at_response f.exchange) ys w))
      ∙ ap (λ g. set_value (same_flow g) (both xs ys) w) (is_response f e))
