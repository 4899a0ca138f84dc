-- Whether the places before one are empty.
use Rattle.std.proofs.Math.Bool.{and-false}
use Rattle.std.proofs.lemmas.Bool.Decides.{nat_tests}
use Rattle.std.proofs.Common.{◌≡◌, ◌+◌, ◌<◌, ◌≤◌, ◌∙◌, ◌&&◌, ◌==◌, ℕ, suc, zero, Bool, true, false, length, refl, sym, ap, arith}
use Rattle.exchange_core.specs.Flow.{Flow, octets_in}
use Rattle.exchange_core.specs.Units.{empty_before}
use Rattle.filter_chain.specs.Chain.{octets_at}

-- a place that is empty adds nothing
pub before_next : (flow : Flow) (p : ℕ) → (length (octets_in flow p) == 0) ≡ true → empty_before flow (suc p) ≡ empty_before flow p
before_next flow p e = cc

-- one that isn't stands before all later ones
pub not_before : (flow : Flow) (p q : ℕ) → p < q → (length (octets_in flow p) == 0) ≡ false → empty_before flow q ≡ false
not_before flow p zero h e = absurd (omega arith)
not_before flow p (suc q) h e = by_place (p == q) refl (λ apart. not_before flow p q apart e)
  where
    by_place : (b : Bool) → (p == q) ≡ b → (p < q → empty_before flow q ≡ false) → empty_before flow (suc q) ≡ false
    by_place true s rest =
        let here : p ≡ q = grind (arith, nat_tests) in
        ap (λ b. b && empty_before flow q) (ap (λ n. length (octets_in flow n) == 0) (sym here) ∙ e)
    by_place false s rest =
        let apart : p < q = grind (arith, nat_tests) in
        ap (λ b. (length (octets_in flow q) == 0) && b) (rest apart) ∙ and-false (length (octets_in flow q) == 0)

-- ---- by the number of a place behind the receive buffer
stage_octets : (flow : Flow) (p : ℕ) → 1 ≤ p → octets_in flow p ≡ octets_at flow.chain p
stage_octets flow zero first = absurd (omega arith)
stage_octets flow (suc p) first = refl

pub before_more : (flow : Flow) (p : ℕ) → 1 ≤ p → length (octets_at flow.chain p) ≡ 0 → empty_before flow (p + 1) ≡ empty_before flow p
before_more flow p first e =
    let one : p + 1 ≡ suc p = omega arith in
    let here : length (octets_in flow p) ≡ 0 = cc (stage_octets flow p first) in
    let none : (length (octets_in flow p) == 0) ≡ true = grind (arith, nat_tests) in
    ap (empty_before flow) one ∙ before_next flow p none

pub filled_before : (flow : Flow) (p q : ℕ) → 1 ≤ p → p < q → 0 < length (octets_at flow.chain p) → empty_before flow q ≡ false
filled_before flow p q first h some =
    let here : length (octets_in flow p) ≡ length (octets_at flow.chain p) = ap length (stage_octets flow p first) in
    let full : (length (octets_in flow p) == 0) ≡ false = grind (arith, nat_tests) in
    not_before flow p q h full
