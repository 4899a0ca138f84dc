-- Counting in lists of flows and buffers.
use Rattle.flow_rules.specs.declared.ids.BufferId.{BufferId}
use Rattle.flow_rules.specs.declared.ids.FlowId.{FlowId}
use Rattle.std.proofs.Common.{ap, arith, refl, sym, ◌∙◌}
use Rattle.std.proofs.lemmas.Bool.Decides.{nat_tests}
use Rattle.std.proofs.lemmas.List.Sums.{sum_by-append, sum_by-cons}
use Rattle.std.specs.Prelude.{Bool, List, [], count_by, false, filter, if◌then◌else◌, not, true, ℕ, ◌&&◌, ◌++◌, ◌+◌, ◌==◌, ◌||◌, ◌∷◌, ◌≡◌}
use Rattle.tape_laws.specs.Flows.{same_buffer, same_flow}
use Rattle.flow_rules.specs.declared.ids.BufferId.TheVariants as buffer

abbrev pub one_if : Bool → ℕ
one_if b = if b then 1 else 0

pub by_case : {A : Type 0} (b : Bool) → (b ≡ true → A) → (b ≡ false → A) → A
by_case true f g = f refl
by_case false f g = g refl

pub both : (a b : Bool) → (a && b) ≡ true → (a ≡ true) × (b ≡ true)
both true b e = (refl, e)
both false b e = cc

pub number_is : (a b : ℕ) → (a == b) ≡ true → a ≡ b
number_is a b e = grind (arith, nat_tests)

pub same_number : (a : ℕ) → (a == a) ≡ true
same_number a = grind (arith, nat_tests)

-- flows and buffers of one name are one
abbrev made : ℕ → Bool → FlowId
made x b = record { exchange = x; back = b }

sides : (x y : ℕ) (a b : Bool) → x ≡ y → (if a then b else not b) ≡ true → made x a ≡ made y b
sides x y true true e f = ap (λ v. made v true) e
sides x y true false e f = cc
sides x y false true e f = cc
sides x y false false e f = ap (λ v. made v false) e

pub flow_is : (f g : FlowId) → same_flow f g ≡ true → f ≡ g
flow_is f g e =
    let k = both (f.exchange == g.exchange) (if f.back then g.back else not g.back) e in
    sides f.exchange g.exchange f.back g.back (number_is f.exchange g.exchange k.0) k.1

pub buffer_is : (b c : BufferId) → same_buffer b c ≡ true → b ≡ c
buffer_is (buffer.Write c) (buffer.Write d) e = ap (λ v. buffer.Write v) (number_is c d e)
buffer_is (buffer.Send f) (buffer.Send g) e = ap (λ v. buffer.Send v) (flow_is f g e)
buffer_is (buffer.Recv f) (buffer.Recv g) e = ap (λ v. buffer.Recv v) (flow_is f g e)
buffer_is (buffer.Stage f i) (buffer.Stage g j) e =
    let k = both (same_flow f g) (i == j) e in ap (λ v. buffer.Stage v i) (flow_is f g k.0) ∙ ap (λ v. buffer.Stage g v) (number_is i j k.1)
buffer_is (buffer.Write c) (buffer.Send g) e = cc
buffer_is (buffer.Write c) (buffer.Recv g) e = cc
buffer_is (buffer.Write c) (buffer.Stage g j) e = cc
buffer_is (buffer.Send f) (buffer.Write d) e = cc
buffer_is (buffer.Send f) (buffer.Recv g) e = cc
buffer_is (buffer.Send f) (buffer.Stage g j) e = cc
buffer_is (buffer.Recv f) (buffer.Write d) e = cc
buffer_is (buffer.Recv f) (buffer.Send g) e = cc
buffer_is (buffer.Recv f) (buffer.Stage g j) e = cc
buffer_is (buffer.Stage f i) (buffer.Write d) e = cc
buffer_is (buffer.Stage f i) (buffer.Send g) e = cc
buffer_is (buffer.Stage f i) (buffer.Recv g) e = cc

pub same_side : (a : Bool) → (if a then a else not a) ≡ true
same_side true = refl
same_side false = refl

pub flow_same : (f : FlowId) → same_flow f f ≡ true
flow_same f = ap (λ b. b && (if f.back then f.back else not f.back)) (same_number f.exchange) ∙ same_side f.back

pub buffer_same : (b : BufferId) → same_buffer b b ≡ true
buffer_same (buffer.Write c) = same_number c
buffer_same (buffer.Send f) = flow_same f
buffer_same (buffer.Recv f) = flow_same f
buffer_same (buffer.Stage f i) = ap (λ b. b && (i == i)) (flow_same f) ∙ same_number i

pub swapped : (a b : ℕ) → (a == b) ≡ (b == a)
swapped a b = grind (arith, nat_tests)

pub flow_swapped : (f g : FlowId) → same_flow f g ≡ same_flow g f
flow_swapped f g = ap (λ b. b && (if f.back then g.back else not g.back)) (swapped f.exchange g.exchange) ∙ ap (λ b. (g.exchange == f.exchange) && b) (turned f.back g.back)
  where
    turned : (a b : Bool) → (if a then b else not b) ≡ (if b then a else not a)
    turned true true = refl
    turned true false = refl
    turned false true = refl
    turned false false = refl

-- ---- flags
pub or_true : (a b : Bool) → (a || b) ≡ true → a ≡ false → b ≡ true
or_true true b e f = cc
or_true false b e f = e

pub or_none : (a b : Bool) → (a || b) ≡ false → (a ≡ false) × (b ≡ false)
or_none true b e = cc
or_none false b e = (refl, e)

pub or_right : (a b : Bool) → b ≡ true → (a || b) ≡ true
or_right true b e = refl
or_right false b e = e

pub or_left : (a b : Bool) → a ≡ true → (a || b) ≡ true
or_left true b e = refl
or_left false b e = cc

pub not_so : (b : Bool) → not b ≡ true → b ≡ false
not_so true e = cc
not_so false e = refl

pub not_both : {A : Type 0} (b : Bool) → b ≡ true → b ≡ false → A
not_both true e f = cc
not_both false e f = cc

-- ---- sums
pub count_cons : {A : Type 0} (p : A → Bool) (x : A) (xs : List A) → count_by p (x ∷ xs) ≡ one_if (p x) + count_by p xs
count_cons p x xs = sum_by-cons (λ y. one_if (p y)) x xs

pub count_append : {A : Type 0} (p : A → Bool) (xs ys : List A) → count_by p (xs ++ ys) ≡ count_by p xs + count_by p ys
count_append p xs ys = sum_by-append (λ y. one_if (p y)) xs ys

-- how often a flow is among those that pass
passed : (f : FlowId) (P : FlowId → Bool) (g : FlowId) (gs : List FlowId) (pf pg sf : Bool) → P f ≡ pf → P g ≡ pg → same_flow f g ≡ sf → (sf ≡ true → pf ≡ pg)
    → count_by (same_flow f) (filter P gs) ≡ (if pf then count_by (same_flow f) gs else 0)
    → count_by (same_flow f) (if pg then g ∷ filter P gs else filter P gs) ≡ (if pf then one_if sf + count_by (same_flow f) gs else 0)
passed f P g gs true true sf ef eg es s ih = count_cons (same_flow f) g (filter P gs) ∙ (ap (λ b. one_if b + count_by (same_flow f) (filter P gs)) es ∙ ap (λ k. one_if sf + k) ih)
passed f P g gs true false true ef eg es s ih = let k = s refl in cc
passed f P g gs true false false ef eg es s ih = ih ∙ zero (count_by (same_flow f) gs)
  where
    zero : (k : ℕ) → k ≡ 0 + k
    zero k = omega arith
passed f P g gs false true true ef eg es s ih = let k = s refl in cc
passed f P g gs false true false ef eg es s ih = count_cons (same_flow f) g (filter P gs) ∙ (ap (λ b. one_if b + count_by (same_flow f) (filter P gs)) es ∙ zero _ ih)
  where
    zero : (k : ℕ) → k ≡ 0 → 0 + k ≡ 0
    zero k e = omega (arith, e)
passed f P g gs false false sf ef eg es s ih = ih

abbrev pub none_if : Bool → ℕ
none_if b = if b then 0 else 0

pub none : (b : Bool) → 0 ≡ none_if b
none true = refl
none false = refl

pub count_filter : (f : FlowId) (P : FlowId → Bool) (gs : List FlowId) → count_by (same_flow f) (filter P gs) ≡ (if P f then count_by (same_flow f) gs else 0)
count_filter f P [] = none (P f)
count_filter f P (g ∷ gs) =
    passed f P g gs (P f) (P g) (same_flow f g) refl refl refl (λ t. ap P (flow_is f g t)) (count_filter f P gs)
    ∙ ap (λ k. if P f then k else 0) (sym (count_cons (same_flow f) g gs))
