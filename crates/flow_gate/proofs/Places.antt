-- The line of a buffer's watchers: the next place is its end, a part of it between two places, and one that leaves it.
use Rattle.flow_gate.proofs.Counting.{count-cons}
use Rattle.flow_gate.proofs.SameIds.{same_flow-refl}
use Rattle.flow_gate.specs.Board.{times}
use Rattle.flow_gate.specs.Ids.{same_flow}
use Rattle.flow_gate.specs.Line.{Line, Places, at_place, between, is_between, left}
use Rattle.flow_rules.specs.declared.ids.FlowId.{FlowId}
use Rattle.std.proofs.Common.{ap, arith, inl, inr, refl, subst, sym, ◌∙◌}
use Rattle.std.proofs.lemmas.Bool.{cases_Bool, cond_both, eqb-true, false_from_ne_true, false≢true, ne_eqb}
use Rattle.std.proofs.lemmas.Bool.Decides.{nat_tests}
use Rattle.std.proofs.lemmas.List.{append-nil}
use Rattle.std.proofs.lemmas.List.Elements.{filter-append}
use Rattle.std.proofs.lemmas.Map.Keys.{sorted_head, sorted_tail}
use Rattle.std.proofs.lemmas.Option.{same_Some, none-some}
use Rattle.std.specs.BTreeMap.{is_at}
use Rattle.std.specs.List.{AllByRecursion}
use Rattle.std.specs.List.Sorted.{IsStrictlySortedBy}
use Rattle.std.specs.Map.{keys_of, remove_entry, values_of}
use Rattle.std.specs.Ordering.{nat_cmp}
use Rattle.std.specs.Prelude.{Bool, List, None, Some, [], cond, drop, false, filter, is_some, length, nat_eq, nat_lt, not, slice_get, true, ℕ, ◌++◌, ◌+◌, ◌<◌, ◌∷◌, ◌≡◌, ◌≤◌}
use Rattle.std.specs.declared.cmp.Ordering.TheVariants.{Greater, Less}

pub between_yes : (from to q : ℕ) → from ≤ q → q < to → is_between from to q ≡ true
between_yes from to q low high = grind (arith, nat_tests)

pub between_high_only : (from to q : ℕ) → from ≤ q → is_between from to q ≡ nat_lt q to
between_high_only from to q low = grind (arith, nat_tests)

pub between_low : (from to q : ℕ) → is_between from to q ≡ true → from ≤ q
between_low from to q h = grind (arith, nat_tests)

pub between_high : (from to q : ℕ) → is_between from to q ≡ true → q < to
between_high from to q h = grind (arith, nat_tests)

pub between_no : (from to q : ℕ) → to ≤ q → is_between from to q ≡ false
between_no from to q high = grind (arith, nat_tests)

pub between_below : (from to q : ℕ) → q < from → is_between from to q ≡ false
between_below from to q low = grind (arith, nat_tests)

between_void : (from to q : ℕ) → to ≤ from → is_between from to q ≡ false
between_void from to q none = grind (arith, nat_tests)

-- nobody stands between a place and one that isn't behind it
pub between-none : (from to : ℕ) (es : Places) → to ≤ from → between from to es ≡ []
between-none from to [] none = refl
between-none from to (e ∷ es) none =
    ap (λ b. cond b (e ∷ between from to es) (between from to es)) (between_void from to e.0 none) ∙ between-none from to es none

pub between_from : (a b to q : ℕ) → a ≤ q → b ≤ q → is_between a to q ≡ is_between b to q
between_from a b to q low lower = grind (arith, nat_tests)

pub eq_by_place : (p q : ℕ) → is_at (nat_cmp p) q ≡ nat_eq p q
eq_by_place p q = grind (arith, nat_tests)

greater : (p q : ℕ) → q < p → nat_cmp p q ≡ Greater
greater p q less = grind (arith, nat_tests)

pub less_cmp : (p q : ℕ) → nat_cmp p q ≡ Less → p < q
less_cmp p q is = grind (arith, nat_tests)

-- ---- a filter
pub filter_all : {X : Type 0} (test : X → Bool) (xs : List X) → AllByRecursion (λ x. test x ≡ true) xs → filter test xs ≡ xs
filter_all test [] all = refl
filter_all test (x ∷ xs) all = ap (λ b. cond b (x ∷ filter test xs) (filter test xs)) all.0 ∙ ap (λ ys. x ∷ ys) (filter_all test xs all.1)

pub filter_none : {X : Type 0} (test : X → Bool) (xs : List X) → AllByRecursion (λ x. test x ≡ false) xs → filter test xs ≡ []
filter_none test [] none = refl
filter_none test (x ∷ xs) none = ap (λ b. cond b (x ∷ filter test xs) (filter test xs)) none.0 ∙ filter_none test xs none.1

pub weaken : {X : Type 0} {P Q : X → Type 0} (xs : List X) → ((x : X) → P x → Q x) → AllByRecursion P xs → AllByRecursion Q xs
weaken [] f all = tt
weaken (x ∷ xs) f all = (f x all.0, weaken xs f all.1)

pub filter_same : {X : Type 0} (s t : X → Bool) (xs : List X) → AllByRecursion (λ x. s x ≡ t x) xs → filter s xs ≡ filter t xs
filter_same s t [] same = refl
filter_same s t (x ∷ xs) same = λ i. cond (same.0 i) (x ∷ filter_same s t xs same.1 i) (filter_same s t xs same.1 i)

filter-true : {X : Type 0} (xs : List X) → filter (λ x. true) xs ≡ xs
filter-true [] = refl
filter-true (x ∷ xs) = ap (λ ys. x ∷ ys) (filter-true xs)

weaken_keys : (P : ℕ → Type 0) (Q : ℕ × FlowId → Type 0) (line : Places) → ((e : ℕ × FlowId) → P e.0 → Q e) → AllByRecursion P (keys_of line) → AllByRecursion Q line
weaken_keys P Q [] f all = tt
weaken_keys P Q (e ∷ line) f all = (f e all.0, weaken_keys P Q line f all.1)

-- ---- the end of the line
-- the part from 0 to before the next place is all
pub between-all : (next : ℕ) (line : Places) → AllByRecursion (λ e. e.0 < next) line → between 0 next line ≡ line
between-all next line below = filter_all (λ e. is_between 0 next e.0) line (weaken line (λ e h. between_yes 0 next e.0 (omega arith) h) below)

-- who comes at the next place has no pending low
pub between-next : (told drained next : ℕ) (flow : FlowId) (line : Places) → drained ≤ next → between told drained (line ++ (next, flow) ∷ []) ≡ between told drained line
between-next told drained next flow line within =
    filter-append (λ e. is_between told drained e.0) line ((next, flow) ∷ [])
    ∙ ap (λ b. between told drained line ++ cond b ((next, flow) ∷ []) []) (between_no told drained next within)
    ∙ append-nil (between told drained line)

pub next-at_place : (next : ℕ) (line : Places) → AllByRecursion (λ e. e.0 < next) line → at_place next line ≡ None
next-at_place next [] below = refl
next-at_place next (e ∷ line) below =
    ap (λ b. cond b (Some e.1) (at_place next line)) (ne_eqb next e.0 (λ same. omega (arith, same, below.0))) ∙ next-at_place next line below.1

-- ---- one leaves
-- the places of the others
abbrev pub others_of : FlowId → Places → Places
others_of f = filter (λ e. not (same_flow f e.1))

pub others-none : (f : FlowId) (line : Places) → times f (values_of line) ≡ 0 → others_of f line ≡ line
others-none f [] none = refl
others-none f (e ∷ line) none =
    let other : same_flow f e.1 ≡ false = false_from_ne_true (same_flow f e.1) (λ h.
    let one : cond (same_flow f e.1) 1 0 ≡ 1 = ap {B = ℕ} (λ b. cond b 1 0) h in omega (arith, one, none, count-cons (same_flow f) e.1 (values_of line))) in
    ap (λ b. cond (not b) (e ∷ others_of f line) (others_of f line)) other
    ∙ ap (λ es. e ∷ es) (others-none f line (omega (arith, none, count-cons (same_flow f) e.1 (values_of line))))

some_times : (p : ℕ) (f : FlowId) (line : Places) → at_place p line ≡ Some f → 1 ≤ times f (values_of line)
some_times p f [] at = absurd (none-some f at)
some_times p f (e ∷ line) at = elim (cases_Bool (nat_eq p e.0)) [
  | inl here ↦
      let same : e.1 ≡ f = same_Some e.1 f (ap (λ b. cond b (Some e.1) (at_place p line)) (sym here) ∙ at) in
      let one : cond (same_flow f e.1) 1 0 ≡ 1 = ap {B = ℕ} (λ b. cond b 1 0) (subst (λ g. same_flow f g ≡ true) (sym same) (same_flow-refl f)) in
      omega (arith, one, count-cons (same_flow f) e.1 (values_of line))
  | inr past ↦ omega (arith, some_times p f line (ap (λ b. cond b (Some e.1) (at_place p line)) (sym past) ∙ at), count-cons (same_flow f) e.1 (values_of line))
]

part-times : (test : ℕ → Bool) (f : FlowId) (line : Places) → times f (values_of (filter (λ e. test e.0) line)) ≤ times f (values_of line)
part-times test f [] = omega arith
part-times test f (e ∷ line) =
    let rest = part-times test f line in
    cond_both (test e.0) (e ∷ filter (λ d. test d.0) line) (filter (λ d. test d.0) line) (λ es. times f (values_of es) ≤ times f (values_of (e ∷ line)))
    (λ h. omega (arith, rest, count-cons (same_flow f) e.1 (values_of line), count-cons (same_flow f) e.1 (values_of (filter (λ d. test d.0) line))))
    (λ h. omega (arith, rest, count-cons (same_flow f) e.1 (values_of line)))

-- of any part of the line, its flow's place is all that goes
pub part-leaves : (test : ℕ → Bool) (p : ℕ) (f : FlowId) (line : Places) → at_place p line ≡ Some f → times f (values_of line) ≤ 1 →
    filter (λ e. test e.0) (remove_entry (is_at (nat_cmp p)) line) ≡ others_of f (filter (λ e. test e.0) line)
part-leaves test p f [] at once = refl
part-leaves test p f (e ∷ line) at once =
    let part : Places = filter (λ d. test d.0) line in
    let left : Places = remove_entry (is_at (nat_cmp p)) line in
    elim (cases_Bool (nat_eq p e.0)) [
      | inl here ↦
          let same : e.1 ≡ f = same_Some e.1 f (ap (λ b. cond b (Some e.1) (at_place p line)) (sym here) ∙ at) in
          let itself : same_flow f e.1 ≡ true = subst (λ g. same_flow f g ≡ true) (sym same) (same_flow-refl f) in
          let one : cond (same_flow f e.1) 1 0 ≡ 1 = ap {B = ℕ} (λ b. cond b 1 0) itself in
          let none : times f (values_of part) ≡ 0 = omega (arith, one, once, count-cons (same_flow f) e.1 (values_of line), part-times test f line) in
          let keeps : (t : Bool) → others_of f (cond t (e ∷ part) part) ≡ others_of f part =
          λ t. elim t as (λ b. others_of f (cond b (e ∷ part) part) ≡ others_of f part) [
            | true ↦ ap (λ b. cond (not b) (e ∷ others_of f part) (others_of f part)) itself
            | false ↦ refl
          ]
          in
          ap (λ b. filter (λ d. test d.0) (cond b line (e ∷ left))) (eq_by_place p e.0 ∙ here)
          ∙ sym (others-none f part none) ∙ sym (keeps (test e.0))
      | inr past ↦
          let behind : at_place p line ≡ Some f = ap (λ b. cond b (Some e.1) (at_place p line)) (sym past) ∙ at in
          let some = some_times p f line behind in
          let other : same_flow f e.1 ≡ false = false_from_ne_true (same_flow f e.1) (λ same.
          let one : cond (same_flow f e.1) 1 0 ≡ 1 = ap {B = ℕ} (λ b. cond b 1 0) same in omega (arith, one, some, once, count-cons (same_flow f) e.1 (values_of line))) in
          let rest = part-leaves test p f line behind (omega (arith, once, count-cons (same_flow f) e.1 (values_of line))) in
          let each : (t : Bool) → cond t (e ∷ filter (λ d. test d.0) left) (filter (λ d. test d.0) left) ≡ others_of f (cond t (e ∷ part) part) =
          λ t. elim t as (λ b. cond b (e ∷ filter (λ d. test d.0) left) (filter (λ d. test d.0) left) ≡ others_of f (cond b (e ∷ part) part)) [
            | true ↦ ap (λ es. e ∷ es) rest ∙ sym (ap (λ b. cond (not b) (e ∷ others_of f part) (others_of f part)) other)
            | false ↦ rest
          ]
          in
          ap (λ b. filter (λ d. test d.0) (cond b line (e ∷ left))) (eq_by_place p e.0 ∙ past) ∙ each (test e.0)
    ]

-- a part of the line has the flow at a place exactly where the place is in it
pub part-held : (test : ℕ → Bool) (p : ℕ) (f : FlowId) (line : Places) → at_place p line ≡ Some f → times f (values_of line) ≤ 1 →
    times f (values_of (filter (λ e. test e.0) line)) ≡ cond (test p) 1 0
part-held test p f [] at once = absurd (none-some f at)
part-held test p f (e ∷ line) at once =
    let part : Places = filter (λ d. test d.0) line in
    elim (cases_Bool (nat_eq p e.0)) [
      | inl here ↦
          let same : e.1 ≡ f = same_Some e.1 f (ap (λ b. cond b (Some e.1) (at_place p line)) (sym here) ∙ at) in
          let one : ◌≡◌ {A = ℕ} (cond (same_flow f e.1) 1 0) 1 = ap {B = ℕ} (λ b. cond b 1 0) (subst (λ g. same_flow f g ≡ true) (sym same) (same_flow-refl f)) in
          let none : times f (values_of part) ≡ 0 = omega (arith, one, once, count-cons (same_flow f) e.1 (values_of line), part-times test f line) in
          let each : (t : Bool) → times f (values_of (cond t (e ∷ part) part)) ≡ cond t 1 0 =
          λ t. elim t as (λ b. times f (values_of (cond b (e ∷ part) part)) ≡ cond b 1 0) [
            | true ↦ omega (arith, one, none, count-cons (same_flow f) e.1 (values_of part))
            | false ↦ none
          ]
          in
          each (test e.0) ∙ ap {B = ℕ} (λ q. cond (test q) 1 0) (sym (eqb-true p e.0 here))
      | inr past ↦
          let behind : at_place p line ≡ Some f = ap (λ b. cond b (Some e.1) (at_place p line)) (sym past) ∙ at in
          let some = some_times p f line behind in
          let other : ◌≡◌ {A = ℕ} (cond (same_flow f e.1) 1 0) 0 = omega (arith, some, once, count-cons (same_flow f) e.1 (values_of line)) in
          let rest = part-held test p f line behind (omega (arith, once, count-cons (same_flow f) e.1 (values_of line))) in
          let each : (t : Bool) → times f (values_of (cond t (e ∷ part) part)) ≡ cond (test p) 1 0 =
          λ t. elim t as (λ b. times f (values_of (cond b (e ∷ part) part)) ≡ cond (test p) 1 0) [
            | true ↦ omega (arith, other, rest, count-cons (same_flow f) e.1 (values_of part))
            | false ↦ rest
          ]
          in
          each (test e.0)
    ]

pub line-leaves : (p : ℕ) (f : FlowId) (line : Places) → at_place p line ≡ Some f → times f (values_of line) ≤ 1 →
    remove_entry (is_at (nat_cmp p)) line ≡ others_of f line
line-leaves p f line at once =
    sym (filter-true (remove_entry (is_at (nat_cmp p)) line)) ∙ part-leaves (λ q. true) p f line at once ∙ ap (others_of f) (filter-true line)

-- ---- the first is told
pub passes_first : {X : Type 0} (test : X → Bool) (xs ys : List X) (y : X) → filter test xs ≡ y ∷ ys → test y ≡ true
passes_first test [] ys y is = cc
passes_first test (x ∷ xs) ys y is = elim (cases_Bool (test x)) [
  | inl passes ↦ (let same : x ∷ filter test xs ≡ y ∷ ys = ap (λ b. cond b (x ∷ filter test xs) (filter test xs)) (sym passes) ∙ is in let e : x ≡ y = cc in subst (λ z. test z ≡ true) e passes)
  | inr fails ↦ passes_first test xs ys y (ap (λ b. cond b (x ∷ filter test xs) (filter test xs)) (sym fails) ∙ is)
]

pub first_none : (es : Places) → is_some (slice_get es 0) ≡ false → es ≡ []
first_none [] none = refl
first_none (e ∷ es) none = absurd (false≢true (sym none))

pub between-rest : (told drained p : ℕ) (f : FlowId) (rest line : Places) → IsStrictlySortedBy nat_cmp (keys_of line) →
    between told drained line ≡ (p, f) ∷ rest → between (p + 1) drained line ≡ rest
between-rest told drained p f rest [] sorted is = cc
between-rest told drained p f rest (e ∷ line) sorted is = elim (cases_Bool (is_between told drained e.0)) [
  | inl inside ↦
      let same : e ∷ between told drained line ≡ (p, f) ∷ rest = ap (λ b. cond b (e ∷ between told drained line) (between told drained line)) (sym inside) ∙ is in
      let first : e ≡ (p, f) = cc in
      let others : between told drained line ≡ rest = cc in
      let place : e.0 ≡ p = ap (λ (d : ℕ × FlowId). d.0) first in
      let low = between_low told drained e.0 inside in
      ap (λ b. cond b (e ∷ between (p + 1) drained line) (between (p + 1) drained line)) (between_below (p + 1) drained e.0 (omega (arith, place)))
      ∙ filter_same (λ d. is_between (p + 1) drained d.0) (λ d. is_between told drained d.0) line
      (weaken_keys (λ q. nat_cmp e.0 q ≡ Less) (λ d. is_between (p + 1) drained d.0 ≡ is_between told drained d.0) line (λ d less. let above = less_cmp e.0 d.0 less in between_from (p + 1) told drained d.0 (omega (arith, above, place)) (omega (arith, above, low))) (sorted_head nat_cmp e.0 (keys_of line) sorted))
      ∙ others
  | inr outside ↦
      let others : between told drained line ≡ (p, f) ∷ rest = ap (λ b. cond b (e ∷ between told drained line) (between told drained line)) (sym outside) ∙ is in
      let low = between_low told drained p (passes_first (λ d. is_between told drained d.0) line rest (p, f) others) in
      let out : is_between (p + 1) drained e.0 ≡ false = false_from_ne_true (is_between (p + 1) drained e.0) (λ h.
      let a = between_low (p + 1) drained e.0 h in let b = between_high (p + 1) drained e.0 h in
      false≢true (sym outside ∙ between_yes told drained e.0 (omega (arith, low, a)) b)) in
      ap (λ b. cond b (e ∷ between (p + 1) drained line) (between (p + 1) drained line)) out
      ∙ between-rest told drained p f rest line (sorted_tail nat_cmp e.0 (keys_of line) sorted) others
]

-- the first of a list
pub first_of : (es : Places) (e : ℕ × FlowId) → Some e ≡ slice_get es 0 → es ≡ e ∷ drop 1 es
first_of [] e is = absurd (none-some e (sym is))
first_of (d ∷ es) e is = ap (λ x. x ∷ es) (same_Some d e (sym is))

pub first_high : (told drained : ℕ) (e : ℕ × FlowId) (rest line : Places) → between told drained line ≡ e ∷ rest → e.0 < drained
first_high told drained e rest line is = between_high told drained e.0 (passes_first (λ d. is_between told drained d.0) line rest e is)

pub no_first : (es : Places) → None ≡ slice_get es 0 → es ≡ []
no_first [] is = refl
no_first (e ∷ es) is = absurd (none-some e is)

-- ---- what a buffer's line is after one left
-- the only one in line
pub leaves_none : (place : ℕ) (flow : FlowId) (line : Places) → length line ≡ 1 → at_place place line ≡ Some flow → [] ≡ remove_entry (is_at (nat_cmp place)) line
leaves_none place flow [] one at = absurd (omega (arith, one))
leaves_none place flow (e ∷ []) one at = elim (cases_Bool (nat_eq place e.0)) [
  | inl here ↦ sym (ap (λ b. cond b [] (e ∷ [])) (eq_by_place place e.0 ∙ here))
  | inr past ↦ absurd (none-some flow (ap (λ b. cond b (Some e.1) None) (sym past) ∙ at))
]
leaves_none place flow (e ∷ d ∷ line) one at = absurd (omega (arith, one))

pub line_left : (told drained place : ℕ) (flow : FlowId) (above : Bool) (line new : Places) → new ≡ remove_entry (is_at (nat_cmp place)) line →
    at_place place line ≡ Some flow → times flow (values_of line) ≤ 1 →
    ◌≡◌ {A = Line} (record { above = above; watchers = new; pending = between told drained new }) (left flow (record { above = above; watchers = line; pending = between told drained line }))
line_left told drained place flow above line new is at once =
    let watchers : new ≡ others_of flow line = is ∙ line-leaves place flow line at once in
    let pending : between told drained new ≡ others_of flow (between told drained line) = ap (between told drained) is ∙ part-leaves (is_between told drained) place flow line at once in
    λ i. record { above = above; watchers = watchers i; pending = pending i }
