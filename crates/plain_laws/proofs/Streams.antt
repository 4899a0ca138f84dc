-- Streams told apart by their numbers, and what holds of each.
use Rattle.flow_rules.specs.declared.ids.FlowId.{FlowId}
use Rattle.std.proofs.Math.Bool.{or-false}
use Rattle.std.proofs.Common.{ap, arith, refl, subst, sym, ◌∙◌}
use Rattle.std.proofs.lemmas.Bool.{and_parts, not-true, or_left, or_parts, or_right}
use Rattle.std.proofs.lemmas.Bool.Decides.{nat_tests}
use Rattle.std.proofs.lemmas.List.Folds.{list_any-append}
use Rattle.std.proofs.lemmas.Map.Views.{any-filter_same}
use Rattle.std.specs.List.{AllByRecursion, list_any}
use Rattle.std.specs.Prelude.{Bool, List, [], false, filter, flat_map, if◌then◌else◌, not, true, ℕ, ◌&&◌, ◌++◌, ◌==◌, ◌||◌, ◌∷◌, ◌≡◌}
use Rattle.plain_laws.specs.Words.{Past, Alive}
use Rattle.tape_laws.specs.Dispatches.{has, live}
use Rattle.tape_laws.specs.Flows.{request, same_flow}
use Rattle.tape_laws.specs.Plain.{plain_setup}
use Rattle.tape_laws.specs.Sources.{EachLive, is_live}
use Rattle.tape_laws.specs.declared.PlainLimits.{PlainLimits}

pub by_case : {A : Type 0} (b : Bool) → (b ≡ true → A) → (b ≡ false → A) → A
by_case true f g = f refl
by_case false f g = g refl

pub number_is : (a b : ℕ) → (a == b) ≡ true → a ≡ b
number_is a b e = grind (arith, nat_tests)

pub same_number : (x : ℕ) → (x == x) ≡ true
same_number x = grind (arith, nat_tests)

pub swapped : (a b : ℕ) → (a == b) ≡ (b == a)
swapped a b = grind (arith, nat_tests)

pub differs_back : (a b : ℕ) → (a == b) ≡ false → (b == a) ≡ false
differs_back a b e = grind (arith, nat_tests)

pub not_both : {A : Type 0} (b : Bool) → b ≡ true → b ≡ false → A
not_both true e f = cc
not_both false e f = cc

-- what holds of x and of every other number holds of y
pub own_or_other : (P : ℕ → Type 0) (x y : ℕ) → P x → ((x == y) ≡ false → P y) → P y
own_or_other P x y own other = by_case (x == y) (λ e. subst P (number_is x y e) own) other

pub same_request : (x : ℕ) → same_flow (request x) (request x) ≡ true
same_request x = cc (same_number x)

-- ---- which numbers a list has

pub has_one : (x y : ℕ) → has (x ∷ []) y ≡ (x == y)
has_one x y = or-false (x == y)

pub has_more : (xs : List ℕ) (x y : ℕ) → has (xs ++ x ∷ []) y ≡ (has xs y || (x == y))
has_more xs x y = list_any-append (λ z. z == y) xs (x ∷ []) ∙ ap (λ b. has xs y || b) (has_one x y)

pub or_true : (a b : Bool) → (a || b) ≡ true → a ≡ false → b ≡ true
or_true true b e f = cc
or_true false b e f = e

-- what is in a list that grew by x is x, or was there
module _ (xs : List ℕ) (x : ℕ) where
  pub has_was : (y : ℕ) → has (xs ++ x ∷ []) y ≡ true → (x == y) ≡ false → has xs y ≡ true
  has_was y e d = by_case (has xs y) (λ t. t) (λ f. not_both (x == y) (or_true (has xs y) (x == y) (sym (has_more xs x y) ∙ e) f) d)

  pub has_kept : (y : ℕ) → has xs y ≡ true → has (xs ++ x ∷ []) y ≡ true
  has_kept y e = has_more xs x y ∙ or_left (has xs y) (x == y) e

  pub has_last : has (xs ++ x ∷ []) x ≡ true
  has_last = has_more xs x x ∙ or_right (has xs x) (x == x) (same_number x)

  pub has_not : (y : ℕ) → has (xs ++ x ∷ []) y ≡ false → (has xs y ≡ false) × ((x == y) ≡ false)
  has_not y e = or_parts (has xs y) (x == y) (sym (has_more xs x y) ∙ e)

module _ (xs : List ℕ) (x y : ℕ) where
  has_without : has (filter (λ z. not (z == x)) xs) y ≡ (not (y == x) && has xs y)
  has_without = any-filter_same (λ z. z == y) (λ z. not (z == x)) (not (y == x)) (λ z t. cc (number_is z y t)) xs

  -- what is left without x was there, and isn't x
  pub has_left : has (filter (λ z. not (z == x)) xs) y ≡ true → (has xs y ≡ true) × ((x == y) ≡ false)
  has_left e = let k = and_parts (not (y == x)) (has xs y) (sym has_without ∙ e) in (k.1, differs_back y x (not-true (y == x) k.0))

  pub has_stays : has xs y ≡ true → (x == y) ≡ false → has (filter (λ z. not (z == x)) xs) y ≡ true
  has_stays e d = has_without ∙ both (not (y == x)) (has xs y) (ap not (differs_back x y d)) e
    where
      both : (a b : Bool) → a ≡ true → b ≡ true → (a && b) ≡ true
      both true b e f = f
      both false b e f = cc

  -- what isn't left wasn't there, or is x
  pub has_lost : has (filter (λ z. not (z == x)) xs) y ≡ false → (x == y) ≡ false → has xs y ≡ false
  has_lost e d = by_case (has xs y) (λ t. not_both _ (has_stays t d) e) (λ f. f)

-- a stream that was started isn't one that wasn't
pub apart_from : (xs : List ℕ) (s x : ℕ) → has xs s ≡ true → has xs x ≡ false → (s == x) ≡ false
apart_from xs s x is isnt = by_case (s == x) (λ t. not_both (has xs x) (rw (← number_is s x t) is) isnt) (λ f. f)

-- ---- what holds of each

pub all_of : (P : ℕ → Type 0) (xs : List ℕ) → ((x : ℕ) → has xs x ≡ true → P x) → AllByRecursion P xs
all_of P [] f = tt
all_of P (x ∷ xs) f = (f x (or_left (x == x) (has xs x) (same_number x)), all_of P xs (λ y e. f y (or_right (x == y) (has xs y) e)))

pub all_at : (P : ℕ → Type 0) (xs : List ℕ) (x : ℕ) → AllByRecursion P xs → has xs x ≡ true → P x
all_at P [] x a e = cc
all_at P (y ∷ ys) x a e = own_or_other P y x a.0 (λ d. all_at P ys x a.1 (or_true (y == x) (has ys x) e d))

pub each_request : (P : FlowId → Type 0) (xs : List ℕ) → ((x : ℕ) → has xs x ≡ true → P (request x)) → AllByRecursion P (flat_map (λ x. request x ∷ []) xs)
each_request P [] f = tt
each_request P (x ∷ xs) f = (f x (or_left (x == x) (has xs x) (same_number x)), each_request P xs (λ y e. f y (or_right (x == y) (has xs y) e)))

pub request_each : (P : FlowId → Type 0) (xs : List ℕ) (x : ℕ) → AllByRecursion P (flat_map (λ x. request x ∷ []) xs) → has xs x ≡ true → P (request x)
request_each P [] x a e = cc
request_each P (y ∷ ys) x a e = own_or_other (λ z. P (request z)) y x a.0 (λ d. request_each P ys x a.1 (or_true (y == x) (has ys x) e d))

-- what holds of each live stream's flow holds of each live flow
module _ (limits : PlainLimits) (P : FlowId → Type 0) (h : Past) where
  pub each_live : ((x : ℕ) → Alive h x → P (request x)) → EachLive (plain_setup limits) P h
  each_live f = each_request P (live h) f

  pub live_each : (x : ℕ) → EachLive (plain_setup limits) P h → Alive h x → P (request x)
  live_each x a e = request_each P (live h) x a e

-- the flow of a live stream is live
pub flow_is_live : (limits : PlainLimits) (x : ℕ) (h : Past) → Alive h x → is_live (plain_setup limits) (request x) h ≡ true
flow_is_live limits x h e = among (live h) e
  where
    among : (xs : List ℕ) → has xs x ≡ true → list_any (same_flow (request x)) (flat_map (λ y. request y ∷ []) xs) ≡ true
    among [] e = cc
    among (y ∷ ys) e =
        by_case (y == x) (λ t. or_left (same_flow (request x) (request y)) _ (cc (number_is y x t, same_request x)))
        (λ d. or_right (same_flow (request x) (request y)) _ (among ys (or_true (y == x) (has ys x) e d)))

-- ---- flows told apart by their names

bool_is : (a b : Bool) → (if a then b else not b) ≡ true → a ≡ b
bool_is true true e = refl
bool_is true false e = cc
bool_is false true e = cc
bool_is false false e = refl

pub flow_is : (f g : FlowId) → same_flow f g ≡ true → f ≡ g
flow_is f g e =
    let k = and_parts (f.exchange == g.exchange) (if f.back then g.back else not g.back) e in
    ap (λ (x : ℕ). let r : FlowId = record { exchange = x; back = f.back } in r) (number_is f.exchange g.exchange k.0)
    ∙ ap (λ (b : Bool). let r : FlowId = record { exchange = g.exchange; back = b } in r) (bool_is f.back g.back k.1)
