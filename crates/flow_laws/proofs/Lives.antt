-- The exchanges that live, each once, and their flows.
use Rattle.flow_rules.specs.declared.ids.FlowId.{FlowId}
use Rattle.flow_laws.proofs.Lists.{by_case, count_append, count_cons, flow_is, flow_same, number_is, one_if, or_left, or_none, or_right, or_true, same_number, swapped}
use Rattle.flow_laws.specs.Ways.{AreApart, HasWays}
use Rattle.std.proofs.Common.{ap, arith, refl, subst, sym, ◌∙◌}
use Rattle.std.proofs.lemmas.Bool.Decides.{nat_tests}
use Rattle.std.proofs.lemmas.List.Folds.{list_any-append}
use Rattle.std.specs.List.{AllByRecursion, list_any}
use Rattle.std.specs.Prelude.{Bool, List, [], count_by, false, filter, flat_map, if◌then◌else◌, nat_lt, not, true, ℕ, ◌&&◌, ◌++◌, ◌+◌, ◌==◌, ◌||◌, ◌∷◌, ◌≡◌}
use Rattle.tape_laws.specs.Dispatches.{has, live, started}
use Rattle.tape_laws.specs.Doomed.{LeavesDoomed}
use Rattle.tape_laws.specs.Flows.{same_flow}
use Rattle.tape_laws.specs.History.{EachFollows, History, Noted, Step}
use Rattle.tape_laws.specs.Setup.{Setup}
use Rattle.tape_laws.specs.Sources.{is_live, live_flows}
use Rattle.flow_notes.specs.declared.notes.Note.TheVariants as note

-- ---- numbers
abbrev pub EachOnce : List ℕ → Type 0
EachOnce xs = AreApart (λ x y. y == x) xs

pub has_more : (xs : List ℕ) (x y : ℕ) → has (xs ++ x ∷ []) y ≡ (has xs y || (x == y))
has_more xs x y = list_any-append (λ z. z == y) xs (x ∷ []) ∙ ap (λ b. has xs y || b) (or_false (x == y))
  where
    or_false : (b : Bool) → (b || false) ≡ b
    or_false true = refl
    or_false false = refl

neither : (a b : Bool) → a ≡ false → b ≡ false → (a || b) ≡ false
neither true b e f = cc
neither false b e f = f

once_more : (xs : List ℕ) (x : ℕ) → EachOnce xs → has xs x ≡ false → EachOnce (xs ++ x ∷ [])
once_more [] x a n = (refl, tt)
once_more (y ∷ ys) x a n =
    let k = or_none (y == x) (has ys x) n in
    (has_more ys x y ∙ neither (has ys y) (x == y) a.0 (swapped x y ∙ k.0), once_more ys x a.1 k.1)

-- what is left out of a list wasn't lost
none_left : (p : ℕ → Bool) (xs : List ℕ) (x : ℕ) → has xs x ≡ false → has (filter p xs) x ≡ false
none_left p [] x e = refl
none_left p (y ∷ ys) x e = let k = or_none (y == x) (has ys x) e in pick (p y) k.0 (none_left p ys x k.1)
  where
    pick : (b : Bool) → (y == x) ≡ false → has (filter p ys) x ≡ false → has (if b then y ∷ filter p ys else filter p ys) x ≡ false
    pick true d r = neither (y == x) (has (filter p ys) x) d r
    pick false d r = r

once_left : (p : ℕ → Bool) (xs : List ℕ) → EachOnce xs → EachOnce (filter p xs)
once_left p [] a = tt
once_left p (x ∷ xs) a = pick (p x) (once_left p xs a.1)
  where
    pick : (b : Bool) → EachOnce (filter p xs) → EachOnce (if b then x ∷ filter p xs else filter p xs)
    pick true r = (none_left p xs x a.0, r)
    pick false r = r

-- what is left without x was there and isn't x, and what was there and isn't x is left
pub has_without : (xs : List ℕ) (x y : ℕ) → has (filter (λ z. not (z == x)) xs) y ≡ (not (y == x) && has xs y)
has_without [] x y = none (not (y == x))
  where
    none : (b : Bool) → false ≡ (b && false)
    none true = refl
    none false = refl
has_without (z ∷ zs) x y = at (z == x) (z == y) refl refl (has_without zs x y)
  where
    at : (a b : Bool) → (z == x) ≡ a → (z == y) ≡ b → has (filter (λ w. not (w == x)) zs) y ≡ (not (y == x) && has zs y)
        → has (if not a then z ∷ filter (λ w. not (w == x)) zs else filter (λ w. not (w == x)) zs) y ≡ (not (y == x) && (b || has zs y))
    at true true e f r = let d : (y == x) ≡ true = ap (λ v. v == x) (sym (number_is z y f)) ∙ e in r ∙ drops (y == x) (has zs y) d
      where
        drops : (c k : Bool) → c ≡ true → (not c && k) ≡ (not c && (true || k))
        drops true k e = refl
        drops false k e = cc
    at true false e f r = r
    at false true e f r = let d : (y == x) ≡ false = ap (λ v. v == x) (sym (number_is z y f)) ∙ e in keeps (y == x) d _ f
      where
        keeps : (c : Bool) → c ≡ false → (t : Bool) → t ≡ true → (t || has (filter (λ w. not (w == x)) zs) y) ≡ (not c && (true || has zs y))
        keeps true e t f = cc
        keeps false e true f = refl
        keeps false e false f = cc
    at false false e f r = ap (λ t. t || has (filter (λ w. not (w == x)) zs) y) f ∙ r

-- ---- the live ones: each once, and each was started
pub record AreBorn (lives begun : List ℕ) : Type 0 where
  pub once : EachOnce lives
  pub born : (x : ℕ) → has begun x ≡ false → has lives x ≡ false

abbrev pub Lives : {Mark : Type 0} → History Mark → Type 0
Lives h = AreBorn (live h) (started h)

begins : (lives begun : List ℕ) (x : ℕ) → AreBorn lives begun → has begun x ≡ false → AreBorn (lives ++ x ∷ []) (begun ++ x ∷ [])
begins lives begun x r new = record {
  once = once_more lives x r.once (r.born x new);
  born = λ y e. let k = or_none (has begun y) (x == y) (sym (has_more begun x y) ∙ e) in has_more lives x y ∙ neither (has lives y) (x == y) (r.born y k.0) k.1;
}

dies : (lives begun : List ℕ) (x : ℕ) → AreBorn lives begun → AreBorn (filter (λ y. not (y == x)) lives) begun
dies lives begun x r = record {
  once = once_left (λ y. not (y == x)) lives r.once;
  born = λ y e. none_left (λ z. not (z == x)) lives y (r.born y e);
}

lives_on : {Mark : Type 0} (step : Step Mark) (h : History Mark) → LeavesDoomed step h → Lives h → Lives (step ∷ h)
lives_on (Noted (note.Start x c s d)) h l r = begins (live h) (started h) x r l
lives_on (Noted (note.Doom x why)) h l r = dies (live h) (started h) x r
lives_on step h l r = r

pub lives : {Mark : Type 0} (h : History Mark) → EachFollows LeavesDoomed h → Lives h
lives [] l = record { once = tt; born = λ x e. refl }
lives (step ∷ h) l = lives_on step h l.0 (lives h l.1)

-- ---- the flows of an exchange, and the live flows
module _ {Mark : Type 0} (setup : Setup Mark) (ways : HasWays setup) where
  -- the flow is one of its exchange's
  abbrev pub is_of : FlowId → Bool
  is_of f = list_any (same_flow f) (setup.flows f.exchange)

  strange : (f : FlowId) (fs : List FlowId) (x : ℕ) → AllByRecursion (λ g. g.exchange ≡ x) fs → (x == f.exchange) ≡ false → count_by (same_flow f) fs ≡ 0
  strange f [] x a d = refl
  strange f (g ∷ gs) x a d = count_cons (same_flow f) g gs ∙ none (same_flow f g) refl (strange f gs x a.1 d)
    where
      none : (b : Bool) → same_flow f g ≡ b → count_by (same_flow f) gs ≡ 0 → one_if (same_flow f g) + count_by (same_flow f) gs ≡ 0
      none true e r = let k : (x == f.exchange) ≡ true = ap (λ v. v == f.exchange) (sym a.0 ∙ ap (λ v. v.exchange) (sym (flow_is f g e))) ∙ same_number f.exchange in cc
      none false e r = zero (same_flow f g) e _ r
        where
          zero : (b : Bool) → b ≡ false → (k : ℕ) → k ≡ 0 → one_if b + k ≡ 0
          zero true e k f = cc
          zero false e k f = omega (arith, f)

  -- each stands once
  apart_once : (f : FlowId) (fs : List FlowId) → AreApart same_flow fs → count_by (same_flow f) fs ≡ one_if (list_any (same_flow f) fs)
  apart_once f [] a = refl
  apart_once f (g ∷ gs) a = count_cons (same_flow f) g gs ∙ at (same_flow f g) refl (apart_once f gs a.1)
    where
      at : (b : Bool) → same_flow f g ≡ b → count_by (same_flow f) gs ≡ one_if (list_any (same_flow f) gs)
          → one_if (same_flow f g) + count_by (same_flow f) gs ≡ one_if (same_flow f g || list_any (same_flow f) gs)
      at true e r = let n : list_any (same_flow f) gs ≡ false = ap (λ v. list_any (same_flow v) gs) (flow_is f g e) ∙ a.0 in own (same_flow f g) _ e n _ r
        where
          own : (b l : Bool) → b ≡ true → l ≡ false → (k : ℕ) → k ≡ one_if l → one_if b + k ≡ one_if (b || l)
          own true true e n k r = cc
          own true false e n k r = omega (arith, r)
          own false l e n k r = cc
      at false e r = other (same_flow f g) (list_any (same_flow f) gs) e _ r
        where
          other : (b l : Bool) → b ≡ false → (k : ℕ) → k ≡ one_if l → one_if b + k ≡ one_if (b || l)
          other true l e k r = cc
          other false l e k r = omega (arith, r)

  pub count_of : (f : FlowId) (x : ℕ) → count_by (same_flow f) (setup.flows x) ≡ one_if ((x == f.exchange) && is_of f)
  count_of f x = at (x == f.exchange) refl
    where
      at : (b : Bool) → (x == f.exchange) ≡ b → count_by (same_flow f) (setup.flows x) ≡ one_if (b && is_of f)
      at true e = ap (λ v. count_by (same_flow f) (setup.flows v)) (number_is x f.exchange e) ∙ apart_once f (setup.flows f.exchange) (ways.apart f.exchange)
      at false e = strange f (setup.flows x) x (ways.own x) e

  -- how often a flow is among those of some exchanges
  pub count_among : (f : FlowId) (xs : List ℕ) → EachOnce xs → count_by (same_flow f) (flat_map setup.flows xs) ≡ one_if (has xs f.exchange && is_of f)
  count_among f [] a = refl
  count_among f (x ∷ xs) a =
      count_append (same_flow f) (setup.flows x) (flat_map setup.flows xs)
      ∙ (ap (λ k. k + count_by (same_flow f) (flat_map setup.flows xs)) (count_of f x)
      ∙ at (x == f.exchange) refl (count_among f xs a.1))
    where
      at : (b : Bool) → (x == f.exchange) ≡ b → count_by (same_flow f) (flat_map setup.flows xs) ≡ one_if (has xs f.exchange && is_of f)
          → one_if ((x == f.exchange) && is_of f) + count_by (same_flow f) (flat_map setup.flows xs) ≡ one_if (((x == f.exchange) || has xs f.exchange) && is_of f)
      at true e r = let n : has xs f.exchange ≡ false = ap (has xs) (sym (number_is x f.exchange e)) ∙ a.0 in own (x == f.exchange) (has xs f.exchange) (is_of f) e n _ r
        where
          own : (b l i : Bool) → b ≡ true → l ≡ false → (k : ℕ) → k ≡ one_if (l && i) → one_if (b && i) + k ≡ one_if ((b || l) && i)
          own true true i e n k r = cc
          own true false i e n k r = omega (arith, r)
          own false l i e n k r = cc
      at false e r = other (x == f.exchange) (has xs f.exchange) (is_of f) e _ r
        where
          other : (b l i : Bool) → b ≡ false → (k : ℕ) → k ≡ one_if (l && i) → one_if (b && i) + k ≡ one_if ((b || l) && i)
          other true l i e k r = cc
          other false l i e k r = omega (arith, r)

  -- a flow is live where its exchange is, and then it stands once
  pub live_once : (f : FlowId) (h : History Mark) → Lives h → count_by (same_flow f) (live_flows setup h) ≡ one_if (has (live h) f.exchange && is_of f)
  live_once f h r = count_among f (live h) r.once

  pub is_live_is : (f : FlowId) (h : History Mark) → Lives h → is_live setup f h ≡ (has (live h) f.exchange && is_of f)
  is_live_is f h r = same (is_live setup f h) _ (any_count (live_flows setup h)) (live_once f h r)
    where
      any_count : (fs : List FlowId) → list_any (same_flow f) fs ≡ nat_lt 0 (count_by (same_flow f) fs)
      any_count [] = refl
      any_count (g ∷ gs) = at (same_flow f g) refl (any_count gs)
        where
          some : (k n : ℕ) → n ≡ 1 + k → true ≡ nat_lt 0 n
          some k n e = grind (arith, nat_tests)

          none : (k n : ℕ) → n ≡ 0 + k → nat_lt 0 k ≡ nat_lt 0 n
          none k n e = grind (arith, nat_tests)

          at : (b : Bool) → same_flow f g ≡ b → list_any (same_flow f) gs ≡ nat_lt 0 (count_by (same_flow f) gs)
              → (same_flow f g || list_any (same_flow f) gs) ≡ nat_lt 0 (count_by (same_flow f) (g ∷ gs))
          at true e r = ap (λ b. b || list_any (same_flow f) gs) e ∙ some _ _ (count_cons (same_flow f) g gs ∙ ap (λ b. one_if b + count_by (same_flow f) gs) e)
          at false e r = ap (λ b. b || list_any (same_flow f) gs) e ∙ (r ∙ none _ _ (count_cons (same_flow f) g gs ∙ ap (λ b. one_if b + count_by (same_flow f) gs) e))

      same : (b c : Bool) → {k : ℕ} → b ≡ nat_lt 0 k → k ≡ one_if c → b ≡ c
      same b true {k} e f = e ∙ ap (nat_lt 0) f
      same b false {k} e f = e ∙ ap (nat_lt 0) f

-- what holds of each live flow
pub each_of : (P : FlowId → Type 0) (fs : List FlowId) → ((f : FlowId) → list_any (same_flow f) fs ≡ true → P f) → AllByRecursion P fs
each_of P [] a = tt
each_of P (f ∷ fs) a = (a f (or_left (same_flow f f) _ (flow_same f)), each_of P fs (λ g e. a g (or_right (same_flow g f) _ e)))

pub each_at : (P : FlowId → Type 0) (fs : List FlowId) (f : FlowId) → AllByRecursion P fs → list_any (same_flow f) fs ≡ true → P f
each_at P [] f a e = cc
each_at P (g ∷ gs) f a e = by_case (same_flow f g) (λ t. subst P (sym (flow_is f g t)) a.0) (λ d. each_at P gs f a.1 (or_true (same_flow f g) _ e d))
