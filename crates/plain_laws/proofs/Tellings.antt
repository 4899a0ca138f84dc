-- How often a stream stands among flows that are to be told, and among pauses that are due.
use Rattle.std.proofs.Math.Nat.{zero-add}
use Rattle.std.proofs.lemmas.Bool.{or_left, or_right}
use Rattle.flow_rules.specs.declared.ids.BufferId.{BufferId}
use Rattle.flow_rules.specs.declared.ids.FlowId.{FlowId}
use Rattle.plain_laws.proofs.Counting.{one_if, told_of}
use Rattle.plain_laws.proofs.Rising.{rising_apart}
use Rattle.plain_laws.proofs.Streams.{by_case, differs_back, has_one, number_is, same_number, same_request}
use Rattle.plain_laws.specs.Owing.{due_if, owed_times, pauses_for}
use Rattle.plain_laws.specs.Regular.{IsLiveFlow, IsRising}
use Rattle.std.proofs.Common.{ap, arith, refl, subst, ◌∙◌}
use Rattle.std.proofs.lemmas.List.Sums.{sum_by-cons}
use Rattle.std.specs.List.{AllByRecursion}
use Rattle.std.specs.Prelude.{Bool, List, [], drop, false, map, suc, true, zero, ℕ, ◌&&◌, ◌+◌, ◌==◌, ◌||◌, ◌∷◌, ◌≡◌}
use Rattle.tape_laws.specs.Dispatches.{has}
use Rattle.tape_laws.specs.Flows.{request, same_flow}
use Rattle.tape_laws.specs.Pauses.{Owed}

pub told_cons : (x : ℕ) (f : FlowId) (fs : List FlowId) → told_of x (f ∷ fs) ≡ one_if (same_flow (request x) f) + told_of x fs
told_cons x f fs = sum_by-cons (λ (g : FlowId). one_if (same_flow (request x) g)) f fs

pub one_other : (x y : ℕ) → (x == y) ≡ false → one_if (same_flow (request y) (request x)) ≡ 0
one_other x y e = cc (differs_back x y e)

pub one_own : (x : ℕ) → one_if (same_flow (request x) (request x)) ≡ 1
one_own x = ap one_if (same_request x)

pub told_own : (x : ℕ) (fs : List FlowId) → told_of x (request x ∷ fs) ≡ 1 + told_of x fs
told_own x fs = cc (told_cons x (request x) fs, one_own x)

pub told_other : (x y : ℕ) (fs : List FlowId) → (x == y) ≡ false → told_of y (request x ∷ fs) ≡ told_of y fs
told_other x y fs e = cc (told_cons y (request x) fs, one_other x y e, zero-add (told_of y fs))

-- each stream of a rising list stands once among the flows of all
pub told_all : (xs : List ℕ) (x : ℕ) → IsRising xs → told_of x (map request xs) ≡ one_if (has xs x)
told_all [] x r = refl
told_all (y ∷ ys) x r = by_case (y == x) (λ t. own (number_is y x t) (told_all ys y r.1)) (λ d. cc (told_other y x (map request ys) d, told_all ys x r.1))
  where
    more : (m : ℕ) → m ≡ 0 → 1 + m ≡ 1
    more m e = omega (arith, e)

    own : y ≡ x → told_of y (map request ys) ≡ one_if (has ys y) → told_of x (map request (y ∷ ys)) ≡ one_if (has (y ∷ ys) x)
    own e later =
        subst (λ (v : ℕ). told_of v (map request (y ∷ ys)) ≡ one_if (has (y ∷ ys) v)) e (told_own y (map request ys) ∙ more _ (cc (rising_apart y ys r.0)) ∙ (cc (same_number y)))

-- ---- the pauses

pub owed_cons : (x : ℕ) (o : Owed) (due : List Owed) → owed_times x (o ∷ due) ≡ one_if (same_flow o.flow (request x)) + owed_times x due
owed_cons x o due = sum_by-cons (λ (p : Owed). one_if (same_flow p.flow (request x))) o due

-- each stream of a rising list is paused once
pub owed_all : (b : BufferId) (xs : List ℕ) (x : ℕ) → IsRising xs → owed_times x (pauses_for b xs) ≡ one_if (has xs x)
owed_all b [] x r = refl
owed_all b (y ∷ ys) x r =
    owed_cons x (record { flow = request y; buffer = b }) (pauses_for b ys) ∙ ap (λ n. one_if (same_flow (request y) (request x)) + n) (owed_all b ys x r.1)
    ∙ by_case (y == x) (λ t. own (number_is y x t)) (other (y == x) (has ys x))
  where
    other : (c h : Bool) → c ≡ false → one_if (c && true) + one_if h ≡ one_if (c || h)
    other true h e = cc
    other false h e = zero-add (one_if h)

    whole : (c h : Bool) → c ≡ true → h ≡ false → one_if (c && true) + one_if h ≡ one_if (c || h)
    whole true true e f = cc
    whole true false e f = refl
    whole false h e f = cc

    own : y ≡ x → one_if (same_flow (request y) (request x)) + one_if (has ys x) ≡ one_if (has (y ∷ ys) x)
    own e =
        subst (λ (v : ℕ). one_if (same_flow (request y) (request v)) + one_if (has ys v) ≡ one_if (has (y ∷ ys) v)) e (whole (y == y) (has ys y) (same_number y) (rising_apart y ys r.0))

pub owed_if : (a : Bool) (b : BufferId) (xs : List ℕ) (x : ℕ) → IsRising xs → has xs x ≡ true → owed_times x (due_if a b xs) ≡ one_if a
owed_if true b xs x r e = owed_all b xs x r ∙ ap one_if e
owed_if false b xs x r e = refl

pub owed_one : (a : Bool) (b : BufferId) (x : ℕ) → owed_times x (due_if a b (x ∷ [])) ≡ one_if a
owed_one a b x = owed_if a b (x ∷ []) x (tt, tt) (has_one x x ∙ same_number x)

pub owed_none : (a : Bool) (b : BufferId) (x y : ℕ) → (x == y) ≡ false → owed_times y (due_if a b (x ∷ [])) ≡ 0
owed_none true b x y e = cc (owed_all b (x ∷ []) y (tt, tt), has_one x y)
owed_none false b x y e = refl

-- the pauses of live streams are of live flows
pub all_owed : (b : BufferId) (xs ys : List ℕ) → ((x : ℕ) → has xs x ≡ true → has ys x ≡ true) → AllByRecursion (λ (o : Owed). IsLiveFlow ys o.flow) (pauses_for b xs)
all_owed b [] ys f = tt
all_owed b (x ∷ xs) ys f =
    (record { is = refl; live = f x (or_left (x == x) (has xs x) (same_number x)) }, all_owed b xs ys (λ y e. f y (or_right (x == y) (has xs y) e)))

pub live_owed : (a : Bool) (b : BufferId) (xs ys : List ℕ) → ((x : ℕ) → has xs x ≡ true → has ys x ≡ true) → AllByRecursion (λ (o : Owed). IsLiveFlow ys o.flow) (due_if a b xs)
live_owed true b xs ys f = all_owed b xs ys f
live_owed false b xs ys f = tt

-- ---- flows that stay live

pub live_flows_kept : (xs ys : List ℕ) (fs : List FlowId) → ((x : ℕ) → has xs x ≡ true → has ys x ≡ true) → AllByRecursion (IsLiveFlow xs) fs → AllByRecursion (IsLiveFlow ys) fs
live_flows_kept xs ys [] f a = tt
live_flows_kept xs ys (g ∷ gs) f a = (record { is = a.0.is; live = f g.exchange a.0.live }, live_flows_kept xs ys gs f a.1)

pub live_flows_drop : (n : ℕ) (xs : List ℕ) (fs : List FlowId) → AllByRecursion (IsLiveFlow xs) fs → AllByRecursion (IsLiveFlow xs) (drop n fs)
live_flows_drop zero xs fs a = a
live_flows_drop (suc n) xs [] a = tt
live_flows_drop (suc n) xs (f ∷ fs) a = live_flows_drop n xs fs a.1

pub all_requests : (xs ys : List ℕ) → ((x : ℕ) → has xs x ≡ true → has ys x ≡ true) → AllByRecursion (IsLiveFlow ys) (map request xs)
all_requests [] ys f = tt
all_requests (x ∷ xs) ys f =
    (record { is = refl; live = f x (or_left (x == x) (has xs x) (same_number x)) }, all_requests xs ys (λ y e. f y (or_right (x == y) (has xs y) e)))
