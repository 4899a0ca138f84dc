-- What is seen of the timers that `scaled_timer` keeps.
use Rattle.std.proofs.Common.{◌≡◌, ℕ, zero, suc, ◌+◌, ◌<◌, Bool, true, false, cond, not, ◌&&◌, ◌||◌, List, [], ◌∷◌, map, filter, refl, sym, ap, ◌∙◌, arith}
use Rattle.std.specs.Prelude.{◌==◌, nat_le, nat_lt, Option, Some, is_some}
use Rattle.std.specs.List.{AllByRecursion, list_any}
use denote.RawPtr.{Ptr}
use Rattle.flow_rules.specs.declared.causes.FireKind.{FireKind}
use Rattle.flow_rules.specs.declared.causes.FireKind.TheVariants.{Route, StreamIdle, ConnectionIdle}
use Rattle.scaled_timer.specs.declared.timers.TimerKind.{TimerKind}
use Rattle.scaled_timer.specs.Due as scaled
use Rattle.scaled_timer.specs.Due.{Armed as Token, delay_at, due_timers, waiting_timers}
use Rattle.scaled_timer.specs.Order.{placed, in_order}
use Rattle.scaled_timer.specs.Timing.{firing}
use Rattle.scaled_timer.proofs.Sorting.{all-in_order}
use Rattle.wire_timers.specs.Kinds.{number_of, kind_of}
use Rattle.wire_timers.specs.Armed.{is_of, without}
use Rattle.wire_timers.specs.Due.{due_moment, due_of}
use Rattle.wire_timers.specs.Told.{told_of}
use Rattle.wire_timers.specs.Held.{Key, key_of, same_key, armed_of}
use Rattle.wire_timers.proofs.Finding.{look, others, all-filter}

abbrev Known : List Token → Type 0
Known xs = AllByRecursion (λ (a : Token). a.kind < 3) xs

known-number : (k : ℕ) → k < 3 → number_of (kind_of k) ≡ k
known-number zero h = refl
known-number (suc zero) h = refl
known-number (suc (suc k)) h = omega (arith, h)

pub kind-number : (k : FireKind) → kind_of (number_of k) ≡ k
kind-number Route = refl
kind-number StreamIdle = refl
kind-number ConnectionIdle = refl

-- ---- by kind and number
of-key : (kind : FireKind) (id : ℕ) (a : Token) → a.kind < 3 → is_of kind id (armed_of a) ≡ same_key (number_of kind, id) (key_of a)
of-key kind id a h = ap (λ n. (number_of kind == n) && (id == a.id)) (known-number a.kind h)

seen_either : (b : Bool) (a : Token) (xs : List Token) → map armed_of (cond (not b) (a ∷ xs) xs) ≡ cond (not b) (armed_of a ∷ map armed_of xs) (map armed_of xs)
seen_either true a xs = refl
seen_either false a xs = refl

pub seen-others : (kind : FireKind) (id : ℕ) (xs : List Token) → Known xs → map armed_of (others (number_of kind, id) xs) ≡ without kind id (map armed_of xs)
seen-others kind id [] h = refl
seen-others kind id (a ∷ xs) h =
    let k : Key = (number_of kind, id) in
    seen_either (same_key k (key_of a)) a (others k xs)
    ∙ ap (λ l. cond (not (same_key k (key_of a))) (armed_of a ∷ l) l) (seen-others kind id xs h.1)
    ∙ sym (ap (λ b. cond (not b) (armed_of a ∷ without kind id (map armed_of xs)) (without kind id (map armed_of xs))) (of-key kind id a h.0))

some_either : (b : Bool) (p : Ptr) (o : Option Ptr) → is_some (cond b (Some p) o) ≡ (b || is_some o)
some_either true p o = refl
some_either false p o = refl

pub seen-any : (kind : FireKind) (id : ℕ) (xs : List Token) → Known xs → is_some (look (number_of kind, id) xs) ≡ list_any (is_of kind id) (map armed_of xs)
seen-any kind id [] h = refl
seen-any kind id (a ∷ xs) h =
    let k : Key = (number_of kind, id) in
    some_either (same_key k (key_of a)) a.timer (look k xs)
    ∙ ap (λ b. same_key k (key_of a) || b) (seen-any kind id xs h.1)
    ∙ sym (ap (λ b. b || list_any (is_of kind id) (map armed_of xs)) (of-key kind id a h.0))

-- ---- in the order in which they are due
module _ {X Y : Type 0} (f : X → Y) where
  picked : (b : Bool) (x : X) (xs : List X) → map f (cond b (x ∷ xs) xs) ≡ cond b (f x ∷ map f xs) (map f xs)
  picked true x xs = refl
  picked false x xs = refl

  map-filter : (p : X → Bool) (r : Y → Bool) (xs : List X) → AllByRecursion (λ x. r (f x) ≡ p x) xs → map f (filter p xs) ≡ filter r (map f xs)
  map-filter p r [] h = refl
  map-filter p r (x ∷ xs) h =
      picked (p x) x (filter p xs) ∙ ap (λ l. cond (p x) (f x ∷ l) l) (map-filter p r xs h.1) ∙ sym (ap (λ b. cond b (f x ∷ filter r (map f xs)) (filter r (map f xs))) h.0)

  module _ (k : X → ℕ) (j : Y → ℕ) where
    abbrev Same : X → Type 0
    Same x = j (f x) ≡ k x

    put : (b : Bool) (x y : X) (ys zs : List X) → map f (cond b (y ∷ zs) (x ∷ y ∷ ys)) ≡ cond b (f y ∷ map f zs) (f x ∷ f y ∷ map f ys)
    put true x y ys zs = refl
    put false x y ys zs = refl

    map-placed : (x : X) (ys : List X) → Same x → AllByRecursion Same ys → map f (placed k x ys) ≡ placed j (f x) (map f ys)
    unfolding placed
    map-placed x [] s h = refl
    map-placed x (y ∷ ys) s h =
        let b = nat_lt (k y) (k x) in
        put b x y ys (placed k x ys)
        ∙ ap (λ l. cond b (f y ∷ l) (f x ∷ f y ∷ map f ys)) (map-placed x ys s h.1)
        ∙ (λ i. cond (nat_lt (sym h.0 i) (sym s i)) (f y ∷ placed j (f x) (map f ys)) (f x ∷ f y ∷ map f ys))

    pub map-in_order : (xs : List X) → AllByRecursion Same xs → map f (in_order k xs) ≡ in_order j (map f xs)
    unfolding in_order
    map-in_order [] h = refl
    map-in_order (x ∷ xs) h = map-placed x (in_order k xs) h.0 (all-in_order k Same xs h.1) ∙ ap (placed j (f x)) (map-in_order xs h.1)

-- ---- when they are due
module _ (kinds : List TimerKind) (ppm : ℕ) where
  delay-is : (k : ℕ) → k < 3 → delay_at kinds ppm (number_of (kind_of k)) ≡ delay_at kinds ppm k
  delay-is k h = ap (delay_at kinds ppm) (known-number k h)

  moments : (xs : List Token) → Known xs → AllByRecursion (λ (a : Token). due_moment kinds ppm (armed_of a) ≡ scaled.due_moment kinds ppm a) xs
  moments [] h = tt
  moments (a ∷ xs) h = (ap (λ d. a.at + d) (delay-is a.kind h.0), moments xs h.1)

  module _ (now : ℕ) where
    tests : (xs : List Token) → Known xs → AllByRecursion (λ (a : Token). nat_le (due_moment kinds ppm (armed_of a)) now ≡ scaled.is_due kinds ppm now a) xs
    tests [] h = tt
    tests (a ∷ xs) h = (ap (λ d. nat_le (a.at + d) now) (delay-is a.kind h.0), tests xs h.1)

    others_too : (xs : List Token) → Known xs → AllByRecursion (λ (a : Token). not (nat_le (due_moment kinds ppm (armed_of a)) now) ≡ not (scaled.is_due kinds ppm now a)) xs
    others_too [] h = tt
    others_too (a ∷ xs) h = (ap (λ d. not (nat_le (a.at + d) now)) (delay-is a.kind h.0), others_too xs h.1)

    pub seen-waiting : (xs : List Token) → Known xs → map armed_of (waiting_timers kinds ppm now xs) ≡ filter (λ a. not (nat_le (due_moment kinds ppm a) now)) (map armed_of xs)
    seen-waiting xs h = map-filter armed_of (λ a. not (scaled.is_due kinds ppm now a)) (λ a. not (nat_le (due_moment kinds ppm a) now)) xs (others_too xs h)

    told-due : (xs : List Token) → map told_of (map firing xs) ≡ map due_of (map armed_of xs)
    told-due [] = refl
    told-due (a ∷ xs) = ap (λ l. due_of (armed_of a) ∷ l) (told-due xs)

    pub seen-due : (xs : List Token) → Known xs → map told_of (map firing (due_timers kinds ppm now xs)) ≡ map due_of (in_order (due_moment kinds ppm) (filter (λ a. nat_le (due_moment kinds ppm a) now) (map armed_of xs)))
    seen-due xs h =
        let test = scaled.is_due kinds ppm now in
        told-due (due_timers kinds ppm now xs)
        ∙ ap (map due_of) (map-in_order armed_of (scaled.due_moment kinds ppm) (due_moment kinds ppm) (filter test xs) (moments (filter test xs) (all-filter test (λ (a : Token). a.kind < 3) xs h))
        ∙ ap (in_order (due_moment kinds ppm)) (map-filter armed_of test (λ a. nat_le (due_moment kinds ppm a) now) xs (tests xs h)))
