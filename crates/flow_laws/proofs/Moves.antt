-- What a move may carry: it leaves a place before the send buffer, behind which no source is above.
use Rattle.flow_rules.specs.declared.ids.FlowId.{FlowId}
use Rattle.flow_laws.proofs.Lists.{both, not_so, or_none}
use Rattle.flow_rules.specs.Kinds.{Hold as HoldKind, Kind, Meter as MeterKind, Send as SendKind, let_go}
use Rattle.flow_rules.specs.Moves.{is_free as is_free_at, last_free_to, later_above, may_release as releases}
use Rattle.flow_rules.specs.State.{FlowState, is_whole_at}
use Rattle.std.proofs.Common.{arith, refl, subst}
use Rattle.std.proofs.lemmas.Bool.Decides.{nat_tests}
use Rattle.std.specs.List.{AllByRecursion, list_any}
use Rattle.std.specs.Option.{option_map_or}
use Rattle.std.specs.Prelude.{Bool, List, None, Option, Some, [], false, if◌then◌else◌, length, min, nat_lt, not, slice_get, suc, true, zero, ℕ, ◌&&◌, ◌+◌, ◌-◌, ◌<◌, ◌==◌, ◌∷◌, ◌≡◌, ◌≤◌}
use Rattle.tape_laws.specs.History.{History}
use Rattle.tape_laws.specs.Quiet.{EachPlace}
use Rattle.tape_laws.specs.Release.{MayMove}
use Rattle.tape_laws.specs.Setup.{Setup}
use Rattle.tape_laws.specs.Sources.{sources}
use Rattle.tape_laws.specs.State.{state_of}
use Rattle.tape_laws.specs.Watermark.{above}
use Rattle.tape_laws.specs.World.{last_place, place}

least : (a b : ℕ) → min a b ≤ b
least a b = omega arith

-- a place lets go of no more than one move, and no more than it holds
let_go_least : (k : Kind) (w : Bool) (t n : ℕ) → let_go k w t n ≤ n
let_go_least HoldKind true t n = omega arith
let_go_least HoldKind false t n = omega arith
let_go_least MeterKind w t n = omega arith
let_go_least SendKind w t n = omega arith

releases_least : (flow : FlowState) (p : ℕ) → releases flow p ≤ min flow.quantum (flow.len p)
releases_least flow zero = at (flow.count == 0)
  where
    at : (b : Bool) → (if b then min flow.quantum (flow.len 0) else 0) ≤ min flow.quantum (flow.len 0)
    at true = omega arith
    at false = omega arith
releases_least flow (suc p) = at (slice_get flow.kinds p)
  where
    at : (o : Option Kind) → option_map_or (λ k. let_go k (is_whole_at flow (suc p)) (flow.tokens (suc p)) (min flow.quantum (flow.len (suc p)))) o 0 ≤ min flow.quantum (flow.len (suc p))
    at None = omega arith
    at (Some k) = let_go_least k (is_whole_at flow (suc p)) (flow.tokens (suc p)) (min flow.quantum (flow.len (suc p)))

-- the last free place is free, and stands before the bound
pub record IsFreeTo (flow : FlowState) (bound p : ℕ) : Type 0 where
  pub free : is_free_at flow p ≡ true
  pub before : p ≤ bound

pub free_to : (flow : FlowState) (bound p : ℕ) → last_free_to flow bound ≡ Some p → IsFreeTo flow bound p
free_to flow zero p e = at (is_free_at flow 0) refl e
  where
    at : (b : Bool) → is_free_at flow 0 ≡ b → (if b then Some 0 else None) ≡ Some p → IsFreeTo flow 0 p
    at true f e = let is : 0 ≡ p = number e in record { free = subst (λ v. is_free_at flow v ≡ true) is f; before = omega (arith, is) }
      where
        number : Some 0 ≡ Some p → 0 ≡ p
        number e = cc
    at false f e = cc
free_to flow (suc k) p e = at (free_to flow k p) (is_free_at flow (suc k)) refl e
  where
    at : (last_free_to flow k ≡ Some p → IsFreeTo flow k p) → (b : Bool) → is_free_at flow (suc k) ≡ b → (if b then Some (suc k) else last_free_to flow k) ≡ Some p → IsFreeTo flow (suc k) p
    at r true f e = let is : suc k ≡ p = number e in record { free = subst (λ v. is_free_at flow v ≡ true) is f; before = omega (arith, is) }
      where
        number : Some (suc k) ≡ Some p → suc k ≡ p
        number e = cc
    at r false f e = let v = r e in record { free = v.free; before = later p k v.before }
      where
        later : (p k : ℕ) → p ≤ k → p ≤ suc k
        later p k le = omega (arith, le)

abbrev nowhere : Option ℕ
nowhere = None

-- where no place is free, none up to the bound is
pub none_free : (flow : FlowState) (bound : ℕ) → last_free_to flow bound ≡ None → EachPlace (λ p. is_free_at flow p ≡ false) bound
none_free flow zero e = at (is_free_at flow 0) refl e
  where
    at : (b : Bool) → is_free_at flow 0 ≡ b → (if b then Some 0 else nowhere) ≡ nowhere → is_free_at flow 0 ≡ false
    at true f e = cc
    at false f e = f
none_free flow (suc k) e = at (none_free flow k) (is_free_at flow (suc k)) refl e
  where
    at : (last_free_to flow k ≡ None → EachPlace (λ p. is_free_at flow p ≡ false) k) → (b : Bool) → is_free_at flow (suc k) ≡ b → (if b then Some (suc k) else last_free_to flow k) ≡ None
        → (is_free_at flow (suc k) ≡ false) × EachPlace (λ p. is_free_at flow p ≡ false) k
    at r true f e = cc
    at r false f e = (f, r e)

-- ---- what is known of a move
pub all_false : {A : Type 0} (t : A → Bool) (xs : List A) → list_any t xs ≡ false → AllByRecursion (λ x. t x ≡ false) xs
all_false t [] e = tt
all_false t (x ∷ xs) e = let k = or_none (t x) (list_any t xs) e in (k.0, all_false t xs k.1)

pub record IsMove {Mark : Type 0} (setup : Setup Mark) (f : FlowId) (p n : ℕ) (h : History Mark) : Type 0 where
  pub before : p < last_place setup f h
  pub some : 0 < n
  pub within : n ≤ setup.quantum
  pub there : n ≤ length (place setup f p h)
  pub low : AllByRecursion (λ s. (nat_lt p s.place && above setup s.buffer h) ≡ false) (sources setup f h)

pub move_is : {Mark : Type 0} (setup : Setup Mark) (f : FlowId) (p n : ℕ) (h : History Mark) → MayMove setup f p n h → IsMove setup f p n h
move_is setup f p n h m =
    let flow = state_of setup f h in
    let r = free_to flow (last_place setup f h - 1) p m.last in
    let k = both (nat_lt 0 (releases flow p)) (not (later_above flow p)) r.free in
    let most = releases_least flow p in
    record {
      before = less p (length (setup.stages f h)) r.before;
      some = positive n (releases flow p) m.all k.0;
      within = fits_one n (releases flow p) setup.quantum (length (place setup f p h)) m.all most;
      there = fits_two n (releases flow p) setup.quantum (length (place setup f p h)) m.all most;
      low = all_false (λ s. nat_lt p s.place && above setup s.buffer h) (sources setup f h) (not_so (later_above flow p) k.1);
    }
  where
    less : (p k : ℕ) → p ≤ (k + 1) - 1 → p < k + 1
    less p k le = omega (arith, le)

    positive : (n r : ℕ) → n ≡ r → nat_lt 0 r ≡ true → 0 < n
    positive n r e t = grind (arith, nat_tests)

    fits_one : (n r q l : ℕ) → n ≡ r → r ≤ min q l → n ≤ q
    fits_one n r q l e le = omega (arith, e, le)

    fits_two : (n r q l : ℕ) → n ≡ r → r ≤ min q l → n ≤ l
    fits_two n r q l e le = omega (arith, e, le)
