-- Which flow is next on the connection.
use Rattle.std.proofs.lemmas.Bool.{or_left, or_right, and_parts as and_true}
use Rattle.flow_rules.specs.declared.ids.FlowId.{FlowId}
use Rattle.plain_laws.proofs.Streams.{all_at, by_case, not_both, number_is, same_number}
use Rattle.plain_laws.specs.Next.{IsNextAbove, IsNextAround, is_ready, unit_of}
use Rattle.plain_laws.specs.Regular.{IsRising}
use Rattle.plain_laws.proofs.Streams.{or_true as later}
use Rattle.std.proofs.lemmas.Bool.{ltb-true}
use Rattle.std.proofs.Common.{ap, arith, refl, sym, ◌∙◌}
use Rattle.std.proofs.lemmas.Bool.Decides.{nat_tests}
use Rattle.std.specs.Prelude.{Bool, List, [], false, filter, flat_map, if◌then◌else◌, length, min, nat_le, nat_lt, not, true, ℕ, ◌&&◌, ◌++◌, ◌<◌, ◌==◌, ◌||◌, ◌∷◌, ◌≡◌, ◌≤◌}
use Rattle.plain_laws.specs.Words.{Past, Alive, last_out, next_out, recv_at, send_at}
use Rattle.tape_laws.specs.Dispatches.{has, live}
use Rattle.tape_laws.specs.Framing.{carries_end, next_unit}
use Rattle.flow_rules.specs.Units.{carried}
use Rattle.flow_rules.specs.declared.unit.Unit.{Unit as FlowUnit}
use Rattle.flow_rules.specs.declared.unit.Unit.TheVariants.{Body as BodyUnit, Nothing as NoUnit}
use Rattle.tape_laws.specs.Flows.{request}
use Rattle.flow_rules.specs.Units.{is_unit}
use Rattle.tape_laws.specs.Order.{Flows, Nothing, first_flow}
use Rattle.tape_laws.specs.Plain.{plain_ended, plain_setup}
use Rattle.tape_laws.specs.State.{state_of}
use Rattle.tape_laws.specs.declared.PlainLimits.{PlainLimits}

-- ---- the unit of a flow

shorter : (z s : Bool) → ((z && true) && s) ≡ (z && s)
shorter true s = refl
shorter false s = refl

same_end : (e z s : Bool) → ((e && ((z && true) && s)) && true) ≡ (e && (z && s))
same_end true true true = refl
same_end true true false = refl
same_end true false s = refl
same_end false z s = refl

twice : (q s : ℕ) → min (min q q) s ≡ min q s
twice q s = omega arith

pub carried_is : (limits : PlainLimits) (x : ℕ) (h : Past) → carried (state_of (plain_setup limits) (request x) h) ≡ min limits.quantum (length (send_at limits x h))
carried_is limits x h = twice limits.quantum (length (send_at limits x h))

pub carries_is : (limits : PlainLimits) (x n : ℕ) (h : Past) → carries_end (plain_setup limits) (request x) n h
    ≡ (plain_ended x h && ((length (recv_at limits x h) == 0) && (length (send_at limits x h) == n)))
carries_is limits x n h = same_end (plain_ended x h) (length (recv_at limits x h) == 0) (length (send_at limits x h) == n)

-- what is told by a unit that is octets
pub record IsBodyUnit (quantum : ℕ) (ended framed : Bool) (recv send n : ℕ) (last : Bool) : Type 0 where
  pub all : n ≡ min quantum send
  pub ends : last ≡ (ended && ((recv == 0) && (send == n)))
  pub some : (nat_lt 0 n || last) ≡ true
  pub again : framed ≡ true → 0 < n

pub body_unit : (q r s n : ℕ) (e fr last : Bool) → unit_of q e fr r s ≡ BodyUnit n last → IsBodyUnit q e fr r s n last
body_unit q r s n e fr last =
    by (nat_lt 0 (min (min q q) s)) refl (e && (((r == 0) && true) && (s == 0))) refl fr refl
  where
    positive : nat_lt 0 n ≡ true → 0 < n
    positive t = grind (arith, nat_tests)

    none : nat_lt 0 (min (min q q) s) ≡ false → 0 ≡ n → n ≡ min q s
    none t e = let z : min (min q q) s ≡ 0 = grind (arith, nat_tests) in omega (arith, z, e)

    by : (b : Bool) → nat_lt 0 (min (min q q) s) ≡ b → (t : Bool) → (e && (((r == 0) && true) && (s == 0))) ≡ t → (f : Bool) → fr ≡ f
        → (if b then BodyUnit (min (min q q) s) ((e && (((r == 0) && true) && (s == min (min q q) s))) && true) else if not t || f then NoUnit else BodyUnit 0 true) ≡ BodyUnit n last
        → IsBodyUnit q e fr r s n last
    by true b t _ f _ u =
        let same : min (min q q) s ≡ n = cc in
        let end : ((e && (((r == 0) && true) && (s == min (min q q) s))) && true) ≡ last = cc in
        let more : nat_lt 0 n ≡ true = cc in
        record {
          all = sym same ∙ twice q s;
          ends = cc (same_end e (r == 0) (s == min (min q q) s));
          some = or_left (nat_lt 0 n) last more;
          again = λ g. positive more;
        }
    by false b true t false f u =
        let same : 0 ≡ n = cc in
        let end : true ≡ last = cc in
        record {
          all = none b same;
          ends = cc (shorter (r == 0) (s == 0));
          some = or_right (nat_lt 0 n) last (sym end);
          again = λ g. not_both fr g f;
        }
    by false b true t true f u = absurd (cc)
    by false b false t f _ u = absurd (cc)

-- ---- the first of those that are ready

module _ (p q : FlowId → Bool) (f : FlowId) (fs : List FlowId) where
  skip_first : (p f && q f) ≡ false → filter q (filter p (f ∷ fs)) ≡ filter q (filter p fs)
  skip_first e = pick (p f) refl
    where
      and_false : (a b : Bool) → (a && b) ≡ false → a ≡ true → b ≡ false
      and_false true b e f = e
      and_false false b e f = cc

      pick : (b : Bool) → p f ≡ b → filter q (if b then f ∷ filter p fs else filter p fs) ≡ filter q (filter p fs)
      pick true t = cc (and_false (p f) (q f) e t)
      pick false t = refl

  take_first : p f ≡ true → q f ≡ true → filter q (filter p (f ∷ fs)) ≡ f ∷ filter q (filter p fs)
  take_first ep eq =
      cc

-- those that pass both tests begin with x, where it passes them and none before it does
first_passing : (p q : FlowId → Bool) (xs : List ℕ) (x : ℕ) → IsRising xs → has xs x ≡ true → p (request x) ≡ true → q (request x) ≡ true
    → ((y : ℕ) → has xs y ≡ true → p (request y) ≡ true → q (request y) ≡ true → x ≤ y)
    → (rest : List FlowId) × (filter q (filter p (flat_map (λ y. request y ∷ []) xs)) ≡ request x ∷ rest)
first_passing p q [] x r e ep eq least = cc
first_passing p q (y ∷ ys) x r e ep eq least =
    by_case (y == x) (λ t. own (number_is y x t)) (λ d. other (later (y == x) (has ys x) e d) (first_passing p q ys x r.1 (later (y == x) (has ys x) e d) ep eq (λ z ez. least z (or_right (y == z) (has ys z) ez))))
  where
    own : y ≡ x → (rest : List FlowId) × (filter q (filter p (flat_map (λ z. request z ∷ []) (y ∷ ys))) ≡ request x ∷ rest)
    own e =
        rw e (filter q (filter p (flat_map (λ z. request z ∷ []) ys)), take_first p q (request x) (flat_map (λ z. request z ∷ []) ys) ep eq)

    greater : (a b : ℕ) → a < b → b ≤ a → ⊥
    greater a b e f = omega arith

    other : has ys x ≡ true → (rest : List FlowId) × (filter q (filter p (flat_map (λ z. request z ∷ []) ys)) ≡ request x ∷ rest)
        → (rest : List FlowId) × (filter q (filter p (flat_map (λ z. request z ∷ []) (y ∷ ys))) ≡ request x ∷ rest)
    other is k =
        let no : (p (request y) && q (request y)) ≡ false =
        by_case (p (request y) && q (request y))
        (λ t. let b = and_true (p (request y)) (q (request y)) t in
        absurd (greater y x (all_at (λ z. y < z) ys x r.0 is) (least y (or_left (y == y) (has ys y) (same_number y)) b.0 b.1)))
        (λ f. f) in
        (k.0, skip_first p q (request y) (flat_map (λ z. request z ∷ []) ys) no ∙ k.1)

none_passing : (p q : FlowId → Bool) (xs : List ℕ) → ((y : ℕ) → has xs y ≡ true → (p (request y) && q (request y)) ≡ false)
    → filter q (filter p (flat_map (λ y. request y ∷ []) xs)) ≡ []
none_passing p q [] none = refl
none_passing p q (y ∷ ys) none =
    skip_first p q (request y) (flat_map (λ z. request z ∷ []) ys) (none y (or_left (y == y) (has ys y) (same_number y)))
    ∙ none_passing p q ys (λ z e. none z (or_right (y == z) (has ys z) e))

-- the flow has a unit
abbrev ready_flow : PlainLimits → Past → FlowId → Bool
ready_flow limits h f = is_unit (next_unit (plain_setup limits) f h)

abbrev beyond : ℕ → FlowId → Bool
beyond last f = nat_lt last f.exchange

abbrev within : ℕ → FlowId → Bool
within last f = nat_le f.exchange last

module _ (limits : PlainLimits) where
  first_of_two : (h : Past) (f : FlowId) (ds bs cs : List FlowId) → ds ≡ f ∷ cs → first_flow (plain_setup limits) (ds ++ bs) h ≡ Flows f (next_unit (plain_setup limits) f h)
  first_of_two h f ds bs cs e = cc

  pub next_above : (x : ℕ) (h : Past) → IsRising (live h) → IsNextAbove limits x h
      → next_out limits h ≡ Flows (request x) (next_unit (plain_setup limits) (request x) h)
  next_above x h r n =
      let last = last_out limits h in
      let k = first_passing (ready_flow limits h) (beyond last) (live h) x r n.lives n.ready (beyond_is last x n.after) (λ y e ep eq. n.least y e ep (ltb-true last y eq)) in
      first_of_two h (request x) _ _ k.0 k.1
    where
      beyond_is : (a b : ℕ) → a < b → nat_lt a b ≡ true
      beyond_is a b e = grind (arith, nat_tests)

  pub next_around : (x : ℕ) (h : Past) → IsRising (live h) → IsNextAround limits x h
      → next_out limits h ≡ Flows (request x) (next_unit (plain_setup limits) (request x) h)
  next_around x h r n =
      let last = last_out limits h in
      let k = first_passing (ready_flow limits h) (within last) (live h) x r n.lives n.ready (within_is x last (n.none x n.lives n.ready)) (λ y e ep eq. n.least y e ep) in
      let z = none_passing (ready_flow limits h) (beyond last) (live h) (λ y e. not_beyond y last (ready_flow limits h (request y)) (n.none y e)) in
      ap (λ (fs : List FlowId). first_flow (plain_setup limits) (fs ++ filter (within last) (filter (ready_flow limits h) (flat_map (λ y. request y ∷ []) (live h)))) h) z
      ∙ ap (λ (fs : List FlowId). first_flow (plain_setup limits) fs h) k.1
    where
      within_is : (a b : ℕ) → a ≤ b → nat_le a b ≡ true
      within_is a b e = grind (arith, nat_tests)

      not_beyond : (y last : ℕ) (b : Bool) → (b ≡ true → y ≤ last) → (b && nat_lt last y) ≡ false
      not_beyond y last true f = let k = f refl in past y last k
        where
          past : (y last : ℕ) → y ≤ last → nat_lt last y ≡ false
          past y last e = grind (arith, nat_tests)
      not_beyond y last false f = refl

  pub next_none : (h : Past) → ((x : ℕ) → Alive h x → is_ready limits x h ≡ false) → next_out limits h ≡ Nothing
  next_none h none =
      let last = last_out limits h in
      let a = none_passing (ready_flow limits h) (beyond last) (live h) (λ y e. neither (ready_flow limits h (request y)) _ (none y e)) in
      let b = none_passing (ready_flow limits h) (within last) (live h) (λ y e. neither (ready_flow limits h (request y)) _ (none y e)) in
      ap (λ (fs : List FlowId). first_flow (plain_setup limits) (fs ++ filter (within last) (filter (ready_flow limits h) (flat_map (λ y. request y ∷ []) (live h)))) h) a
      ∙ ap (λ (fs : List FlowId). first_flow (plain_setup limits) fs h) b
    where
      neither : (a b : Bool) → a ≡ false → (a && b) ≡ false
      neither true b e = cc
      neither false b e = refl

  no_first : (h : Past) (fs : List FlowId) → first_flow (plain_setup limits) fs h ≡ Nothing → fs ≡ []
  no_first h [] e = refl
  no_first h (f ∷ fs) e = absurd (cc)

both_empty : (ds bs : List FlowId) → ds ++ bs ≡ [] → (ds ≡ []) × (bs ≡ [])
both_empty [] bs e = (refl, e)
both_empty (d ∷ ds) bs e = absurd (cc)

not_passing : (p q : FlowId → Bool) (xs : List ℕ) (x : ℕ) → filter q (filter p (flat_map (λ y. request y ∷ []) xs)) ≡ [] → has xs x ≡ true → q (request x) ≡ true → p (request x) ≡ false
not_passing p q [] x none e eq = cc
not_passing p q (y ∷ ys) x none e eq =
    by_case (y == x) (λ t. own (number_is y x t)) (λ d. not_passing p q ys x (rest_none (p (request y)) (q (request y)) refl refl) (later (y == x) (has ys x) e d) eq)
  where
    some : (g : FlowId) (gs : List FlowId) → g ∷ gs ≡ [] → ⊥
    some g gs e = cc

    rest_none : (a b : Bool) → p (request y) ≡ a → q (request y) ≡ b → filter q (filter p (flat_map (λ z. request z ∷ []) ys)) ≡ []
    rest_none true true ep eq = absurd (some _ _ (sym (take_first p q (request y) (flat_map (λ z. request z ∷ []) ys) ep eq) ∙ none))
    rest_none true false ep eq = sym (skip_first p q (request y) (flat_map (λ z. request z ∷ []) ys) (cc)) ∙ none
    rest_none false b ep eq = sym (skip_first p q (request y) (flat_map (λ z. request z ∷ []) ys) (cc)) ∙ none

    own : y ≡ x → p (request x) ≡ false
    own e =
        by_case (p (request x)) (λ t. absurd (some _ _ (sym (take_first p q (request x) (flat_map (λ z. request z ∷ []) ys) t eq) ∙ rw (← e) none))) (λ f. f)

pub none_next : (limits : PlainLimits) (x : ℕ) (h : Past) → next_out limits h ≡ Nothing → Alive h x → is_ready limits x h ≡ false
none_next limits x h none is =
    let last = last_out limits h in
    let k = both_empty (filter (beyond last) (filter (ready_flow limits h) (flat_map (λ y. request y ∷ []) (live h)))) _ (no_first limits h _ none) in
    by_case (nat_lt last x) (not_passing (ready_flow limits h) (beyond last) (live h) x k.0 is)
    (λ f. not_passing (ready_flow limits h) (within last) (live h) x k.1 is (then_within x last f))
  where
    then_within : (x last : ℕ) → nat_lt last x ≡ false → nat_le x last ≡ true
    then_within x last e = grind (arith, nat_tests)

-- the unit of the flow that is next
pub next_is_unit : (limits : PlainLimits) (f : FlowId) (u : FlowUnit) (h : Past) → next_out limits h ≡ Flows f u → next_unit (plain_setup limits) f h ≡ u
next_is_unit limits f u h e = first _ e
  where
    first : (fs : List FlowId) → first_flow (plain_setup limits) fs h ≡ Flows f u → next_unit (plain_setup limits) f h ≡ u
    first [] e = absurd (cc)
    first (g ∷ gs) e =
        let same : g ≡ f = cc in
        let unit : next_unit (plain_setup limits) g h ≡ u = cc in
        ap (λ (k : FlowId). next_unit (plain_setup limits) k h) (sym same) ∙ unit
