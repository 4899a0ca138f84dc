-- A core that rests is quiet.
use Rattle.flow_rules.specs.declared.ids.BufferId.{BufferId}
use Rattle.flow_rules.specs.declared.ids.FlowId.{FlowId}
use Rattle.flow_laws.proofs.Balance.{balance}
use Rattle.flow_laws.proofs.Lists.{count_cons, one_if}
use Rattle.flow_laws.proofs.Lives.{each_at, each_of}
use Rattle.flow_laws.proofs.Moves.{none_free}
use Rattle.flow_laws.specs.Balance.{IsBalanced, IsPaced, owed_times}
use Rattle.flow_laws.specs.Rest.{IsResting}
use Rattle.flow_laws.specs.Ways.{HasWays}
use Rattle.flow_rules.specs.Moves.{is_free as is_free_at, later_above}
use Rattle.flow_rules.specs.Sources.{SourceAt}
use Rattle.std.proofs.Common.{ap, arith, refl, sym, ◌∙◌}
use Rattle.std.proofs.lemmas.Bool.Decides.{nat_tests}
use Rattle.std.proofs.lemmas.List.Sums.{sum_by-cons}
use Rattle.std.specs.Bool.{OnTrue}
use Rattle.std.specs.List.{AllByRecursion, list_any}
use Rattle.std.specs.Prelude.{Bool, List, None, [], count_by, false, map, nat_lt, not, suc, sum_by, true, zero, ℕ, ◌&&◌, ◌+◌, ◌-◌, ◌==◌, ◌||◌, ◌∷◌, ◌≡◌}
use Rattle.tape_laws.specs.Flows.{same_flow}
use Rattle.tape_laws.specs.History.{History}
use Rattle.tape_laws.specs.Pauses.{count, due_pauses, lows, pending_lows}
use Rattle.tape_laws.specs.Quiet.{EachPlace, IsQuiet}
use Rattle.tape_laws.specs.Release.{last_free, may_release}
use Rattle.tape_laws.specs.Setup.{Session, Setup}
use Rattle.tape_laws.specs.Sources.{disabled, is_live, live_flows, source_buffers, sources}
use Rattle.tape_laws.specs.State.{state_of}
use Rattle.tape_laws.specs.Watermark.{above}
use Rattle.tape_laws.specs.World.{last_place}

each_place : (P Q : ℕ → Type 0) (n : ℕ) → ((p : ℕ) → P p → Q p) → EachPlace P n → EachPlace Q n
each_place P Q zero f a = f 0 a
each_place P Q (suc n) f a = (f (suc n) a.0, each_place P Q n f a.1)

module _ {Mark : Type 0} (setup : Setup Mark) (h : History Mark) where
  -- with nobody left to tell
  no_lows : (f : FlowId) (bs : List BufferId) → AllByRecursion (λ b. pending_lows setup b h ≡ []) bs → sum_by (λ b. count_by (same_flow f) (pending_lows setup b h)) bs ≡ 0
  no_lows f [] a = refl
  no_lows f (b ∷ bs) a =
      sum_by-cons (λ v. count_by (same_flow f) (pending_lows setup v h)) b bs ∙ both_zero _ _ (ap (count_by (same_flow f)) a.0) (no_lows f bs a.1)
    where
      both_zero : (a k : ℕ) → a ≡ 0 → k ≡ 0 → a + k ≡ 0
      both_zero a k e i = omega arith

  -- its count is that of its sources above
  counted : (f : FlowId) → due_pauses setup h ≡ [] → lows setup f h ≡ 0 → IsBalanced setup f h → count f h ≡ disabled setup f h
  counted f due z b = sums _ _ _ _ _ (ap (owed_times f) due) z b
    where
      sums : (p r o d l : ℕ) → o ≡ 0 → l ≡ 0 → p + o ≡ r + (d + l) → p - r ≡ d
      sums p r o d l e z b = omega (arith, e, z, b)

  -- where none is above, no place has a later one
  none_above : (p : ℕ) (ss : List SourceAt) → count_by (λ b. above setup b h) (map (λ s. s.buffer) ss) ≡ 0 → list_any (λ s. nat_lt p s.place && above setup s.buffer h) ss ≡ false
  none_above p [] z = refl
  none_above p (s ∷ ss) z =
      let k = parts _ _ _ (count_cons (λ b. above setup b h) s.buffer (map (λ v. v.buffer) ss)) z in
      low (nat_lt p s.place) (above setup s.buffer h) _ k.0 (none_above p ss k.1)
    where
      parts : (t a b : ℕ) → t ≡ a + b → t ≡ 0 → (a ≡ 0) × (b ≡ 0)
      parts t a b e z = (omega (arith, e, z), omega (arith, e, z))

      low : (x y l : Bool) → one_if y ≡ 0 → l ≡ false → ((x && y) || l) ≡ false
      low x true l e f = absurd (omega (arith, e))
      low true false l e f = f
      low false false l e f = f

  -- a readable flow has nothing to release
  still : (f : FlowId) → count f h ≡ disabled setup f h → last_free setup f h ≡ None
      → OnTrue (count f h == 0) (EachPlace (λ p. may_release setup f p h ≡ 0) (last_place setup f h - 1))
  still f c e = under (count f h == 0) (λ t. each_place (λ p. is_free_at (state_of setup f h) p ≡ false) (λ p. may_release setup f p h ≡ 0) (last_place setup f h - 1)
      (λ p i. released p (zero_of (count f h) t) i) (none_free (state_of setup f h) (last_place setup f h - 1) e))
    where
      under : {A : Type 0} (b : Bool) → (b ≡ true → A) → OnTrue b A
      under true g = g refl
      under false g = tt

      zero_of : (n : ℕ) → (n == 0) ≡ true → n ≡ 0
      zero_of n t = grind (arith, nat_tests)

      nothing : (n : ℕ) → nat_lt 0 n ≡ false → n ≡ 0
      nothing n t = grind (arith, nat_tests)

      left_of : (a b : Bool) → (a && not b) ≡ false → b ≡ false → a ≡ false
      left_of true true i l = cc
      left_of true false i l = cc
      left_of false b i l = refl

      released : (p : ℕ) → count f h ≡ 0 → is_free_at (state_of setup f h) p ≡ false → may_release setup f p h ≡ 0
      released p z i = nothing (may_release setup f p h) (left_of _ (later_above (state_of setup f h) p) i (none_above p (sources setup f h) (sym c ∙ z)))

pub rest_is_quiet : {Mark : Type 0} (session : Session Mark) (h : History Mark) → HasWays session.setup → IsPaced session.setup h → IsResting session h → IsQuiet session h
rest_is_quiet session h ways p r =
    let setup = session.setup in
    let told : (f : FlowId) → is_live setup f h ≡ true → lows setup f h ≡ 0 = λ f a. no_lows setup h f (source_buffers setup f h)
    (each_at (λ g. AllByRecursion (λ b. pending_lows setup b h ≡ []) (source_buffers setup g h)) (live_flows setup h) f r.told a) in
    let right : (f : FlowId) → is_live setup f h ≡ true → count f h ≡ disabled setup f h = λ f a. counted setup h f r.paused (told f a) (balance setup ways f h p.paused p.doomed p.closed a) in
    record {
      paused = r.paused;
      told = each_of (λ f. lows setup f h ≡ 0) (live_flows setup h) told;
      counted = each_of (λ f. count f h ≡ disabled setup f h) (live_flows setup h) right;
      still = each_of (λ f. OnTrue (count f h == 0) (EachPlace (λ q. may_release setup f q h ≡ 0) (last_place setup f h - 1))) (live_flows setup h)
          (λ f a. still setup h f (right f a) (each_at (λ g. last_free setup g h ≡ None) (live_flows setup h) f r.behind a));
      behind = r.behind;
      framed = r.framed;
      read = r.read;
      tamed = r.tamed;
      asked = r.asked;
      ended = r.ended;
      gone = r.gone;
      leaves = r.leaves;
    }
