-- END_STREAM goes once, and leaves nothing of its flow behind.
use Rattle.flow_rules.specs.declared.ids.FlowId.{FlowId}
use Rattle.flow_laws.proofs.Induction.{by_life}
use Rattle.flow_laws.proofs.Lengths.{Arrives, Comes, Feeding, NotFed, feeding}
use Rattle.flow_laws.proofs.Lists.{both, by_case, flow_is, flow_same, not_both, number_is, one_if}
use Rattle.flow_laws.proofs.Losing.{loses_kept, loses_own}
use Rattle.flow_laws.proofs.Moves.{move_is}
use Rattle.flow_laws.proofs.Spared.{IsUnborn, spares}
use Rattle.flow_laws.specs.Endings.{EndsHead, EndsInTime, HeadInTime, IsEmptied, times_ended}
use Rattle.flow_laws.specs.Octets.{LosesNothing, lying}
use Rattle.flow_laws.specs.Ways.{HasWays, starts}
use Rattle.flow_rules.specs.Kinds.{all_empty}
use Rattle.flow_rules.specs.State.{FlowState, empty_before}
use Rattle.flow_rules.specs.Units.{carried, carries_end as ends_with, ends_after, head_may_go, next_head, next_unit as first_unit}
use Rattle.std.proofs.Common.{ap, arith, length-drop, refl, subst, sym, ◌∙◌}
use Rattle.std.proofs.lemmas.Bool.Decides.{nat_tests}
use Rattle.std.specs.Option.{option_map_or}
use Rattle.std.specs.Prelude.{Bool, IfSome, List, None, Option, Some, [], drop, false, if◌then◌else◌, length, nat_lt, not, suc, true, zero, ℕ, ◌&&◌, ◌++◌, ◌+◌, ◌<◌, ◌==◌, ◌||◌, ◌∷◌, ◌≡◌, ◌≤◌}
use Rattle.tape_laws.specs.Doomed.{LeavesDoomed}
use Rattle.tape_laws.specs.Ends.{end_framed, pick_ends}
use Rattle.tape_laws.specs.Flows.{same_flow}
use Rattle.tape_laws.specs.Framing.{EndsRight, KeepsEnds, MayPick, next_unit}
use Rattle.tape_laws.specs.History.{EachFollows, History, Marked, Noted, Step}
use Rattle.tape_laws.specs.Quiet.{EachPlace}
use Rattle.tape_laws.specs.Release.{MayStand}
use Rattle.tape_laws.specs.Setup.{Setup}
use Rattle.tape_laws.specs.Sources.{is_live}
use Rattle.tape_laws.specs.State.{state_of}
use Rattle.tape_laws.specs.Units.{Farewell, FramedUnit, HeadOf, Pick, Put, StageKind, TrailersOf}
use Rattle.tape_laws.specs.World.{last_place, place, received, sent}
use Rattle.flow_notes.specs.declared.notes.Note.TheVariants as note
use Rattle.flow_rules.specs.declared.unit.Unit.TheVariants as unit

-- trailers are next only where the end wasn't framed and nothing is left
trailers_last : (flow : FlowState) → first_unit flow ≡ unit.Trailers → (flow.end_framed ≡ false) × (ends_after flow 0 ≡ true)
trailers_last flow e = at flow.head_waits (nat_lt 0 (carried flow)) (ends_after flow 0) flow.end_framed flow.trailers_wait e
  where
    at : (w c a f t : Bool) → (if w then next_head flow else if c then unit.Body (carried flow) (ends_with flow (carried flow)) else if not a || f then unit.Nothing else if t then unit.Trailers else unit.Body 0 true) ≡ unit.Trailers
        → (f ≡ false) × (a ≡ true)
    at true c a f t e = never (head_may_go flow) e
      where
        never : (b : Bool) → (if b then unit.Head flow.head_ends else unit.Nothing) ≡ unit.Trailers → (f ≡ false) × (a ≡ true)
        never true e = cc
        never false e = cc
    at false true a f t e = cc
    at false false false f t e = cc
    at false false true true t e = cc
    at false false true false true e = (refl, refl)
    at false false true false false e = cc

-- ---- emptied places
zero_is : (n : ℕ) → (n == 0) ≡ true → n ≡ 0
zero_is n e = grind (arith, nat_tests)

no_octets : (xs : List ℕ) → length xs ≡ 0 → xs ≡ []
no_octets [] e = refl
no_octets (x ∷ xs) e = absurd (omega (arith, e))

all_empty_at : (t : ℕ → Bool) (n p : ℕ) → all_empty t n ≡ true → p < n → t p ≡ true
all_empty_at t zero p e lt = absurd (omega (arith, lt))
all_empty_at t (suc n) p e lt = let k = both (t n) (all_empty t n) e in by_case (p == n) (λ s. ap t (number_is p n s) ∙ k.0) (λ d. all_empty_at t n p k.1 (less p n lt d))
  where
    less : (p n : ℕ) → p < suc n → (p == n) ≡ false → p < n
    less p n lt d = grind (arith, nat_tests)

each_place_of : (P : ℕ → Type 0) (n : ℕ) → ((p : ℕ) → p ≤ n → P p) → EachPlace P n
each_place_of P zero f = f 0 (omega arith)
each_place_of P (suc n) f = (f (suc n) (omega arith), each_place_of P n (λ p le. f p (more p n le)))
  where
    more : (p n : ℕ) → p ≤ n → p ≤ suc n
    more p n le = omega (arith, le)

count_if : (b e : Bool) (t : ℕ) → t ≡ one_if e → (b ≡ true → e ≡ false) → (if b then 1 else 0) + t ≡ one_if (b || e)
count_if true true t i j = let k = j refl in cc
count_if true false t i j = omega (arith, i)
count_if false e t i j = nothing t (one_if e) i
  where
    nothing : (t k : ℕ) → t ≡ k → 0 + t ≡ k
    nothing t k i = omega (arith, i)

module _ {Mark : Type 0} (setup : Setup Mark) (f : FlowId) where
  -- ---- once
  abbrev picks_end : Option Pick → History Mark → Bool
  picks_end o h = option_map_or (λ p. pick_ends setup f p.unit h) o false

  -- what is known of a mark that ends the flow
  pub data Ending (h : History Mark) : Type 0 where
    ByTrailers : next_unit setup f h ≡ unit.Trailers → Ending h
    ByHead : end_framed setup f h ≡ false → received f h ≡ [] → Ending h

  unit_ending : (u : FramedUnit) (h : History Mark) → MayPick setup u h → HeadInTime setup u h → pick_ends setup f u h ≡ true → Ending h
  unit_ending (HeadOf g) h m t e =
      let k = both (same_flow g f) (setup.head_ends f h) e in
      let own : EndsHead setup f h = subst (λ v. EndsHead setup v h) (flow_is g f k.0) t in ByHead own.first (own.alone k.1)
  unit_ending (TrailersOf g) h m t e = ByTrailers (subst (λ v. next_unit setup v h ≡ unit.Trailers) (flow_is g f e) m)
  unit_ending (Put w) h m t e = cc
  unit_ending (Farewell code why) h m t e = cc

  mark_ending : (o : Option Pick) (h : History Mark) → IfSome o (λ p. MayPick setup p.unit h) → IfSome o (λ p. HeadInTime setup p.unit h) → picks_end o h ≡ true → Ending h
  mark_ending None h m t e = cc
  mark_ending (Some p) h m t e = unit_ending p.unit h m t e

  ending_once : (h : History Mark) → Ending h → end_framed setup f h ≡ false
  ending_once h (ByTrailers e) = (trailers_last (state_of setup f h) e).0
  ending_once h (ByHead o r) = o

  times_step : (step : Step Mark) (h : History Mark) → KeepsEnds setup step h → EndsInTime setup step h → times_ended setup f h ≡ one_if (end_framed setup f h)
      → times_ended setup f (step ∷ h) ≡ one_if (end_framed setup f (step ∷ h))
  times_step (Noted (note.Frame c g n last)) h k t i = count_if (same_flow g f && last) (end_framed setup f h) (times_ended setup f h) i
      (λ b. subst (λ v. end_framed setup v h ≡ false) (flow_is g f (both (same_flow g f) last b).0) k.once)
  times_step (Marked m) h k t i = count_if (picks_end (setup.picks m) h) (end_framed setup f h) (times_ended setup f h) i (λ b. ending_once h (mark_ending (setup.picks m) h k t b))
  times_step step h k2 t2 i2 = i2

  times : (h : History Mark) → EachFollows (KeepsEnds setup) h → EachFollows (EndsInTime setup) h → times_ended setup f h ≡ one_if (end_framed setup f h)
  times [] k t = refl
  times (step ∷ h) k t = times_step step h k.0 t.0 (times h k.1 t.1)

  pub at_most_once : (h : History Mark) → EachFollows (KeepsEnds setup) h → EachFollows (EndsInTime setup) h → times_ended setup f h ≤ 1
  at_most_once h k t = most (end_framed setup f h) (times_ended setup f h) (times h k t)
    where
      most : (b : Bool) (n : ℕ) → n ≡ one_if b → n ≤ 1
      most true n e = omega (arith, e)
      most false n e = omega (arith, e)

  -- ---- nothing is left
  abbrev pub Left : History Mark → Type 0
  Left h = (p : ℕ) → p ≤ last_place setup f h → place setup f p h ≡ []

  lying_none : (h : History Mark) (k p : ℕ) → lying setup f k h ≡ [] → p ≤ k → place setup f p h ≡ []
  lying_none h zero p e le = ap (λ v. place setup f v h) (zero_least p le) ∙ e
    where
      zero_least : (p : ℕ) → p ≤ 0 → p ≡ 0
      zero_least p le = omega (arith, le)
  lying_none h (suc k) p e le =
      let d = parts (place setup f (suc k) h) (lying setup f k h) e in
      by_case (p == suc k) (λ t. ap (λ v. place setup f v h) (number_is p (suc k) t) ∙ d.0) (λ i. lying_none h k p d.1 (less p k le i))
    where
      parts : (xs ys : List ℕ) → xs ++ ys ≡ [] → (xs ≡ []) × (ys ≡ [])
      parts [] ys e = (refl, e)
      parts (x ∷ xs) ys e = cc

      less : (p k : ℕ) → p ≤ suc k → (p == suc k) ≡ false → p ≤ k
      less p k le i = grind (arith, nat_tests)

  -- the octets of a flow whose end comes after n more
  ends_left : (h : History Mark) (n : ℕ) → ends_after (state_of setup f h) n ≡ true
      → ((p : ℕ) → p < last_place setup f h → place setup f p h ≡ []) × (length (place setup f (last_place setup f h) h) ≡ n)
  ends_left h n e =
      let flow = state_of setup f h in
      let k = both (empty_before flow (last_place setup f h)) (length (place setup f (last_place setup f h) h) == n) (both (setup.ended f h) _ e).1 in
      ((λ p lt. no_octets (place setup f p h) (zero_is _ (all_empty_at (λ q. length (place setup f q h) == 0) (last_place setup f h) p k.0 lt))), number_is _ n k.1)

  -- a step of a flow of which nothing is left brings it nothing
  left_on : (step : Step Mark) (h : History Mark) → MayStand setup step h → EndsInTime setup step h → end_framed setup f h ≡ true → Left h
      → (p : ℕ) → p ≤ last_place setup f h → place setup f p (step ∷ h) ≡ []
  left_on step h m t e l p le = at (feeding setup f p step h)
    where
      some : (n : ℕ) (xs : List ℕ) → 0 < n → n ≤ length xs → xs ≡ [] → ⊥
      some n xs i j e = let z : length xs ≡ 0 = ap length e in omega (arith, i, j, z)

      less : (q l : ℕ) → q < l → q ≤ l
      less q l lt = omega (arith, lt)

      at : Feeding setup f p step h → place setup f p (step ∷ h) ≡ []
      at (Arrives octets i z) = not_both (end_framed setup f h) e (subst (λ s. EndsInTime setup s h) i t)
      at (Comes q n i z) =
          let v = move_is setup f q n h (subst (λ s. MayStand setup s h) i m) in absurd (some n (place setup f q h) v.some v.there (l q (less q (last_place setup f h) v.before)))
      at (NotFed k) = no_octets (place setup f p (step ∷ h)) (none _ _ k (ap length (l p le)))
        where
          none : (a b : ℕ) → a ≤ b → b ≡ 0 → a ≡ 0
          none a b le e = omega (arith, le, e)

  -- a frame that carries the end
  frame_left : (c n : ℕ) (h : History Mark) → EndsRight setup f n true h → (p : ℕ) → p ≤ last_place setup f h → place setup f p (Noted (note.Frame c f n true) ∷ h) ≡ []
  frame_left c n h r p le =
      let k = ends_left h n (both (ends_after (state_of setup f h) n) (not (setup.trailers_wait f h)) (sym r.exactly)).0 in
      rw (flow_same f) (at (p == last_place setup f h) refl k)
    where
      less : (p l : ℕ) → p ≤ l → (p == l) ≡ false → p < l
      less p l le d = grind (arith, nat_tests)

      none : (n : ℕ) (xs : List ℕ) → length xs ≡ n → length (drop n xs) ≡ 0
      none n xs e = omega (arith, e, length-drop n xs)

      at : (b : Bool) → (p == last_place setup f h) ≡ b → ((q : ℕ) → q < last_place setup f h → place setup f q h ≡ []) × (length (place setup f (last_place setup f h) h) ≡ n)
          → drop (if b then n else 0) (place setup f p h) ≡ []
      at true e k = no_octets (drop n (place setup f p h)) (none n (place setup f p h) (ap (λ v. length (place setup f v h)) (number_is p (last_place setup f h) e) ∙ k.1))
      at false e k = k.0 p (less p (last_place setup f h) le e)

  ending_left : (h : History Mark) → Ending h → LosesNothing setup f h → Left h
  ending_left h (ByTrailers e) l p le =
      let k = ends_left h 0 (trailers_last (state_of setup f h) e).1 in
      by_case (p == last_place setup f h) (λ t. no_octets (place setup f p h) (ap (λ v. length (place setup f v h)) (number_is p (last_place setup f h) t) ∙ k.1)) (λ d. k.0 p (less p (last_place setup f h) le d))
    where
      less : (p l : ℕ) → p ≤ l → (p == l) ≡ false → p < l
      less p l le d = grind (arith, nat_tests)
  ending_left h (ByHead o r) l p le = lying_none h (last_place setup f h) p (behind (sent setup f h) (lying setup f (last_place setup f h) h) (sym l ∙ r)) le
    where
      behind : (xs ys : List ℕ) → xs ++ ys ≡ [] → ys ≡ []
      behind [] ys e = e
      behind (x ∷ xs) ys e = cc

  abbrev Emptied : Step Mark → History Mark → Type 0
  Emptied step h = (p : ℕ) → p ≤ last_place setup f h → place setup f p (step ∷ h) ≡ []

  -- a step that ends it
  first_left : (step : Step Mark) (h : History Mark) → KeepsEnds setup step h → EndsInTime setup step h → LosesNothing setup f h → end_framed setup f h ≡ false
      → end_framed setup f (step ∷ h) ≡ true → Emptied step h
  first_left (Noted (note.Frame c g n last)) h k t l e now p le =
      let b = both (same_flow g f) last (sym (or_none_right (same_flow g f && last) (end_framed setup f h) e) ∙ now) in
      subst (λ (v : FlowId). place setup f p (Noted (note.Frame c v n last) ∷ h) ≡ []) (sym (flow_is g f b.0))
      (subst (λ (v : Bool). place setup f p (Noted (note.Frame c f n v) ∷ h) ≡ []) (sym b.1)
      (frame_left c n h (subst (λ (v : Bool). EndsRight setup f n v h) b.1 (subst (λ (v : FlowId). EndsRight setup v n last h) (flow_is g f b.0) k)) p le))
    where
      or_none_right : (a b : Bool) → b ≡ false → (a || b) ≡ a
      or_none_right true b e = refl
      or_none_right false b e = e
  first_left (Marked m) h k t l e now p le = ending_left h (mark_ending (setup.picks m) h k t (or_true_left (picks_end (setup.picks m) h) (end_framed setup f h) now e)) l p le
    where
      or_true_left : (a b : Bool) → (a || b) ≡ true → b ≡ false → a ≡ true
      or_true_left true b i e = refl
      or_true_left false b i e = not_both b i e
  first_left step h k2 t2 l2 e2 now p le = not_both (end_framed setup f h) now e2

module _ {Mark : Type 0} (setup : Setup Mark) (ways : HasWays setup) (f : FlowId) where
  pub record MayEnd (step : Step Mark) (h : History Mark) : Type 0 where
    pub stands : MayStand setup step h
    pub ends : KeepsEnds setup step h
    pub timely : EndsInTime setup step h

  may_end : (h : History Mark) → EachFollows (MayStand setup) h → EachFollows (KeepsEnds setup) h → EachFollows (EndsInTime setup) h → EachFollows MayEnd h
  may_end [] m k t = tt
  may_end (step ∷ h) m k t = (record { stands = m.0; ends = k.0; timely = t.0 }, may_end h m.1 k.1 t.1)

  abbrev Over : History Mark → Type 0
  Over h = LosesNothing setup f h × (end_framed setup f h ≡ true → Left setup f h)

  over_own : (step : Step Mark) (h : History Mark) → starts f step ≡ true → IsUnborn setup f h → Over (step ∷ h)
  over_own (Noted (note.Start x c s d)) h t u = (loses_own setup ways f (Noted (note.Start x c s d)) h t u, (λ e p le. u.empty p))
  over_own step h t2 u2 = cc

  over_kept : (step : Step Mark) (h : History Mark) → starts f step ≡ false → spares f step ≡ true → is_live setup f h ≡ true → MayEnd step h → Over h → Over (step ∷ h)
  over_kept step h o s a m v = (loses_kept setup ways f step h o s a m.stands v.0, λ e p le. left e p (subst (λ (ss : List StageKind). p ≤ length ss + 1) (ways.stages f step h o) le))
    where
      left : end_framed setup f (step ∷ h) ≡ true → (p : ℕ) → p ≤ last_place setup f h → place setup f p (step ∷ h) ≡ []
      left e = by_case (end_framed setup f h) (λ t. left_on setup f step h m.stands m.timely t (v.1 t)) (λ d. first_left setup f step h m.ends m.timely v.0 d e)

  over : (h : History Mark) → EachFollows LeavesDoomed h → EachFollows MayEnd h → is_live setup f h ≡ true → Over h
  over h l m a = by_life setup ways f Over MayEnd over_own over_kept h l m a

  pub ends_empty : (h : History Mark) → EachFollows (MayStand setup) h → EachFollows LeavesDoomed h → EachFollows (KeepsEnds setup) h → EachFollows (EndsInTime setup) h
      → end_framed setup f h ≡ true → is_live setup f h ≡ true → IsEmptied setup f h
  ends_empty h m l k t e a = each_place_of (λ p. place setup f p h ≡ []) (last_place setup f h) ((over h l (may_end h m k t) a).1 e)

pub ends_once : {Mark : Type 0} (setup : Setup Mark) → HasWays setup → (h : History Mark) → EachFollows (MayStand setup) h → EachFollows LeavesDoomed h → EachFollows (KeepsEnds setup) h
    → EachFollows (EndsInTime setup) h → (f : FlowId) → (times_ended setup f h ≤ 1) × (end_framed setup f h ≡ true → is_live setup f h ≡ true → IsEmptied setup f h)
ends_once setup ways h m l k t f = (at_most_once setup f h k t, λ e a. ends_empty setup ways f h m l k t e a)
