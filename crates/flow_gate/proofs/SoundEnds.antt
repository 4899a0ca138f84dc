-- What the changes by which a buffer is closed, or a flow begins to watch or is forgotten, do to the counts; and they keep what holds of the gates
-- at all times.
use Rattle.flow_gate.proofs.Counting.{count-append, count-congr}
use Rattle.flow_gate.proofs.SameIds.{same_buffer-comm, same_buffer-refl, same_buffer_exact, same_flow-comm, same_flow_exact}
use Rattle.flow_gate.proofs.Sound.{IsCounted, sound_same, times-without}
use Rattle.flow_gate.specs.Board.{Board, IsSound, count, is_marked, lows, pending_on, times, times_of_buffer, watched_by, watchers_of}
use Rattle.flow_gate.specs.Changes.{Closes, Forgets, Same, Watches, goes_with, without}
use Rattle.flow_gate.specs.Ids.{is_own, same_buffer, same_flow}
use Rattle.flow_rules.specs.declared.ids.BufferId.{BufferId}
use Rattle.flow_rules.specs.declared.ids.FlowId.{FlowId}
use Rattle.std.proofs.Common.{ap, arith, inl, inr, refl, subst, sym, ◌∙◌}
use Rattle.std.proofs.lemmas.Bool.{and_parts, and_right, cases_Bool, false_from_ne_true, ne_eqb}
use Rattle.std.proofs.lemmas.List.Sums.{sum_by-append}
use Rattle.std.specs.Prelude.{Bool, List, [], cond, count_by, false, if◌then◌else◌, length, not, sum_by, true, ℕ, ◌&&◌, ◌++◌, ◌+◌, ◌==◌, ◌∷◌, ◌≡◌, ◌≤◌, ◌<◌}

-- one element, or none, at the end of a list
ends-count : {X : Type 0} (p : X → Bool) (xs : List X) (t : Bool) (x : X) → count_by p (xs ++ (if t then x ∷ [] else [])) ≡ count_by p xs + cond (t && p x) 1 0
ends-count p xs t x = count-append p xs (if t then x ∷ [] else [])
    ∙ ap (λ n. count_by p xs + n) (elim t as (λ b. count_by p (if b then x ∷ [] else []) ≡ cond (b && p x) 1 0) [ true ↦ omega arith | false ↦ refl ])

-- ---- a buffer that nobody watches is closed
pub Closes-counts : (b : BufferId) (old new : Board) → watchers_of old b ≡ [] → IsCounted new → ((c : BufferId) → is_marked new c ≡ (not (same_buffer b c) && is_marked old c)) →
    Same watched_by old new → Same pending_on old new → IsSound old → Same count old new
Closes-counts b old new none counted marked watched lists sound f =
    let bs : List BufferId = watched_by old f in
    let marks : count_by (is_marked new) bs ≡ count_by (is_marked old) bs =
    count-congr same_buffer same_buffer-refl (is_marked new) (is_marked old) bs (λ c some.
    marked c ∙ ap (λ t. not t && is_marked old c) (false_from_ne_true (same_buffer b c) (λ e.
    let empty : times f (watchers_of old c) ≡ 0 = ap (times f) (subst (λ d. watchers_of old d ≡ []) (same_buffer_exact b c e) none) in
    absurd (omega (arith, some, empty, sound.paired f c)))))
    in
    let whole : count_by (is_marked new) (watched_by new f) ≡ count_by (is_marked new) bs = ap (count_by (is_marked new)) (watched f) in
    let pending : lows new f ≡ lows old f = λ i. sum_by (λ c. times f (lists c i)) (watched f i) in
    omega (arith, counted f, sound.counted f, marks, whole, pending)

pub Closes-sound : (b : BufferId) (old new : Board) → IsCounted new → Closes b old new → IsSound old → IsSound new
Closes-sound b old new counted change = sound_same old new counted change.watched change.watchers change.pending

-- ---- a flow begins to watch a buffer
watched_times : (f : FlowId) (b : BufferId) (old new : Board) → Watches f b old new → (g : FlowId) (c : BufferId) →
    times g (watchers_of new c) ≡ times g (watchers_of old c) + cond (same_buffer b c && same_flow g f) 1 0
watched_times f b old new change g c =
    ap (times g) (change.watchers c) ∙ ends-count (same_flow g) (watchers_of old c) (same_buffer b c) f

unit-swap : (s t : Bool) → ◌≡◌ {A = ℕ} (cond (s && t) 1 0) (cond (t && s) 1 0)
unit-swap true true = refl
unit-swap true false = refl
unit-swap false true = refl
unit-swap false false = refl

pub Watches-counts : (f : FlowId) (b : BufferId) (old new : Board) → times f (watchers_of old b) ≡ 0 → IsCounted new → Same is_marked old new →
    ((g : FlowId) → watched_by new g ≡ watched_by old g ++ (if same_flow f g then b ∷ [] else [])) → Same pending_on old new → IsSound old →
    (g : FlowId) → count new g ≡ count old g + (if same_flow f g && is_marked old b then 1 else 0)
Watches-counts f b old new apart counted marked watched lists sound g =
    let bs : List BufferId = watched_by old g in
    let marks : count_by (is_marked new) (watched_by new g) ≡ count_by (is_marked old) bs + cond (same_flow f g && is_marked old b) 1 0 =
    (λ i. count_by (λ c. marked c i) (watched g i)) ∙ ends-count (is_marked old) bs (same_flow f g) b
    in
    let pending : lows new g ≡ lows old g + (if same_flow f g then times g (pending_on old b) else 0) =
    (λ i. sum_by (λ c. times g (lists c i)) (watched g i)) ∙ sum_by-append (λ c. times g (pending_on old c)) bs (if same_flow f g then b ∷ [] else [])
    ∙ ap (λ n. lows old g + n) (elim (same_flow f g) as (λ t. sum_by (λ c. times g (pending_on old c)) (if t then b ∷ [] else []) ≡ (if t then times g (pending_on old b) else 0)) [ true ↦ omega arith | false ↦ refl ])
    in
    let none : (if same_flow f g then times g (pending_on old b) else 0) ≡ 0 = elim (cases_Bool (same_flow f g)) [
      | inl same ↦ ap (λ t. if t then times g (pending_on old b) else 0) same
          ∙ subst (λ h. times h (pending_on old b) ≡ 0) (same_flow_exact f g same) (omega (arith, apart, sound.pending f b))
      | inr other ↦ ap (λ t. if t then times g (pending_on old b) else 0) other
    ] in
    omega (arith, counted g, sound.counted g, marks, pending, none)

pub Watches-sound : (f : FlowId) (b : BufferId) (old new : Board) → times f (watchers_of old b) ≡ 0 → IsCounted new → Watches f b old new → IsSound old → IsSound new
Watches-sound f b old new apart counted change sound = record {
  counted = counted;
  paired = λ g c.
      let watched : times_of_buffer c (watched_by new g) ≡ times_of_buffer c (watched_by old g) + cond (same_flow f g && same_buffer c b) 1 0 =
      ap (times_of_buffer c) (change.watched g) ∙ ends-count (same_buffer c) (watched_by old g) (same_flow f g) b
      in
      let turned : cond (same_flow f g && same_buffer c b) 1 0 ≡ cond (same_buffer b c && same_flow g f) 1 0 =
      (λ i. cond (same_flow-comm f g i && same_buffer-comm c b i) 1 0) ∙ unit-swap (same_flow g f) (same_buffer b c)
      in
      omega (arith, watched_times f b old new change g c, sound.paired g c, watched, turned);
  once = λ g c. elim (cases_Bool (same_buffer b c && same_flow g f)) [
    | inl both ↦
        let parts = and_parts (same_buffer b c) (same_flow g f) both in
        let none : times g (watchers_of old c) ≡ 0 = subst (λ h. times h (watchers_of old c) ≡ 0) (sym (same_flow_exact g f parts.1))
        (subst (λ d. times f (watchers_of old d) ≡ 0) (same_buffer_exact b c parts.0) apart) in
        let one : cond (same_buffer b c && same_flow g f) 1 0 ≡ 1 = ap {B = ℕ} (λ t. cond t 1 0) both in
        omega (arith, watched_times f b old new change g c, none, one)
    | inr other ↦
        let more : cond (same_buffer b c && same_flow g f) 1 0 ≡ 0 = ap {B = ℕ} (λ t. cond t 1 0) other in
        omega (arith, watched_times f b old new change g c, sound.once g c, more)
  ];
  pending = λ g c.
      let same : times g (pending_on new c) ≡ times g (pending_on old c) = ap (times g) (change.pending c) in
      omega (arith, same, watched_times f b old new change g c, sound.pending g c);
}

-- ---- a flow is forgotten
some_left : {X : Type 0} (p : X → Bool) (xs : List X) → 0 < count_by p xs → (length xs == 0) ≡ false
some_left p [] some = absurd (omega (arith, some))
some_left p (x ∷ xs) some = ne_eqb (length (x ∷ xs)) 0 (λ e. omega (arith, e))

cut_le : (t : Bool) (n : ℕ) → (if t then 0 else n) ≤ n
cut_le true n = omega arith
cut_le false n = omega arith

both_cut : (t : Bool) (m n : ℕ) → m ≤ n → (if t then 0 else m) ≤ (if t then 0 else n)
both_cut true m n le = omega arith
both_cut false m n le = le

pub Forgets-counts : (f : FlowId) (old new : Board) → IsCounted new → ((b : BufferId) → is_marked new b ≡ (not (goes_with f old b) && is_marked old b)) →
    ((g : FlowId) → watched_by new g ≡ (if same_flow f g then [] else watched_by old g)) → ((b : BufferId) → pending_on new b ≡ without f (pending_on old b)) →
    IsSound old → (g : FlowId) → count new g ≡ (if same_flow f g then 0 else count old g)
Forgets-counts f old new counted marked lists lowered sound g = elim (cases_Bool (same_flow f g)) [
  | inl same ↦
      let none : watched_by new g ≡ [] = lists g ∙ ap (λ t. if t then [] else watched_by old g) same in
      counted g ∙ (λ i. count_by (is_marked new) (none i) + sum_by (λ c. times g (pending_on new c)) (none i))
      ∙ sym (ap (λ t. if t then 0 else count old g) same)
  | inr other ↦
      let bs : List BufferId = watched_by old g in
      let watched : watched_by new g ≡ bs = lists g ∙ ap (λ t. if t then [] else watched_by old g) other in
      let stays : (xs : List FlowId) → times g (without f xs) ≡ times g xs = λ xs. times-without f g xs ∙ ap (λ t. if t then 0 else times g xs) other in
      let marks : count_by (is_marked new) bs ≡ count_by (is_marked old) bs =
      count-congr same_buffer same_buffer-refl (is_marked new) (is_marked old) bs (λ c some.
      let here : 0 < times g (without f (watchers_of old c)) = omega (arith, some, sound.paired g c, stays (watchers_of old c)) in
      marked c ∙ ap (λ t. not (is_own f c && t) && is_marked old c) (some_left (same_flow g) (without f (watchers_of old c)) here)
      ∙ ap (λ t. not t && is_marked old c) (and_right (is_own f c) false refl))
      in
      let whole : count_by (is_marked new) (watched_by new g) ≡ count_by (is_marked new) bs = ap (count_by (is_marked new)) watched in
      let pending : lows new g ≡ lows old g =
      (λ i. sum_by (λ c. times g (lowered c i)) (watched i)) ∙ (λ i. sum_by (λ c. stays (pending_on old c) i) bs)
      in
      let cut : (if same_flow f g then 0 else count old g) ≡ count old g = ap (λ t. if t then 0 else count old g) other in
      omega (arith, counted g, sound.counted g, marks, whole, pending, cut)
]

pub Forgets-sound : (f : FlowId) (old new : Board) → IsCounted new → Forgets f old new → IsSound old → IsSound new
Forgets-sound f old new counted change sound = record {
  counted = counted;
  paired = λ g c.
      let gone : times g (watchers_of new c) ≡ (if same_flow f g then 0 else times g (watchers_of old c)) = ap (times g) (change.watchers c) ∙ times-without f g (watchers_of old c) in
      let cut : times_of_buffer c (watched_by new g) ≡ (if same_flow f g then 0 else times_of_buffer c (watched_by old g)) =
      ap (times_of_buffer c) (change.watched g) ∙ elim (same_flow f g) as (λ t. times_of_buffer c (if t then [] else watched_by old g) ≡ (if t then 0 else times_of_buffer c (watched_by old g))) [ true ↦ refl | false ↦ refl ]
      in
      gone ∙ ap (λ n. if same_flow f g then 0 else n) (sound.paired g c) ∙ sym cut;
  once = λ g c.
      let gone : times g (watchers_of new c) ≡ (if same_flow f g then 0 else times g (watchers_of old c)) = ap (times g) (change.watchers c) ∙ times-without f g (watchers_of old c) in
      let less = cut_le (same_flow f g) (times g (watchers_of old c)) in
      omega (arith, gone, less, sound.once g c);
  pending = λ g c.
      let gone : times g (watchers_of new c) ≡ (if same_flow f g then 0 else times g (watchers_of old c)) = ap (times g) (change.watchers c) ∙ times-without f g (watchers_of old c) in
      let cut : times g (pending_on new c) ≡ (if same_flow f g then 0 else times g (pending_on old c)) = ap (times g) (change.pending c) ∙ times-without f g (pending_on old c) in
      let less = both_cut (same_flow f g) (times g (pending_on old c)) (times g (watchers_of old c)) (sound.pending g c) in
      omega (arith, gone, cut, less);
}
