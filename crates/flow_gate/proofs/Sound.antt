-- What each change does to the counts, by the law that they are computed by; and it keeps what holds of the gates at all times.
use Rattle.flow_gate.proofs.Counting.{count-and_not, count-append, count-cons, count-or, sum-plus, sum-times}
use Rattle.flow_gate.proofs.SameIds.{same_buffer-refl, same_buffer_exact, same_flow-comm, same_flow_exact}
use Rattle.flow_gate.specs.Board.{Board, IsSound, count, is_marked, lows, pending_on, times, times_of_buffer, watched_by, watchers_of}
use Rattle.flow_gate.specs.Changes.{Begins, Drains, Knows, Rises, Same, Tells, without}
use Rattle.flow_gate.specs.Ids.{same_buffer, same_flow}
use Rattle.flow_rules.specs.declared.ids.BufferId.{BufferId}
use Rattle.flow_rules.specs.declared.ids.FlowId.{FlowId}
use Rattle.std.proofs.Common.{ap, arith, inl, inr, refl, subst, sym, ◌∙◌}
use Rattle.std.proofs.lemmas.Bool.{cases_Bool}
use Rattle.std.specs.Prelude.{Bool, List, [], cond, count_by, false, if◌then◌else◌, not, sum_by, suc, true, zero, ℕ, ◌&&◌, ◌++◌, ◌+◌, ◌*◌, ◌||◌, ◌∷◌, ◌≡◌, ◌≤◌}

-- ---- parts
pub times-if : (f : FlowId) (t : Bool) (xs : List FlowId) → times f (if t then xs else []) ≡ (if t then times f xs else 0)
times-if f true xs = refl
times-if f false xs = refl

counted_less : (s u : Bool) (n : ℕ) → (s ≡ false → u ≡ false) → (if s then 0 else n) ≡ (if s then 0 else (cond u 1 0 + n))
counted_less true u n none = refl
counted_less false u n none = let gone : cond u 1 0 ≡ 0 = ap {B = ℕ} (λ v. cond v 1 0) (none refl) in omega (arith, gone)

counted_more : (s u : Bool) (n : ℕ) → (s ≡ true → u ≡ false) → cond u 1 0 + (if s then 0 else n) ≡ (if s then 0 else (cond u 1 0 + n))
counted_more true u n none = ap (λ v. cond v 1 0 + 0) (none refl)
counted_more false u n none = refl

pub times-without : (f g : FlowId) (xs : List FlowId) → times g (without f xs) ≡ (if same_flow f g then 0 else times g xs)
times-without f g [] = elim (same_flow f g) as (λ b. times g [] ≡ (if b then 0 else times g [])) [ true ↦ refl | false ↦ refl ]
times-without f g (x ∷ xs) =
    let rest = times-without f g xs in
    let each : (a : Bool) → same_flow f x ≡ a → times g (cond (not a) (x ∷ without f xs) (without f xs)) ≡ (if same_flow f g then 0 else (cond (same_flow g x) 1 0 + times g xs)) =
    λ a. elim a as (λ v. same_flow f x ≡ v → times g (cond (not v) (x ∷ without f xs) (without f xs)) ≡ (if same_flow f g then 0 else (cond (same_flow g x) 1 0 + times g xs))) [
      | true ↦ λ here. rest ∙ counted_less (same_flow f g) (same_flow g x) (times g xs)
          (λ apart. subst (λ y. same_flow g y ≡ false) (same_flow_exact f x here) (same_flow-comm g f ∙ apart))
      | false ↦ λ other. count-cons (same_flow g) x (without f xs) ∙ ap (λ n. cond (same_flow g x) 1 0 + n) rest
          ∙ counted_more (same_flow f g) (same_flow g x) (times g xs) (λ same. subst (λ y. same_flow y x ≡ false) (same_flow_exact f g same) other)
    ]
    in each (same_flow f x) refl ∙ ap (λ n. if same_flow f g then 0 else n) (sym (count-cons (same_flow g) x xs))

-- the law of the counts
abbrev pub IsCounted : Board → Type 0
IsCounted board = (f : FlowId) → count board f ≡ count_by (is_marked board) (watched_by board f) + lows board f

-- the same is seen of all that counts depend on
pub same_counts : (old new : Board) → IsCounted old → IsCounted new → Same is_marked old new → Same watched_by old new → Same pending_on old new → Same count old new
same_counts old new before after marks watched pending f =
    after f ∙ (λ i. count_by (λ b. marks b i) (watched f i) + sum_by (λ b. times f (pending b i)) (watched f i)) ∙ sym (before f)

-- nobody began to watch or left
pub sound_same : (old new : Board) → IsCounted new → Same watched_by old new → Same watchers_of old new → Same pending_on old new → IsSound old → IsSound new
sound_same old new counted watched watchers pending sound = record {
  counted = counted;
  paired = λ f b. rw (watchers b, watched f) (sound.paired f b);
  once = λ f b. rw (watchers b) (sound.once f b);
  pending = λ f b. rw (watchers b, pending b) (sound.pending f b);
}

pub Begins-sound : (f : FlowId) (old new : Board) → IsCounted new → Begins f old new → IsSound old → IsSound new
Begins-sound f old new counted c = sound_same old new counted c.watched c.watchers c.pending

pub Knows-sound : (b : BufferId) (old new : Board) → IsCounted new → Knows b old new → IsSound old → IsSound new
Knows-sound b old new counted c = sound_same old new counted c.watched c.watchers c.pending

-- ---- a rise
pub Rises-counts : (b : BufferId) (old new : Board) → is_marked old b ≡ false → IsCounted new → ((c : BufferId) → is_marked new c ≡ (same_buffer b c || is_marked old c)) →
    Same watched_by old new → Same pending_on old new → IsSound old → (f : FlowId) → count new f ≡ count old f + times f (watchers_of old b)
Rises-counts b old new low counted marked watched pending sound f =
    let bs : List BufferId = watched_by old f in
    let marks : count_by (is_marked new) bs ≡ times_of_buffer b bs + count_by (is_marked old) bs =
    (λ i. count_by (λ c. marked c i) bs)
    ∙ count-or (same_buffer b) (is_marked old) (λ c e. subst (λ d. is_marked old d ≡ false) (same_buffer_exact b c e) low) bs
    in
    let same : lows new f ≡ lows old f = λ i. sum_by (λ c. times f (pending c i)) (watched f i) in
    let whole : count_by (is_marked new) (watched_by new f) ≡ count_by (is_marked new) bs = ap (count_by (is_marked new)) (watched f) in
    omega (arith, counted f, sound.counted f, sound.paired f b, marks, same, whole)

pub Rises-sound : (b : BufferId) (old new : Board) → IsCounted new → Rises b old new → IsSound old → IsSound new
Rises-sound b old new counted change = sound_same old new counted change.watched change.watchers change.pending

-- ---- a drain
once_squared : (n : ℕ) → n ≤ 1 → n * n ≡ n
once_squared zero small = refl
once_squared (suc n) small = let none : n ≡ 0 = omega (arith, small) in subst (λ m. suc m * suc m ≡ suc m) (sym none) refl

-- each watcher of the buffer has one more low
abbrev pub AddsLows : BufferId → Board → Board → Type 0
AddsLows b old new = (c : BufferId) → pending_on new c ≡ pending_on old c ++ (if same_buffer b c then watchers_of old b else [])

drained_times : (b : BufferId) (old new : Board) → AddsLows b old new → (f : FlowId) (c : BufferId) →
    times f (pending_on new c) ≡ times f (pending_on old c) + (if same_buffer b c then times f (watchers_of old b) else 0)
drained_times b old new lists f c =
    ap (times f) (lists c) ∙ count-append (same_flow f) (pending_on old c) (if same_buffer b c then watchers_of old b else [])
    ∙ ap (λ n. times f (pending_on old c) + n) (times-if f (same_buffer b c) (watchers_of old b))

pub Drains-counts : (b : BufferId) (old new : Board) → is_marked old b ≡ true → IsCounted new → ((c : BufferId) → is_marked new c ≡ (not (same_buffer b c) && is_marked old c)) →
    Same watched_by old new → AddsLows b old new → IsSound old → Same count old new
Drains-counts b old new high counted marked watched lists sound f =
    let bs : List BufferId = watched_by old f in
    let many : ℕ = times f (watchers_of old b) in
    let marks : count_by (is_marked new) bs + times_of_buffer b bs ≡ count_by (is_marked old) bs =
    ap (λ n. n + times_of_buffer b bs) (λ i. count_by (λ c. marked c i) bs)
    ∙ count-and_not (same_buffer b) (is_marked old) (λ c e. subst (λ d. is_marked old d ≡ true) (same_buffer_exact b c e) high) bs
    in
    let pending : lows new f ≡ lows old f + times_of_buffer b bs * many =
    (λ i. sum_by (λ c. drained_times b old new lists f c i) (watched f i))
    ∙ sum-plus (λ c. times f (pending_on old c)) (λ c. if same_buffer b c then many else 0) bs
    ∙ ap (λ n. lows old f + n) (sum-times (same_buffer b) many bs)
    in
    let whole : count_by (is_marked new) (watched_by new f) ≡ count_by (is_marked new) bs = ap (count_by (is_marked new)) (watched f) in
    let squared : times_of_buffer b bs * many ≡ many = ap (λ n. n * many) (sym (sound.paired f b)) ∙ once_squared many (sound.once f b) in
    omega (arith, counted f, sound.counted f, sound.paired f b, marks, pending, whole, squared)

pub Drains-sound : (b : BufferId) (old new : Board) → pending_on old b ≡ [] → IsCounted new → Drains b old new → IsSound old → IsSound new
Drains-sound b old new none counted change sound = record {
  counted = counted;
  paired = λ f c. rw (change.watchers c, change.watched f) (sound.paired f c);
  once = λ f c. rw (change.watchers c) (sound.once f c);
  pending = λ f c.
      let each = drained_times b old new change.pending f c in
      let empty : times f (pending_on old b) ≡ 0 = ap (times f) none in
      let watchers : times f (watchers_of new c) ≡ times f (watchers_of old c) = ap (times f) (change.watchers c) in
      elim (cases_Bool (same_buffer b c)) [
        | inl here ↦
            let same : b ≡ c = same_buffer_exact b c here in
            let pending : times f (pending_on old c) ≡ 0 = subst (λ d. times f (pending_on old d) ≡ 0) same empty in
            let all : times f (watchers_of old b) ≡ times f (watchers_of old c) = ap (λ d. times f (watchers_of old d)) same in
            let added : (if same_buffer b c then times f (watchers_of old b) else 0) ≡ times f (watchers_of old b) = ap (λ t. if t then times f (watchers_of old b) else 0) here in
            omega (arith, each, pending, all, added, watchers)
        | inr other ↦
            let added : (if same_buffer b c then times f (watchers_of old b) else 0) ≡ 0 = ap (λ t. if t then times f (watchers_of old b) else 0) other in
            omega (arith, each, added, watchers, sound.pending f c)
      ];
}

-- ---- a low that is told
-- the first lows of the buffer are taken
abbrev pub TakesLows : BufferId → List FlowId → Board → Board → Type 0
TakesLows b told old new = (c : BufferId) → pending_on old c ≡ (if same_buffer b c then told else []) ++ pending_on new c

told_times : (b : BufferId) (told : List FlowId) (old new : Board) → TakesLows b told old new → (f : FlowId) (c : BufferId) →
    times f (pending_on old c) ≡ (if same_buffer b c then times f told else 0) + times f (pending_on new c)
told_times b told old new lists f c =
    ap (times f) (lists c) ∙ count-append (same_flow f) (if same_buffer b c then told else []) (pending_on new c)
    ∙ ap (λ n. n + times f (pending_on new c)) (times-if f (same_buffer b c) told)

once_times : (k t : ℕ) → t ≤ k → k ≤ 1 → k * t ≡ t
once_times k zero le small = omega arith
once_times k (suc t) le small = let one : k ≡ 1 = omega arith in ap (λ m. m * suc t) one ∙ omega arith

pub Tells-counts : (b : BufferId) (told : List FlowId) (old new : Board) → IsCounted new → Same is_marked old new → Same watched_by old new → TakesLows b told old new →
    IsSound old → (f : FlowId) → count new f + times f told ≡ count old f
Tells-counts b told old new counted marked watched lists sound f =
    let bs : List BufferId = watched_by old f in
    let marks : count_by (is_marked new) (watched_by new f) ≡ count_by (is_marked old) bs = λ i. count_by (λ c. marked c i) (watched f i) in
    let pending : lows old f ≡ times_of_buffer b bs * times f told + sum_by (λ c. times f (pending_on new c)) bs =
    (λ i. sum_by (λ c. told_times b told old new lists f c i) bs)
    ∙ sum-plus (λ c. if same_buffer b c then times f told else 0) (λ c. times f (pending_on new c)) bs
    ∙ ap (λ n. n + sum_by (λ c. times f (pending_on new c)) bs) (sum-times (same_buffer b) (times f told) bs)
    in
    let rest : lows new f ≡ sum_by (λ c. times f (pending_on new c)) bs = ap (sum_by (λ c. times f (pending_on new c))) (watched f) in
    let front : times f (pending_on old b) ≡ times f told + times f (pending_on new b) =
    told_times b told old new lists f b ∙ ap (λ t. (if t then times f told else 0) + times f (pending_on new b)) (same_buffer-refl b)
    in
    let within : times f told ≤ times f (watchers_of old b) = omega (arith, front, sound.pending f b) in
    let one : times_of_buffer b bs * times f told ≡ times f told =
    ap (λ n. n * times f told) (sym (sound.paired f b)) ∙ once_times (times f (watchers_of old b)) (times f told) within (sound.once f b)
    in
    omega (arith, counted f, sound.counted f, marks, pending, rest, one)

pub Tells-sound : (b : BufferId) (told : List FlowId) (old new : Board) → IsCounted new → Tells b told old new → IsSound old → IsSound new
Tells-sound b told old new counted change sound = record {
  counted = counted;
  paired = λ f c. rw (change.watchers c, change.watched f) (sound.paired f c);
  once = λ f c. rw (change.watchers c) (sound.once f c);
  pending = λ f c.
      let watchers : times f (watchers_of new c) ≡ times f (watchers_of old c) = ap (times f) (change.watchers c) in
      omega (arith, told_times b told old new change.pending f c, watchers, sound.pending f c);
}
