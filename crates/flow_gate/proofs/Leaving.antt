-- A loop by which a flow leaves the lines of its buffers, one after another.
use Rattle.flow_gate.proofs.Counting.{count-append, count-cons}
use Rattle.flow_gate.proofs.Places.{others-none}
use Rattle.flow_gate.proofs.Calls.{line_found}
use Rattle.flow_gate.proofs.Placed.{line_in}
use Rattle.flow_gate.proofs.Reading.{BufferFound, BufferUpdated}
use Rattle.flow_gate.proofs.SameIds.{same_buffer-refl, same_buffer-comm, same_buffer_exact}
use Rattle.flow_gate.specs.Board.{times, times_of_buffer}
use Rattle.flow_gate.specs.Ids.{same_buffer}
use Rattle.flow_gate.specs.Line.{Line, at_place, left}
use Rattle.flow_gate.specs.Parts.{AreWatches, Buffers, StandsIn, buffer_at, line_at, watched_in}
use Rattle.flow_rules.specs.declared.ids.BufferId.{BufferId}
use Rattle.flow_rules.specs.declared.ids.FlowId.{FlowId}
use Rattle.flow_gate.specs.declared.watcher.Watch.{Watch}
use Rattle.std.proofs.Common.{ap, arith, get_or, inl, inr, refl, subst, sym, ◌∙◌}
use Rattle.std.proofs.lemmas.Bool.{cases_Bool, le-ltb, lt-ltb, ltb-false}
use Rattle.std.proofs.lemmas.List.{drop_more, take-append-drop, take_more}
use Rattle.std.proofs.lemmas.Option.{none-some, same_Some}
use Rattle.std.specs.List.{AllByRecursion}
use Rattle.std.specs.Map.{values_of}
use Rattle.std.specs.Option.{option_map, option_map_or}
use Rattle.std.specs.Prelude.{List, None, Option, Some, [], cond, drop, if◌then◌else◌, length, map, nat_lt, take, ℕ, ◌++◌, ◌+◌, ◌<◌, ◌∷◌, ◌≡◌, ◌≤◌}

-- a line after these watches: without the flow, where its buffer is among them
abbrev pub left_so_far : FlowId → List Watch → BufferId → Option Line → Option Line
left_so_far f ws b line = if nat_lt 0 (times_of_buffer b (watched_in ws)) then option_map (left f) line else line

pub map-append : {A B : Type 0} (f : A → B) (xs ys : List A) → map f (xs ++ ys) ≡ map f xs ++ map f ys
map-append f [] ys = refl
map-append f (x ∷ xs) ys = ap (λ zs. f x ∷ zs) (map-append f xs ys)

-- what holds of each of these, and of the one between them
each_middle : {X : Type 0} (P : X → Type 0) (xs ys : List X) (x : X) → AllByRecursion P (xs ++ (x ∷ ys)) → P x
each_middle P [] ys x all = all.0
each_middle P (y ∷ xs) ys x all = each_middle P xs ys x all.1

-- the flow stands where the watch between these says
pub watch_middle : (f : FlowId) (so_far rest : List Watch) (w : Watch) (buffers : Buffers) → AreWatches f (so_far ++ (w ∷ rest)) buffers → at_place w.place (line_at buffers w.buffer) ≡ Some f
watch_middle f so_far rest w buffers are = each_middle (λ v. at_place v.place (line_at buffers v.buffer) ≡ Some f) so_far rest w are.placed

none_before : (f : FlowId) (so_far rest : List Watch) (w : Watch) (buffers : Buffers) → AreWatches f (so_far ++ (w ∷ rest)) buffers →
    times_of_buffer w.buffer (watched_in so_far) ≡ 0
none_before f so_far rest w buffers are =
    let whole : times_of_buffer w.buffer (watched_in (so_far ++ (w ∷ rest))) ≡ times_of_buffer w.buffer (watched_in so_far) + times_of_buffer w.buffer (w.buffer ∷ watched_in rest) =
    ap (times_of_buffer w.buffer) (map-append (λ (v : Watch). v.buffer) so_far (w ∷ rest)) ∙ count-append (same_buffer w.buffer) (watched_in so_far) (w.buffer ∷ watched_in rest) in
    let one : ◌≡◌ {A = ℕ} (cond (same_buffer w.buffer w.buffer) 1 0) 1 = ap {B = ℕ} (λ t. cond t 1 0) (same_buffer-refl w.buffer) in
    omega (arith, whole, one, count-cons (same_buffer w.buffer) w.buffer (watched_in rest), are.paired w.buffer, are.once w.buffer)

pub some_line : (o : Option Line) (place : ℕ) (f : FlowId) → at_place place (line_in o) ≡ Some f → (line : Line) × (o ≡ Some line)
some_line None place f at = absurd (none-some f at)
some_line (Some line) place f at = (line, refl)

-- the line that the next watch is about is still as it was
pub leaves_next : (f : FlowId) (so_far rest : List Watch) (w : Watch) (old now : Buffers) → AreWatches f (so_far ++ (w ∷ rest)) old →
    ((b : BufferId) → buffer_at now b ≡ left_so_far f so_far b (buffer_at old b)) → (line : Line) × (buffer_at old w.buffer ≡ Some line) × StandsIn f w line now
leaves_next f so_far rest w old now are before =
    let at = watch_middle f so_far rest w old are in
    let line = some_line (buffer_at old w.buffer) w.place f at in
    let untouched : buffer_at now w.buffer ≡ buffer_at old w.buffer = before w.buffer
    ∙ ap (λ t. if t then option_map (left f) (buffer_at old w.buffer) else buffer_at old w.buffer) (le-ltb 0 (times_of_buffer w.buffer (watched_in so_far)) (let none = none_before f so_far rest w old are in omega (arith, none))) in (
      line.0,
      line.1,
      record {
        found = untouched ∙ line.1;
        here = ap (λ o. at_place w.place (line_in o)) (sym line.1) ∙ at;
        once = subst (λ o. times f (values_of (line_in o)) ≤ 1) line.1 (are.once w.buffer);
      },
    )

pub leave_step : (f : FlowId) (so_far rest : List Watch) (w : Watch) (old now new : Buffers) → AreWatches f (so_far ++ (w ∷ rest)) old →
    ((b : BufferId) → buffer_at now b ≡ left_so_far f so_far b (buffer_at old b)) →
    ((line : Line) → StandsIn f w line now → (b : BufferId) → buffer_at new b ≡ (if same_buffer w.buffer b then Some (left f line) else buffer_at now b)) →
    (b : BufferId) → buffer_at new b ≡ left_so_far f (so_far ++ w ∷ []) b (buffer_at old b)
leave_step f so_far rest w old now new are before leaves b =
    let next = leaves_next f so_far rest w old now are before in
    let more : times_of_buffer b (watched_in (so_far ++ w ∷ [])) ≡ times_of_buffer b (watched_in so_far) + times_of_buffer b (w.buffer ∷ []) =
    ap (times_of_buffer b) (map-append (λ (v : Watch). v.buffer) so_far (w ∷ [])) ∙ count-append (same_buffer b) (watched_in so_far) (w.buffer ∷ []) in
    leaves next.0 next.2 b ∙ elim (cases_Bool (same_buffer w.buffer b)) [
      | inl here ↦
          let one : times_of_buffer b (w.buffer ∷ []) ≡ 1 = ap {B = ℕ} (λ t. 0 + cond t 1 0) (same_buffer-comm b w.buffer ∙ here) in
          let old_line : buffer_at old b ≡ Some next.0 = ap (buffer_at old) (sym (same_buffer_exact w.buffer b here)) ∙ next.1 in
          ap (λ t. if t then Some (left f next.0) else buffer_at now b) here
          ∙ sym (ap (λ t. if t then option_map (left f) (buffer_at old b) else buffer_at old b) (lt-ltb 0 (times_of_buffer b (watched_in (so_far ++ w ∷ []))) (omega (arith, more, one)))
          ∙ ap (option_map (left f)) old_line)
      | inr other ↦
          let none : times_of_buffer b (w.buffer ∷ []) ≡ 0 = ap {B = ℕ} (λ t. 0 + cond t 1 0) (same_buffer-comm b w.buffer ∙ other) in
          let same : times_of_buffer b (watched_in so_far) ≡ times_of_buffer b (watched_in (so_far ++ w ∷ [])) = omega (arith, more, none) in
          ap (λ t. if t then Some (left f next.0) else buffer_at now b) other ∙ before b
          ∙ ap (λ n. if nat_lt 0 n then option_map (left f) (buffer_at old b) else buffer_at old b) same
    ]

-- a flow that isn't in a line leaves nothing there
left-none : (f : FlowId) (o : Option Line) → times f (values_of (line_in o)) ≡ 0 → times f (values_of (option_map_or (λ line. line.pending) o [])) ≡ 0 →
    o ≡ option_map (left f) o
left-none f None none silent = refl
left-none f (Some line) none silent =
    λ i. Some (record { above = line.above; watchers = sym (others-none f line.watchers none) i; pending = sym (others-none f line.pending silent) i })

pub left_all : (f : FlowId) (ws : List Watch) (old : Buffers) (b : BufferId) → AreWatches f ws old → left_so_far f ws b (buffer_at old b) ≡ option_map (left f) (buffer_at old b)
left_all f ws old b are = elim (cases_Bool (nat_lt 0 (times_of_buffer b (watched_in ws)))) [
  | inl some ↦ ap (λ t. if t then option_map (left f) (buffer_at old b) else buffer_at old b) some
  | inr none ↦
      let zero : times_of_buffer b (watched_in ws) ≤ 0 = ltb-false 0 (times_of_buffer b (watched_in ws)) none in
      ap (λ t. if t then option_map (left f) (buffer_at old b) else buffer_at old b) none
      ∙ left-none f (buffer_at old b) (omega (arith, zero, are.paired b)) (omega (arith, zero, are.paired b, are.pending b))
]

-- the line that a look-up found is the one where the flow stands
pub line_there : (f : FlowId) (w : Watch) (line gate : Line) (old : Buffers) → StandsIn f w line old → BufferFound w.buffer (Some gate) old → line ≡ gate
line_there f w line gate old stands found = same_Some line gate (sym stands.found ∙ line_found w.buffer gate old found)

-- what is written where the flow leaves
pub left_written : (f : FlowId) (w : Watch) (line gate gate' : Line) (old new : Buffers) → StandsIn f w line old → BufferFound w.buffer (Some gate) old →
    (at_place w.place gate.watchers ≡ Some f → times f (values_of gate.watchers) ≤ 1 → gate' ≡ left f gate) → BufferUpdated w.buffer (Some gate') old new →
    (b : BufferId) → buffer_at new b ≡ (if same_buffer w.buffer b then Some (left f line) else buffer_at old b)
left_written f w line gate gate' old new leaves found removes updated b =
    let same = line_there f w line gate old leaves found in
    let here : at_place w.place gate.watchers ≡ Some f = subst (λ l. at_place w.place l.watchers ≡ Some f) same leaves.here in
    let once : times f (values_of gate.watchers) ≤ 1 = subst (λ l. times f (values_of l.watchers) ≤ 1) same leaves.once in
    updated b ∙ ap (λ l. cond (same_buffer w.buffer b) (Some l) (buffer_at old b)) (removes here once ∙ ap (left f) (sym same))

pub not_there : (f : FlowId) (w : Watch) (line : Line) (old : Buffers) → StandsIn f w line old → BufferFound w.buffer None old → ⊥
not_there f w line old leaves found = none-some line (found ∙ leaves.found)

-- a list around one of its places
pub split_list : {X : Type 0} (xs : List X) (i : ℕ) (d : X) → i < length xs → (xs ≡ take i xs ++ (get_or xs i d ∷ drop (i + 1) xs)) × (take (i + 1) xs ≡ take i xs ++ get_or xs i d ∷ [])
split_list xs i d within = (sym (take-append-drop i xs) ∙ ap (λ ys. take i xs ++ ys) (drop_more xs i d within), take_more xs i d within)

pub leave_more : (f : FlowId) (ws : List Watch) (i : ℕ) (d : Watch) (old now new : Buffers) → i < length ws → AreWatches f ws old →
    ((b : BufferId) → buffer_at now b ≡ left_so_far f (take i ws) b (buffer_at old b)) →
    ((line : Line) → StandsIn f (get_or ws i d) line now → (b : BufferId) → buffer_at new b ≡ (if same_buffer (get_or ws i d).buffer b then Some (left f line) else buffer_at now b)) →
    (b : BufferId) → buffer_at new b ≡ left_so_far f (take (i + 1) ws) b (buffer_at old b)
leave_more f ws i d old now new within are before leaves b =
    let parts = split_list ws i d within in
    leave_step f (take i ws) (drop (i + 1) ws) (get_or ws i d) old now new (subst (λ xs. AreWatches f xs old) parts.0 are) before leaves b
    ∙ ap (λ xs. left_so_far f xs b (buffer_at old b)) (sym parts.1)
