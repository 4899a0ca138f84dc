-- What `watch` and `forget` write makes their changes, and what holds of the gates stays.
use Rattle.flow_gate.proofs.Calls.{books_found, line_found}
use Rattle.flow_gate.proofs.Placed.{gates_forget, gates_same, gates_watch, line_in, watches_in}
use Rattle.flow_gate.proofs.Reading.{BufferFound, BufferUpdated, FlowFound, FlowUpdated, counted-board, pending-board, pending_in, watched-board, watched_at, watchers-board, watchers_in}
use Rattle.flow_gate.proofs.SoundEnds.{Forgets-sound, Watches-sound}
use Rattle.flow_gate.proofs.Steps.{kept_buffer, kept_flow}
use Rattle.flow_gate.proofs.StepsEnds.{ForgetWrites, forgets, watches}
use Rattle.flow_gate.specs.Board.{IsSound, pending_on, times, times_of_buffer, watchers_of}
use Rattle.flow_gate.specs.Books.{Books}
use Rattle.flow_gate.specs.Changes.{Forgets, Watches}
use Rattle.flow_gate.specs.Line.{Line, at_place, left}
use Rattle.flow_gate.specs.Parts.{AreGates, AreWatches, Buffers, Flows, board_of, buffer_at, buffer_state, flow_state, held, is_stage, kept, watched_in}
use Rattle.flow_rules.specs.declared.ids.BufferId.{BufferId}
use Rattle.flow_rules.specs.declared.ids.BufferId.TheVariants as buffer
use Rattle.flow_rules.specs.declared.ids.FlowId.{FlowId}
use Rattle.std.proofs.Common.{ap, arith, inl, inr, refl, subst, sym, ◌∙◌}
use Rattle.std.proofs.lemmas.Bool.{cases_Bool}
use Rattle.std.proofs.lemmas.Map.Steps.{set_value_same}
use Rattle.std.proofs.lemmas.Option.{same_Some}
use Rattle.flow_gate.specs.Ids.{is_own, same_buffer, same_flow}
use Rattle.std.specs.List.{AllByRecursion}
use Rattle.std.specs.Option.{option_map, option_map_or}
use Rattle.std.specs.Map.{lookup, set_value, values_of}
use Rattle.std.specs.Prelude.{Bool, List, None, Option, Some, [], cond, if◌then◌else◌, length, map, ℕ, ◌++◌, ◌<◌, ◌∷◌, ◌≡◌, ◌≤◌, ◌^◌}

-- a value written that is seen as the one before, by what is seen of a value with its key
seen_same : {K X Y : Type 0} (g : K → X → Y) (test : K → Bool) (es : List (K × X)) (v w : X) → Some v ≡ lookup test es → ((k : K) → g k w ≡ g k v) →
    map {B = K × Y} (λ e. (e.0, g e.0 e.1)) (set_value test es w) ≡ map (λ e. (e.0, g e.0 e.1)) es
seen_same g test [] v w is same = refl
seen_same {K} {X} {Y} g test (e ∷ es) v w is same = elim (cases_Bool (test e.0)) [
  | inl here ↦
      let value : v ≡ e.1 = same_Some v e.1 (is ∙ ap (λ t. cond t (Some e.1) (lookup test es)) here) in
      ap (λ t. map {B = K × Y} (λ d. (d.0, g d.0 d.1)) (cond t ((e.0, w) ∷ es) (e ∷ set_value test es w))) here
      ∙ ap (λ y. (e.0, y) ∷ map {B = K × Y} (λ d. (d.0, g d.0 d.1)) es) (same e.0 ∙ ap (g e.0) value)
  | inr other ↦
      ap (λ t. map {B = K × Y} (λ d. (d.0, g d.0 d.1)) (cond t ((e.0, w) ∷ es) (e ∷ set_value test es w))) other
      ∙ ap (λ ys. (e.0, g e.0 e.1) ∷ ys) (seen_same g test es v w (is ∙ ap (λ t. cond t (Some e.1) (lookup test es)) other) same)
]

-- ---- no room for a watch
pub watch_failed : (f : FlowId) (b : BufferId) (books books' : Books) (line line' : Line) (flows flows' : Flows) (buffers buffers' : Buffers) →
    FlowFound f (Some books) flows → books'.watches ≡ books.watches →
    flows' ≡ set_value (same_flow f) flows books' → FlowUpdated f (Some books') flows flows' →
    BufferFound b (Some line) buffers → line' ≡ line → buffers' ≡ set_value (same_buffer b) buffers line' → BufferUpdated b (Some line') buffers buffers' →
    AreGates flows buffers → (board_of flows' buffers' ≡ board_of flows buffers) × AreGates flows' buffers'
watch_failed f b books books' line line' flows flows' buffers buffers' has lists writes updated found same puts joined gates =
    let there = books_found f books flows has in
    let is = line_found b line buffers found in
    let states : (g : FlowId) → flow_state buffers g books' ≡ flow_state buffers g books =
    λ g i. record { count = held buffers g (watched_in (lists i)); watched = watched_in (lists i) } in
    let lines : buffers' ≡ buffers = puts ∙ ap (set_value (same_buffer b) buffers) same ∙ set_value_same (same_buffer b) buffers line (sym found) in
    let seen : board_of flows' buffers' ≡ board_of flows buffers =
    ap (board_of flows') lines ∙ (λ i. record {
      flows = (ap (map (λ e. (e.0, flow_state buffers e.0 e.1))) writes ∙ seen_same (flow_state buffers) (same_flow f) flows books books' has states) i;
      buffers = map (λ e. (e.0, buffer_state e.1)) buffers;
    }) in (
      seen,
      gates_same flows flows' buffers buffers' (subst IsSound (sym seen) gates.sound)
          (kept_flow watches_in f (Some books') flows flows' updated (lists ∙ sym (ap watches_in there)))
          (kept_buffer line_in b (Some line') buffers buffers' joined (ap (λ l. l.watchers) same ∙ sym (ap line_in is))) gates,
    )

-- ---- a flow begins to watch
pub watch_begun : (f : FlowId) (b : BufferId) (place : ℕ) (books books' : Books) (line line' : Line) (flows flows' : Flows) (buffers buffers' : Buffers) →
    FlowFound f (Some books) flows → BufferFound b (Some line) buffers → at_place place line.watchers ≡ None → length books.watches < 2 ^ 62 →
    books'.watches ≡ books.watches ++ (record { buffer = b; place = place }) ∷ [] →
    FlowUpdated f (Some books') flows flows' → line' ≡ record line { watchers = line.watchers ++ (place, f) ∷ [] } → BufferUpdated b (Some line') buffers buffers' →
    times f (watchers_of (board_of flows buffers) b) ≡ 0 → AreGates flows buffers →
    Watches f b (board_of flows buffers) (board_of flows' buffers') × AreGates flows' buffers'
watch_begun f b place books books' line line' flows flows' buffers buffers' has found fresh few lists updated longer joined apart gates =
    let there = books_found f books flows has in
    let is = line_found b line buffers found in
    let joins : (c : BufferId) → buffer_at buffers' c ≡ cond (same_buffer b c) (Some (record line { watchers = line.watchers ++ (place, f) ∷ [] })) (buffer_at buffers c) =
    subst (λ l. (c : BufferId) → buffer_at buffers' c ≡ cond (same_buffer b c) (Some l) (buffer_at buffers c)) longer joined in
    let change = watches f b place books books' line flows flows' buffers buffers' there is apart gates.sound lists updated joins in (
      change,
      gates_watch f b place books books' line flows flows' buffers buffers' there is fresh few lists updated joins
          (Watches-sound f b _ _ apart (counted-board flows' buffers') change gates.sound) gates,
    )

-- ---- a flow is forgotten
-- the books of a flow say where it stands
pub are_watches : (f : FlowId) (books : Books) (flows : Flows) (buffers : Buffers) → FlowFound f (Some books) flows → AreGates flows buffers → AreWatches f books.watches buffers
are_watches f books flows buffers has gates =
    let there = books_found f books flows has in
    let line : (b : BufferId) → watchers_in (buffer_at buffers b) ≡ values_of (line_in (buffer_at buffers b)) = λ b. watchers_line (buffer_at buffers b) in
    record {
      placed = subst (λ o. AllByRecursion (λ w. at_place w.place (line_in (buffer_at buffers w.buffer)) ≡ Some f) (watches_in o)) there (gates.placed f);
      paired = λ b. ap (times f) (sym (line b) ∙ sym (watchers-board flows buffers b)) ∙ gates.sound.paired f b
          ∙ ap (times_of_buffer b) (watched-board flows buffers f ∙ ap watched_at there);
      once = λ b. subst (λ xs. times f xs ≤ 1) (watchers-board flows buffers b ∙ line b) (gates.sound.once f b);
      pending = λ b.
          let same : times f (pending_in (buffer_at buffers b)) ≡ times f (values_of (option_map_or (λ l. l.pending) (buffer_at buffers b) [])) = ap (times f) (pending_lines (buffer_at buffers b)) in
          let list : times f (watchers_in (buffer_at buffers b)) ≡ times f (values_of (line_in (buffer_at buffers b))) = ap (times f) (line b) in
          let seen : times f (pending_on (board_of flows buffers) b) ≡ times f (pending_in (buffer_at buffers b)) = ap (times f) (pending-board flows buffers b) in
          let whole : times f (watchers_of (board_of flows buffers) b) ≡ times f (watchers_in (buffer_at buffers b)) = ap (times f) (watchers-board flows buffers b) in
          omega (arith, same, list, seen, whole, gates.sound.pending f b);
    }
  where
    watchers_line : (o : Option Line) → watchers_in o ≡ values_of (line_in o)
    watchers_line None = refl
    watchers_line (Some line) = refl

    pending_lines : (o : Option Line) → pending_in o ≡ values_of (option_map_or (λ l. l.pending) o [])
    pending_lines None = refl
    pending_lines (Some line) = refl

pub flow_forgotten : (f : FlowId) (flows flows' : Flows) (buffers buffers' : Buffers) → FlowUpdated f None flows flows' → ForgetWrites f buffers buffers' →
    AreGates flows buffers → Forgets f (board_of flows buffers) (board_of flows' buffers') × AreGates flows' buffers'
flow_forgotten f flows flows' buffers buffers' updated leaves gates =
    let among : (g : FlowId) (c : BufferId) → times g (pending_in (buffer_at buffers c)) ≤ times g (watchers_in (buffer_at buffers c)) = λ g c.
    let seen : times g (pending_on (board_of flows buffers) c) ≡ times g (pending_in (buffer_at buffers c)) = ap (times g) (pending-board flows buffers c) in
    let whole : times g (watchers_of (board_of flows buffers) c) ≡ times g (watchers_in (buffer_at buffers c)) = ap (times g) (watchers-board flows buffers c) in
    omega (arith, seen, whole, gates.sound.pending g c) in
    let change = forgets f flows flows' buffers buffers' among gates.sound updated leaves in
    (change, gates_forget f flows flows' buffers buffers' updated leaves (Forgets-sound f _ _ (counted-board flows' buffers') change gates.sound) gates)

-- its own buffers are closed in three steps
pub own_closed : (f : FlowId) (b1 b2 b3 b4 : Buffers) → ((c : BufferId) → buffer_at b2 c ≡ (if same_buffer (buffer.Recv f) c then kept (buffer_at b1 c) else buffer_at b1 c)) →
    ((c : BufferId) → buffer_at b3 c ≡ (if is_stage f c then kept (buffer_at b2 c) else buffer_at b2 c)) →
    ((c : BufferId) → buffer_at b4 c ≡ (if same_buffer (buffer.Send f) c then kept (buffer_at b3 c) else buffer_at b3 c)) →
    (c : BufferId) → buffer_at b4 c ≡ cond (is_own f c) (kept (buffer_at b1 c)) (buffer_at b1 c)
own_closed f b1 b2 b3 b4 recv stages send (buffer.Recv g) = send (buffer.Recv g) ∙ stages (buffer.Recv g) ∙ recv (buffer.Recv g)
own_closed f b1 b2 b3 b4 recv stages send (buffer.Stage g i) =
    send (buffer.Stage g i) ∙ stages (buffer.Stage g i) ∙ ap (λ o. if same_flow f g then kept o else o) (recv (buffer.Stage g i))
own_closed f b1 b2 b3 b4 recv stages send (buffer.Send g) =
    send (buffer.Send g) ∙ ap (λ o. if same_flow f g then kept o else o) (stages (buffer.Send g) ∙ recv (buffer.Send g))
own_closed f b1 b2 b3 b4 recv stages send (buffer.Write c) = send (buffer.Write c) ∙ stages (buffer.Write c) ∙ recv (buffer.Write c)

pub forget_writes : (f : FlowId) (old b1 b2 b3 b4 : Buffers) → ((c : BufferId) → buffer_at b1 c ≡ option_map (left f) (buffer_at old c)) →
    ((c : BufferId) → buffer_at b2 c ≡ (if same_buffer (buffer.Recv f) c then kept (buffer_at b1 c) else buffer_at b1 c)) →
    ((c : BufferId) → buffer_at b3 c ≡ (if is_stage f c then kept (buffer_at b2 c) else buffer_at b2 c)) →
    ((c : BufferId) → buffer_at b4 c ≡ (if same_buffer (buffer.Send f) c then kept (buffer_at b3 c) else buffer_at b3 c)) → ForgetWrites f old b4
forget_writes f old b1 b2 b3 b4 leaves recv stages send c = own_closed f b1 b2 b3 b4 recv stages send c ∙ ap (λ o. cond (is_own f c) (kept o) o) (leaves c)
