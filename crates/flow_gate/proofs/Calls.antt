-- What each call writes makes its change, and what holds of the gates stays.
use Rattle.flow_gate.proofs.Counting.{count-cons}
use Rattle.flow_gate.proofs.Placed.{gates_same, line_in, watches_in}
use Rattle.flow_gate.proofs.Reading.{BufferFound, BufferUpdated, FlowFound, FlowUpdated, above_in, counted-board, is_known-board, is_open-board, pending-board, pending_in, values-nil, watched-board, watchers-board, watchers_in}
use Rattle.flow_gate.proofs.SameIds.{same_buffer_exact, same_flow-refl}
use Rattle.flow_gate.proofs.Sound.{Begins-sound, Drains-sound, Knows-sound, Rises-sound, Tells-sound}
use Rattle.flow_gate.proofs.SoundEnds.{Closes-sound}
use Rattle.flow_gate.proofs.Steps.{BufferWrites, begins, closes, drains, kept_buffer, kept_flow, knows, rises, tells}
use Rattle.flow_gate.specs.Board.{is_known, is_marked, is_open, pending_on, times, times_of_buffer, watchers_of}
use Rattle.flow_gate.specs.Books.{Books}
use Rattle.flow_gate.specs.Changes.{Begins, Closes, Drains, Knows, Rises, Tells}
use Rattle.flow_gate.specs.Ids.{same_buffer, same_flow}
use Rattle.flow_gate.specs.Line.{Line, Places, told}
use Rattle.flow_gate.specs.Parts.{AreGates, Buffers, Flows, board_of, buffer_at, flow_at}
use Rattle.flow_rules.specs.declared.ids.BufferId.{BufferId}
use Rattle.flow_rules.specs.declared.ids.FlowId.{FlowId}
use Rattle.std.proofs.Common.{ap, arith, inl, inr, refl, subst, sym, ◌∙◌}
use Rattle.std.proofs.lemmas.Bool.{cases_Bool, false≢true}
use Rattle.std.proofs.lemmas.List.{drop-map, take-append-drop, take_all}
use Rattle.std.proofs.lemmas.Option.{none-some, same_Some}
use Rattle.std.specs.Map.{values_of}
use Rattle.std.specs.Option.{option_map}
use Rattle.std.specs.Prelude.{Err, List, None, Ok, OnErr, Option, Result, Some, [], cond, drop, false, is_some, option_to_list, slice_get, take, true, ℕ, ◌++◌, ◌<◌, ◌∷◌, ◌≡◌, ◌⊎◌, ◌↔◌}

-- ---- small facts
pub books_found : (f : FlowId) (books : Books) (flows : Flows) → FlowFound f (Some books) flows → flow_at flows f ≡ Some books
books_found f books flows found = sym found

pub line_found : (b : BufferId) (line : Line) (buffers : Buffers) → BufferFound b (Some line) buffers → buffer_at buffers b ≡ Some line
line_found b line buffers found = sym found

pub nothing : {X : Type 0} (o : Option X) → is_some o ≡ false → o ≡ None
nothing None e = refl
nothing (Some x) e = absurd (false≢true (sym e))

-- a list that has no flow is empty
pub empty_list : (xs : List FlowId) → ((f : FlowId) → times f xs ≡ 0) → xs ≡ []
empty_list [] none = refl
empty_list (x ∷ xs) none =
    let one : ◌≡◌ {A = ℕ} (cond (same_flow x x) 1 0) 1 = ap {B = ℕ} (λ t. cond t 1 0) (same_flow-refl x) in
    absurd (omega (arith, one, none x, count-cons (same_flow x) x xs))

silent : (flows : Flows) (buffers : Buffers) (b : BufferId) → AreGates flows buffers → watchers_of (board_of flows buffers) b ≡ [] → pending_on (board_of flows buffers) b ≡ []
silent flows buffers b gates none = empty_list (pending_on (board_of flows buffers) b) (λ f.
    let zero : times f (watchers_of (board_of flows buffers) b) ≡ 0 = ap (times f) none in
    omega (arith, zero, gates.sound.pending f b))

-- ---- no flows and no buffers
pub new_gates : AreGates [] []
new_gates = record {
  sound = record {
    counted = counted-board [] [];
    paired = λ f b. (λ i. times f (watchers-board [] [] b i)) ∙ sym (λ i. times_of_buffer b (watched-board [] [] f i));
    once = λ f b. rw (watchers-board [] [] b) (omega arith);
    pending = λ f b. rw (pending-board [] [] b) (omega arith);
  };
  placed = λ f. tt;
  few = λ f. omega arith;
}

-- ---- a flow begins
pub flow_opened : (f : FlowId) (books : Books) (flows flows' : Flows) (buffers : Buffers) → is_open (board_of flows buffers) f ≡ false →
    books.watches ≡ [] → FlowUpdated f (Some books) flows flows' → AreGates flows buffers →
    Begins f (board_of flows buffers) (board_of flows' buffers) × AreGates flows' buffers
flow_opened f books flows flows' buffers closed empty updated gates =
    let none : flow_at flows f ≡ None = nothing (flow_at flows f) (sym (is_open-board flows buffers f) ∙ closed) in
    let change = begins f books flows flows' buffers none empty updated in (
      change,
      gates_same flows flows' buffers buffers (Begins-sound f _ _ (counted-board flows' buffers) change gates.sound)
          (kept_flow watches_in f (Some books) flows flows' updated (empty ∙ sym (ap watches_in none))) (λ b. refl) gates,
    )

-- ---- a buffer is known
pub buffer_opened : (b : BufferId) (line : Line) (flows : Flows) (buffers buffers' : Buffers) → is_known (board_of flows buffers) b ≡ false →
    line ≡ record { above = false; watchers = []; pending = [] } → BufferUpdated b (Some line) buffers buffers' → AreGates flows buffers →
    Knows b (board_of flows buffers) (board_of flows buffers') × AreGates flows buffers'
buffer_opened b line flows buffers buffers' unknown fresh updated gates =
    let writes : BufferWrites b (Some (record { above = false; watchers = []; pending = [] })) buffers buffers' =
    subst (λ l. BufferWrites b (Some l) buffers buffers') fresh updated in
    let none : buffer_at buffers b ≡ None = nothing (buffer_at buffers b) (sym (is_known-board flows buffers b) ∙ unknown) in
    let change = knows b flows buffers buffers' none writes in (
      change,
      gates_same flows flows buffers buffers' (Knows-sound b _ _ (counted-board flows buffers') change gates.sound) (λ f. refl)
          (kept_buffer line_in b (Some (record { above = false; watchers = []; pending = [] })) buffers buffers' writes (sym (ap line_in none))) gates,
    )

-- ---- a buffer is closed
line_in-nil : (o : Option Line) → watchers_in o ≡ [] → line_in o ≡ []
line_in-nil None e = refl
line_in-nil (Some line) e = values-nil line.watchers e

pub buffer_closed : (b : BufferId) (flows : Flows) (buffers buffers' : Buffers) → watchers_of (board_of flows buffers) b ≡ [] →
    BufferUpdated b None buffers buffers' → AreGates flows buffers →
    Closes b (board_of flows buffers) (board_of flows buffers') × AreGates flows buffers'
buffer_closed b flows buffers buffers' unwatched updated gates =
    let none : watchers_in (buffer_at buffers b) ≡ [] = sym (watchers-board flows buffers b) ∙ unwatched in
    let change = closes b flows buffers buffers' unwatched (silent flows buffers b gates unwatched) gates.sound updated in (
      change,
      gates_same flows flows buffers buffers' (Closes-sound b _ _ (counted-board flows buffers') change gates.sound) (λ f. refl)
          (kept_buffer line_in b None buffers buffers' updated (sym (line_in-nil (buffer_at buffers b) none))) gates,
    )

-- ---- a drain
pub buffer_drained : (b : BufferId) (line line' : Line) (flows : Flows) (buffers buffers' : Buffers) → BufferFound b (Some line) buffers →
    line' ≡ record { above = false; watchers = line.watchers; pending = line.watchers } → BufferUpdated b (Some line') buffers buffers' →
    is_marked (board_of flows buffers) b ≡ true → pending_on (board_of flows buffers) b ≡ [] → AreGates flows buffers →
    Drains b (board_of flows buffers) (board_of flows buffers') × AreGates flows buffers'
buffer_drained b line line' flows buffers buffers' found drained updated high none gates =
    let is = line_found b line buffers found in
    let told : values_of line.pending ≡ [] = sym (pending-board flows buffers b ∙ ap pending_in is) ∙ none in
    let joined : BufferWrites b (Some (record { above = false; watchers = line.watchers; pending = line.watchers })) buffers buffers' =
    subst (λ l. BufferWrites b (Some l) buffers buffers') drained updated in
    let change = drains b line flows buffers buffers' is told high gates.sound joined in (
      change,
      gates_same flows flows buffers buffers' (Drains-sound b _ _ none (counted-board flows buffers') change gates.sound) (λ f. refl)
          (kept_buffer line_in b (Some (record { above = false; watchers = line.watchers; pending = line.watchers })) buffers buffers' joined (sym (ap line_in is))) gates,
    )

-- ---- a rise
pub buffer_rose : (b : BufferId) (line line' : Line) (flows : Flows) (buffers buffers' : Buffers) → BufferFound b (Some line) buffers →
    line' ≡ record line { above = true } → BufferUpdated b (Some line') buffers buffers' → is_marked (board_of flows buffers) b ≡ false → AreGates flows buffers →
    Rises b (board_of flows buffers) (board_of flows buffers') × AreGates flows buffers'
buffer_rose b line line' flows buffers buffers' found rose updated low gates =
    let is = line_found b line buffers found in
    let joined : BufferWrites b (Some (record line { above = true })) buffers buffers' =
    subst (λ l. BufferWrites b (Some l) buffers buffers') rose updated in
    let change = rises b line flows buffers buffers' is low gates.sound joined in (
      change,
      gates_same flows flows buffers buffers' (Rises-sound b _ _ (counted-board flows buffers') change gates.sound) (λ f. refl)
          (kept_buffer line_in b (Some (record line { above = true })) buffers buffers' joined (sym (ap line_in is))) gates,
    )

-- ---- a low that is told
first_low : (pending : Places) (f : FlowId) → Some f ≡ option_map (λ e. e.1) (slice_get pending 0) → (place : ℕ) × (pending ≡ (place, f) ∷ drop 1 pending)
first_low [] f is = absurd (none-some f (sym is))
first_low (e ∷ pending) f is = (e.0, let same : f ≡ e.1 = cc in ap (λ g. (e.0, g) ∷ pending) (sym same))

-- the flow that a gate tells has a pending low
told_low : (b : BufferId) (line : Line) (f : FlowId) (flows : Flows) (buffers : Buffers) → BufferFound b (Some line) buffers →
    Some f ≡ option_map (λ e. e.1) (slice_get line.pending 0) → 0 < times f (pending_on (board_of flows buffers) b)
told_low b line f flows buffers found first =
    let is = line_found b line buffers found in
    let low = first_low line.pending f first in
    let list : pending_on (board_of flows buffers) b ≡ f ∷ values_of (drop 1 line.pending) = pending-board flows buffers b ∙ ap pending_in is ∙ ap values_of low.1 in
    let count : times f (pending_on (board_of flows buffers) b) ≡ times f (f ∷ values_of (drop 1 line.pending)) = ap (times f) list in
    let one : ◌≡◌ {A = ℕ} (cond (same_flow f f) 1 0) 1 = ap {B = ℕ} (λ t. cond t 1 0) (same_flow-refl f) in
    omega (arith, count, one, count-cons (same_flow f) f (values_of (drop 1 line.pending)))

-- lows that are told leave the front of the list
lows_told : (b : BufferId) (w : Option Line) (first : List FlowId) (flows : Flows) (buffers buffers' : Buffers) →
    is_some w ≡ is_some (buffer_at buffers b) → above_in w ≡ above_in (buffer_at buffers b) → line_in w ≡ line_in (buffer_at buffers b) →
    pending_in (buffer_at buffers b) ≡ first ++ pending_in w → BufferWrites b w buffers buffers' →
    AreGates flows buffers → Tells b first (board_of flows buffers) (board_of flows buffers') × AreGates flows buffers'
lows_told b w first flows buffers buffers' known above line front writes gates =
    let change = tells b w first flows buffers buffers' known above (watching w (buffer_at buffers b) line) front gates.sound writes in (
      change,
      gates_same flows flows buffers buffers' (Tells-sound b first _ _ (counted-board flows buffers') change gates.sound) (λ g. refl)
          (kept_buffer line_in b w buffers buffers' writes line) gates,
    )
  where
    seen : (o : Option Line) → watchers_in o ≡ values_of (line_in o)
    seen None = refl
    seen (Some l) = refl

    watching : (o p : Option Line) → line_in o ≡ line_in p → watchers_in o ≡ watchers_in p
    watching o p same = seen o ∙ ap values_of same ∙ sym (seen p)

no_low : (pending : Places) → None ≡ option_map (λ e. e.1) (slice_get pending 0) → pending ≡ []
no_low [] is = refl
no_low (e ∷ pending) is = absurd (none-some e.1 is)

pending_none : (b : BufferId) (line : Line) (flows : Flows) (buffers : Buffers) → BufferFound b (Some line) buffers →
    None ≡ option_map (λ e. e.1) (slice_get line.pending 0) → pending_on (board_of flows buffers) b ≡ []
pending_none b line flows buffers found none = pending-board flows buffers b ∙ ap pending_in (line_found b line buffers found) ∙ ap values_of (no_low line.pending none)

first_told : (pending : Places) (low : Option FlowId) → low ≡ option_map (λ e. e.1) (slice_get pending 0) → values_of pending ≡ option_to_list low ++ values_of (drop 1 pending)
first_told [] None is = refl
first_told [] (Some f) is = absurd (none-some f (sym is))
first_told (e ∷ pending) None is = absurd (none-some e.1 is)
first_told (e ∷ pending) (Some f) is = ap (λ g. g ∷ values_of pending) (same_Some e.1 f (sym is))

-- of either answer of a gate
pub low_taken : (b : BufferId) (line line' : Line) (low : Option FlowId) (flows : Flows) (buffers buffers' : Buffers) → BufferFound b (Some line) buffers →
    low ≡ option_map (λ e. e.1) (slice_get line.pending 0) → line' ≡ told 1 line → BufferUpdated b (Some line') buffers buffers' →
    AreGates flows buffers → Tells b (option_to_list low) (board_of flows buffers) (board_of flows buffers') × AreGates flows buffers'
low_taken b line line' low flows buffers buffers' found first left updated gates =
    let is = line_found b line buffers found in
    let joined : BufferWrites b (Some (told 1 line)) buffers buffers' = subst (λ l. BufferWrites b (Some l) buffers buffers') left updated in
    lows_told b (Some (told 1 line)) (option_to_list low) flows buffers buffers' (sym (ap is_some is)) (sym (ap above_in is)) (sym (ap line_in is))
    (ap pending_in is ∙ first_told line.pending low first) joined gates

-- ---- the first lows are told
-- what is read of a buffer's line, if there is one, after them
known_told : (n : ℕ) (o : Option Line) → is_some (option_map (told n) o) ≡ is_some o
known_told n None = refl
known_told n (Some line) = refl

above_told : (n : ℕ) (o : Option Line) → above_in (option_map (told n) o) ≡ above_in o
above_told n None = refl
above_told n (Some line) = refl

line_told : (n : ℕ) (o : Option Line) → line_in (option_map (told n) o) ≡ line_in o
line_told n None = refl
line_told n (Some line) = refl

front_told : (n : ℕ) (o : Option Line) → pending_in o ≡ take n (pending_in o) ++ pending_in (option_map (told n) o)
front_told n None =
    let none : List FlowId = [] in
    ap (λ fs. fs ++ none) (sym (take_all n none (omega arith)))
front_told n (Some line) = sym (take-append-drop n (values_of line.pending)) ∙ ap (λ fs. take n (values_of line.pending) ++ fs) (drop-map (λ (e : ℕ × FlowId). e.1) n line.pending)

-- each buffer's line but one stays
abbrev pub LowsWritten : BufferId → ℕ → Buffers → Buffers → Type 0
LowsWritten b n old new = (c : BufferId) → buffer_at new c ≡ cond (same_buffer b c) (option_map (told n) (buffer_at old c)) (buffer_at old c)

lows_writes : (b : BufferId) (n : ℕ) (old new : Buffers) → LowsWritten b n old new → BufferWrites b (option_map (told n) (buffer_at old b)) old new
lows_writes b n old new written c = written c ∙ each (cases_Bool (same_buffer b c))
  where
    each : (same_buffer b c ≡ true) ⊎ (same_buffer b c ≡ false) →
        cond (same_buffer b c) (option_map (told n) (buffer_at old c)) (buffer_at old c) ≡ cond (same_buffer b c) (option_map (told n) (buffer_at old b)) (buffer_at old c)
    each (inl here) = ap (λ d. cond (same_buffer b c) (option_map (told n) (buffer_at old d)) (buffer_at old c)) (sym (same_buffer_exact b c here))
    each (inr other) =
        ap (λ t. cond t (option_map (told n) (buffer_at old c)) (buffer_at old c)) other
        ∙ sym (ap (λ t. cond t (option_map (told n) (buffer_at old b)) (buffer_at old c)) other)

pub lows_taken : (b : BufferId) (n : ℕ) (flows : Flows) (buffers buffers' : Buffers) → LowsWritten b n buffers buffers' →
    AreGates flows buffers → Tells b (take n (pending_on (board_of flows buffers) b)) (board_of flows buffers) (board_of flows buffers') × AreGates flows buffers'
lows_taken b n flows buffers buffers' written gates =
    subst (λ fs. Tells b (take n fs) (board_of flows buffers) (board_of flows buffers') × AreGates flows buffers') (sym (pending-board flows buffers b))
    (lows_told b (option_map (told n) (buffer_at buffers b)) (take n (pending_in (buffer_at buffers b))) flows buffers buffers'
    (known_told n (buffer_at buffers b)) (above_told n (buffer_at buffers b)) (line_told n (buffer_at buffers b)) (front_told n (buffer_at buffers b))
    (lows_writes b n buffers buffers' written) gates)

-- what a write of the buffer's line leaves, or none
pub low_written : (b : BufferId) (n : ℕ) (line line' : Line) (buffers buffers' : Buffers) → BufferFound b (Some line) buffers → line' ≡ told n line →
    BufferUpdated b (Some line') buffers buffers' → LowsWritten b n buffers buffers'
low_written b n line line' buffers buffers' found left updated c =
    updated c ∙ each (cases_Bool (same_buffer b c))
  where
    each : (same_buffer b c ≡ true) ⊎ (same_buffer b c ≡ false) →
        cond (same_buffer b c) (Some line') (buffer_at buffers c) ≡ cond (same_buffer b c) (option_map (told n) (buffer_at buffers c)) (buffer_at buffers c)
    each (inl here) =
        let at : buffer_at buffers c ≡ Some line = ap (buffer_at buffers) (sym (same_buffer_exact b c here)) ∙ line_found b line buffers found in
        ap (λ l. cond (same_buffer b c) (Some l) (buffer_at buffers c)) left
        ∙ sym (ap (λ o. cond (same_buffer b c) (option_map (told n) o) (buffer_at buffers c)) at)
    each (inr other) =
        ap (λ t. cond t (Some line') (buffer_at buffers c)) other
        ∙ sym (ap (λ t. cond t (option_map (told n) (buffer_at buffers c)) (buffer_at buffers c)) other)

pub none_written : (b : BufferId) (n : ℕ) (buffers buffers' : Buffers) → buffers' ≡ buffers → BufferFound b None buffers → LowsWritten b n buffers buffers'
none_written b n buffers buffers' same found c = ap (λ bs. buffer_at bs c) same ∙ each (cases_Bool (same_buffer b c))
  where
    none : buffer_at buffers b ≡ None
    none = sym found

    each : (same_buffer b c ≡ true) ⊎ (same_buffer b c ≡ false) →
        buffer_at buffers c ≡ cond (same_buffer b c) (option_map (told n) (buffer_at buffers c)) (buffer_at buffers c)
    each (inl here) =
        let at : buffer_at buffers c ≡ None = ap (buffer_at buffers) (sym (same_buffer_exact b c here)) ∙ none in
        at ∙ sym (λ i. cond (here i) (option_map (told n) (at i)) (at i))
    each (inr other) = sym (ap (λ t. cond t (option_map (told n) (buffer_at buffers c)) (buffer_at buffers c)) other)

pub taken_none : (b : BufferId) (line : Line) (told : Option FlowId) (flows : Flows) (buffers : Buffers) → BufferFound b (Some line) buffers →
    told ≡ option_map (λ e. e.1) (slice_get line.pending 0) → (is_some told ≡ false) ↔ (pending_on (board_of flows buffers) b ≡ [])
taken_none b line None flows buffers found first = (λ h. pending_none b line flows buffers found first, λ h. refl)
taken_none b line (Some f) flows buffers found first = (
  λ h. absurd (false≢true (sym h)),
  λ h.
      let low = told_low b line f flows buffers found first in
      let zero : times f (pending_on (board_of flows buffers) b) ≡ 0 = ap (times f) h in
      absurd (omega (arith, low, zero)),
)

-- a clause for an error, where it holds of either outcome
pub on_err : {T E : Type 0} (r : Result T E) (P : Type 0) → P → OnErr r P
on_err (Ok x) P h = tt
on_err (Err e) P h = h
