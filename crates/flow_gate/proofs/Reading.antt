-- What is seen of the gates, by the look-ups of their maps.
use Rattle.flow_gate.proofs.Orders.{buffer_cmp, is_at-buffer}
use Rattle.flow_gate.proofs.SameIds.{same_flow_exact}
use Rattle.flow_gate.specs.Board.{count, is_known, is_marked, is_open, lows, pending_on, times, watched_by, watchers_of}
use Rattle.flow_gate.specs.Books.{Books}
use Rattle.flow_gate.specs.Ids.{same_buffer, same_flow}
use Rattle.flow_gate.specs.Line.{Line}
use Rattle.flow_gate.specs.Named.{Updates}
use Rattle.flow_gate.specs.Parts.{Buffers, Flows, board_of, buffer_at, buffer_state, flow_at, flow_state, held, watched_in}
use Rattle.flow_rules.specs.declared.ids.BufferId.{BufferId}
use Rattle.flow_rules.specs.declared.ids.FlowId.{FlowId}
use Rattle.std.proofs.Common.{ap, inl, inr, refl, sym, ◌∙◌}
use Rattle.std.proofs.lemmas.Bool.{cases_Bool}
use Rattle.std.proofs.lemmas.Map.Made.{lookup-map_values}
use Rattle.std.specs.BTreeMap.{is_at}
use Rattle.std.specs.Map.{lookup, values_of}
use Rattle.std.specs.Option.{option_map, option_map_or}
use Rattle.std.specs.Prelude.{Bool, List, None, Option, Some, [], cond, count_by, false, is_some, map, sum_by, ◌+◌, ◌∷◌, ◌≡◌}

-- what a look-up finds, and what a write leaves at each name
abbrev pub FlowFound : {X : Type 0} → FlowId → Option X → List (FlowId × X) → Type 0
FlowFound f o es = o ≡ flow_at es f

abbrev pub FlowUpdated : {X : Type 0} → FlowId → Option X → List (FlowId × X) → List (FlowId × X) → Type 0
FlowUpdated f w old new = Updates same_flow f w old new

abbrev pub BufferFound : BufferId → Option Line → Buffers → Type 0
BufferFound b o es = o ≡ buffer_at es b

abbrev pub BufferUpdated : BufferId → Option Line → Buffers → Buffers → Type 0
BufferUpdated b w old new = Updates same_buffer b w old new

-- ---- of an ordered map by buffer
module _ {X : Type 0} where
  buffer_get : (es : List (BufferId × X)) (b : BufferId) → lookup (is_at (buffer_cmp b)) es ≡ lookup (same_buffer b) es
  buffer_get es b = λ i. lookup (λ c. is_at-buffer b c i) es

  -- what a change of the map says of its look-ups
  pub buffer_updates : (old new : List (BufferId × X)) (b : BufferId) (w : Option X) →
      ((c : BufferId) → lookup (is_at (buffer_cmp c)) new ≡ cond (is_at (buffer_cmp b) c) w (lookup (is_at (buffer_cmp c)) old)) → Updates same_buffer b w old new
  buffer_updates old new b w updates c = sym (buffer_get new c) ∙ updates c ∙ (λ i. cond (is_at-buffer b c i) w (buffer_get old c i))

-- ---- what is seen
option_map_or-map : {A B C : Type 0} (g : B → C) (f : A → B) (o : Option A) (d : C) → option_map_or g (option_map f o) d ≡ option_map_or (λ x. g (f x)) o d
option_map_or-map g f None d = refl
option_map_or-map g f (Some x) d = refl

is_some-map : {A B : Type 0} (f : A → B) (o : Option A) → is_some (option_map f o) ≡ is_some o
is_some-map f None = refl
is_some-map f (Some x) = refl

-- a look-up over entries whose values are read with their keys
lookup-keyed : {X Y : Type 0} (g : FlowId → X → Y) (f : FlowId) (es : List (FlowId × X)) →
    lookup (same_flow f) (map {B = FlowId × Y} (λ e. (e.0, g e.0 e.1)) es) ≡ option_map (g f) (lookup (same_flow f) es)
lookup-keyed g f [] = refl
lookup-keyed {X} {Y} g f (e ∷ es) = elim (cases_Bool (same_flow f e.0)) [
  | inl here ↦
      ap (λ t. cond t (Some (g e.0 e.1)) (lookup (same_flow f) (map {B = FlowId × Y} (λ d. (d.0, g d.0 d.1)) es))) here
      ∙ ap (λ h. Some (g h e.1)) (sym (same_flow_exact f e.0 here))
      ∙ sym (ap (λ t. option_map (g f) (cond t (Some e.1) (lookup (same_flow f) es))) here)
  | inr other ↦
      ap (λ t. cond t (Some (g e.0 e.1)) (lookup (same_flow f) (map {B = FlowId × Y} (λ d. (d.0, g d.0 d.1)) es))) other
      ∙ lookup-keyed g f es
      ∙ sym (ap (λ t. option_map (g f) (cond t (Some e.1) (lookup (same_flow f) es))) other)
]

abbrev pub watched_at : Option Books → List BufferId
watched_at books = option_map_or (λ s. watched_in s.watches) books []

abbrev pub above_in : Option Line → Bool
above_in line = option_map_or (λ l. l.above) line false

abbrev pub watchers_in : Option Line → List FlowId
watchers_in line = option_map_or (λ l. values_of l.watchers) line []

abbrev pub pending_in : Option Line → List FlowId
pending_in line = option_map_or (λ l. values_of l.pending) line []

module _ (flows : Flows) (buffers : Buffers) where
  pub is_open-board : (f : FlowId) → is_open (board_of flows buffers) f ≡ is_some (flow_at flows f)
  unfolding is_open
  is_open-board f = ap is_some (lookup-keyed (flow_state buffers) f flows) ∙ is_some-map (flow_state buffers f) (flow_at flows f)

  pub count-board : (f : FlowId) → count (board_of flows buffers) f ≡ held buffers f (watched_at (flow_at flows f))
  unfolding count
  count-board f = ap (λ o. option_map_or (λ s. s.count) o 0) (lookup-keyed (flow_state buffers) f flows)
      ∙ option_map_or-map (λ s. s.count) (flow_state buffers f) (flow_at flows f) 0
      ∙ elim (flow_at flows f) as (λ o. option_map_or (λ s. held buffers f (watched_in s.watches)) o 0 ≡ held buffers f (watched_at o)) [ None ↦ refl | Some books ↦ refl ]

  pub watched-board : (f : FlowId) → watched_by (board_of flows buffers) f ≡ watched_at (flow_at flows f)
  unfolding watched_by
  watched-board f = ap (λ o. option_map_or (λ s. s.watched) o []) (lookup-keyed (flow_state buffers) f flows)
      ∙ option_map_or-map (λ s. s.watched) (flow_state buffers f) (flow_at flows f) []

  pub is_known-board : (b : BufferId) → is_known (board_of flows buffers) b ≡ is_some (buffer_at buffers b)
  unfolding is_known
  is_known-board b = ap is_some (lookup-map_values buffer_state (same_buffer b) buffers) ∙ is_some-map buffer_state (buffer_at buffers b)

  pub is_marked-board : (b : BufferId) → is_marked (board_of flows buffers) b ≡ above_in (buffer_at buffers b)
  unfolding is_marked
  is_marked-board b = ap (λ o. option_map_or (λ s. s.above) o false) (lookup-map_values buffer_state (same_buffer b) buffers)
      ∙ option_map_or-map (λ s. s.above) buffer_state (buffer_at buffers b) false

  pub watchers-board : (b : BufferId) → watchers_of (board_of flows buffers) b ≡ watchers_in (buffer_at buffers b)
  unfolding watchers_of
  watchers-board b = ap (λ o. option_map_or (λ s. s.watchers) o []) (lookup-map_values buffer_state (same_buffer b) buffers)
      ∙ option_map_or-map (λ s. s.watchers) buffer_state (buffer_at buffers b) []

  pub pending-board : (b : BufferId) → pending_on (board_of flows buffers) b ≡ pending_in (buffer_at buffers b)
  unfolding pending_on
  pending-board b = ap (λ o. option_map_or (λ s. s.pending) o []) (lookup-map_values buffer_state (same_buffer b) buffers)
      ∙ option_map_or-map (λ s. s.pending) buffer_state (buffer_at buffers b) []

  -- the law of the counts, which are computed by it
  pub counted-board : (f : FlowId) → count (board_of flows buffers) f ≡ count_by (is_marked (board_of flows buffers)) (watched_by (board_of flows buffers) f) + lows (board_of flows buffers) f
  counted-board f = count-board f
      ∙ sym (λ i. count_by (λ b. is_marked-board b i) (watched-board f i) + sum_by (λ b. times f (pending-board b i)) (watched-board f i))

-- ---- by what a map's `get` found
module _ (flows : Flows) (buffers : Buffers) where
  pub open_found : (f : FlowId) (r : Bool) → r ≡ is_some (flow_at flows f) → r ≡ is_open (board_of flows buffers) f
  open_found f r is = is ∙ sym (is_open-board flows buffers f)

  pub count_found : (f : FlowId) (books : Option Books) → FlowFound f books flows → held buffers f (watched_at books) ≡ count (board_of flows buffers) f
  count_found f books is = ap (λ o. held buffers f (watched_at o)) is ∙ sym (count-board flows buffers f)

  pub known_found : (b : BufferId) (r : Bool) → r ≡ is_some (buffer_at buffers b) → r ≡ is_known (board_of flows buffers) b
  known_found b r is = is ∙ sym (is_known-board flows buffers b)

  pub marked_found : (b : BufferId) (line : Option Line) → BufferFound b line buffers → above_in line ≡ is_marked (board_of flows buffers) b
  marked_found b line is = ap above_in is ∙ sym (is_marked-board flows buffers b)

  pub watchers_found : (b : BufferId) (line : Option Line) → BufferFound b line buffers → watchers_in line ≡ watchers_of (board_of flows buffers) b
  watchers_found b line is = ap watchers_in is ∙ sym (watchers-board flows buffers b)

  pub pending_found : (b : BufferId) (line : Option Line) → BufferFound b line buffers → pending_in line ≡ pending_on (board_of flows buffers) b
  pending_found b line is = ap pending_in is ∙ sym (pending-board flows buffers b)

pub values-nil : {K X : Type 0} (es : List (K × X)) → values_of es ≡ [] → es ≡ []
values-nil [] e = refl
values-nil (x ∷ es) e = cc
