-- What `watch` and `forget` write into their maps makes the changes that are seen of the gates.
use Rattle.flow_gate.proofs.Counting.{count-cons}
use Rattle.flow_gate.proofs.Reading.{above_in, counted-board, is_known-board, is_marked-board, is_open-board, pending-board, pending_in, watched-board, watched_at, watchers-board, watchers_in}
use Rattle.flow_gate.proofs.SameIds.{same_buffer_exact, same_flow-refl, same_flow_exact}
use Rattle.flow_gate.proofs.Sound.{times-without}
use Rattle.flow_gate.proofs.SoundEnds.{Forgets-counts, Watches-counts}
use Rattle.flow_gate.proofs.Steps.{BufferWrites, FlowWrites, kept_buffer, kept_flow, same_known, same_marked, same_open, same_pending}
use Rattle.flow_gate.specs.Board.{IsSound, is_known, is_marked, pending_on, times, watched_by, watchers_of}
use Rattle.flow_gate.specs.Books.{Books}
use Rattle.flow_gate.specs.Changes.{Forgets, Same, Watches, goes_with, without}
use Rattle.flow_gate.specs.Ids.{is_own, same_buffer, same_flow}
use Rattle.flow_gate.specs.Line.{Line, Places, left}
use Rattle.flow_gate.specs.Parts.{Buffers, Flows, board_of, buffer_at, flow_at, kept, watched_in}
use Rattle.flow_rules.specs.declared.ids.BufferId.{BufferId}
use Rattle.flow_rules.specs.declared.ids.FlowId.{FlowId}
use Rattle.flow_gate.specs.declared.watcher.Watch.{Watch}
use Rattle.std.proofs.Common.{ap, arith, inl, inr, refl, sym, ◌∙◌}
use Rattle.std.proofs.lemmas.Bool.{and_parts, cases_Bool, eqb-true}
use Rattle.std.proofs.lemmas.List.{append-nil}
use Rattle.std.specs.Map.{values_of}
use Rattle.std.specs.Option.{option_map}
use Rattle.std.specs.Prelude.{Bool, List, None, Option, Some, [], cond, false, filter, if◌then◌else◌, is_some, length, map, not, true, ℕ, ◌&&◌, ◌++◌, ◌<◌, ◌==◌, ◌∷◌, ◌≡◌, ◌≤◌, ◌⊎◌}

map_push : {A B : Type 0} (f : A → B) (xs : List A) (x : A) → map f (xs ++ x ∷ []) ≡ map f xs ++ f x ∷ []
map_push f [] x = refl
map_push f (y ∷ ys) x = ap (λ zs. f y ∷ zs) (map_push f ys x)

-- ---- a flow begins to watch
pub watches : (f : FlowId) (b : BufferId) (place : ℕ) (books books' : Books) (line : Line) (flows flows' : Flows) (buffers buffers' : Buffers) →
    flow_at flows f ≡ Some books → buffer_at buffers b ≡ Some line → times f (watchers_of (board_of flows buffers) b) ≡ 0 → IsSound (board_of flows buffers) →
    books'.watches ≡ books.watches ++ (record { buffer = b; place = place }) ∷ [] →
    FlowWrites f (Some books') flows flows' → BufferWrites b (Some (record line { watchers = line.watchers ++ (place, f) ∷ [] })) buffers buffers' →
    Watches f b (board_of flows buffers) (board_of flows' buffers')
watches f b place books books' line flows flows' buffers buffers' there is apart sound lists writes joins = record {
  flows = same_open flows flows' buffers buffers' (kept_flow is_some f (Some books') flows flows' writes (sym (ap is_some there)));
  counts = Watches-counts f b (board_of flows buffers) (board_of flows' buffers') apart (counted-board flows' buffers') marks watched pending sound;
  watched = watched;
  buffers = same_known flows flows' buffers buffers' (kept_buffer is_some b (Some longer) buffers buffers' joins (sym (ap is_some is)));
  marks = marks;
  watchers = λ c. watchers-board flows' buffers' c ∙ ap watchers_in (joins c) ∙ last c (cases_Bool (same_buffer b c))
      ∙ ap (λ xs. xs ++ (if same_buffer b c then f ∷ [] else [])) (sym (watchers-board flows buffers c));
  pending = pending;
}
  where
    longer : Line
    longer = record line { watchers = line.watchers ++ (place, f) ∷ [] }

    further : (g : FlowId) → (same_flow f g ≡ true) ⊎ (same_flow f g ≡ false) →
        watched_at (cond (same_flow f g) (Some books') (flow_at flows g)) ≡ watched_at (flow_at flows g) ++ (if same_flow f g then b ∷ [] else [])
    further g (inl here) =
        let old : watched_at (flow_at flows g) ≡ watched_in books.watches = ap (λ h. watched_at (flow_at flows h)) (sym (same_flow_exact f g here)) ∙ ap watched_at there in
        ap (λ t. watched_at (cond t (Some books') (flow_at flows g))) here ∙ ap watched_in lists ∙ map_push (λ (w : Watch). w.buffer) books.watches (record { buffer = b; place = place })
        ∙ sym (λ i. old i ++ (if here i then b ∷ [] else []))
    further g (inr other) =
        ap (λ t. watched_at (cond t (Some books') (flow_at flows g))) other ∙ sym (append-nil (watched_at (flow_at flows g)))
        ∙ ap (λ t. watched_at (flow_at flows g) ++ (if t then b ∷ [] else [])) (sym other)

    last : (c : BufferId) → (same_buffer b c ≡ true) ⊎ (same_buffer b c ≡ false) →
        watchers_in (cond (same_buffer b c) (Some longer) (buffer_at buffers c)) ≡ watchers_in (buffer_at buffers c) ++ (if same_buffer b c then f ∷ [] else [])
    last c (inl here) =
        let old : watchers_in (buffer_at buffers c) ≡ values_of line.watchers = ap (λ d. watchers_in (buffer_at buffers d)) (sym (same_buffer_exact b c here)) ∙ ap watchers_in is in
        ap (λ t. watchers_in (cond t (Some longer) (buffer_at buffers c))) here ∙ map_push (λ (e : ℕ × FlowId). e.1) line.watchers (place, f)
        ∙ sym (λ i. old i ++ (if here i then f ∷ [] else []))
    last c (inr other) =
        ap (λ t. watchers_in (cond t (Some longer) (buffer_at buffers c))) other ∙ sym (append-nil (watchers_in (buffer_at buffers c)))
        ∙ ap (λ t. watchers_in (buffer_at buffers c) ++ (if t then f ∷ [] else [])) (sym other)

    marks : Same is_marked (board_of flows buffers) (board_of flows' buffers')
    marks = same_marked flows flows' buffers buffers' (kept_buffer above_in b (Some longer) buffers buffers' joins (sym (ap above_in is)))

    watched : (g : FlowId) → watched_by (board_of flows' buffers') g ≡ watched_by (board_of flows buffers) g ++ (if same_flow f g then b ∷ [] else [])
    watched g = watched-board flows' buffers' g ∙ ap watched_at (writes g) ∙ further g (cases_Bool (same_flow f g))
        ∙ ap (λ xs. xs ++ (if same_flow f g then b ∷ [] else [])) (sym (watched-board flows buffers g))

    pending : Same pending_on (board_of flows buffers) (board_of flows' buffers')
    pending = same_pending flows flows' buffers buffers' (kept_buffer pending_in b (Some longer) buffers buffers' joins (sym (ap pending_in is)))

-- ---- a flow is forgotten
-- its own buffer, where nobody is left in its line, goes; any other loses the flow
abbrev pub ForgetWrites : FlowId → Buffers → Buffers → Type 0
ForgetWrites f old new = (c : BufferId) →
    buffer_at new c ≡ cond (is_own f c) (kept (option_map (left f) (buffer_at old c))) (option_map (left f) (buffer_at old c))

-- what is left of a line
abbrev pub forgotten : FlowId → Bool → Option Line → Option Line
forgotten f own o = cond own (kept (option_map (left f) o)) (option_map (left f) o)

-- its own, and nobody else in its line
abbrev goes : FlowId → Bool → Option Line → Bool
goes f own o = own && (length (without f (watchers_in o)) == 0)

pub values-without : (f : FlowId) (xs : Places) → values_of (filter (λ e. not (same_flow f e.1)) xs) ≡ without f (values_of xs)
values-without f [] = refl
values-without f (e ∷ xs) = elim (same_flow f e.1) as (λ t. values_of (cond (not t) (e ∷ filter (λ d. not (same_flow f d.1)) xs) (filter (λ d. not (same_flow f d.1)) xs)) ≡ cond (not t) (e.1 ∷ without f (values_of xs)) (without f (values_of xs))) [
  | true ↦ values-without f xs
  | false ↦ ap (λ ys. e.1 ∷ ys) (values-without f xs)
]

length_of_values : (xs : Places) → length (values_of xs) ≡ length xs
length_of_values [] = refl
length_of_values (e ∷ xs) = let rest = length_of_values xs in omega (arith, rest)

length_left : (f : FlowId) (xs : Places) → length (filter (λ e. not (same_flow f e.1)) xs) ≡ length (without f (values_of xs))
length_left f xs = sym (length_of_values (filter (λ e. not (same_flow f e.1)) xs)) ∙ ap length (values-without f xs)

no_length : {X : Type 0} (xs : List X) → (length xs == 0) ≡ true → [] ≡ xs
no_length [] e = refl
no_length (x ∷ xs) e = absurd (let none : length (x ∷ xs) ≡ 0 = eqb-true (length (x ∷ xs)) 0 e in omega (arith, none))

-- reads of what is left, which an empty line reads by default
module _ {Y : Type 0} where
  read_forgotten : (f : FlowId) (read : Option Line → Y) (own : Bool) (o : Option Line) →
      read (forgotten f own o) ≡ (if goes f own o then read None else read (option_map (left f) o))
  read_forgotten f read own None = elim own as (λ t. read (cond t None None) ≡ (if t && (length (without f []) == 0) then read None else read None)) [ true ↦ refl | false ↦ refl ]
  read_forgotten f read false (Some line) = refl
  read_forgotten f read true (Some line) =
      ap (λ n. read (if n == 0 then None else Some (left f line))) (length_left f line.watchers)
      ∙ elim (length (without f (values_of line.watchers)) == 0) as (λ t. read (if t then None else Some (left f line)) ≡ (if t then read None else read (Some (left f line)))) [ true ↦ refl | false ↦ refl ]

watchers-left : (f : FlowId) (o : Option Line) → watchers_in (option_map (left f) o) ≡ without f (watchers_in o)
watchers-left f None = refl
watchers-left f (Some line) = values-without f line.watchers

pending-left : (f : FlowId) (o : Option Line) → pending_in (option_map (left f) o) ≡ without f (pending_in o)
pending-left f None = refl
pending-left f (Some line) = values-without f line.pending

known-left : (f : FlowId) (o : Option Line) → is_some (option_map (left f) o) ≡ is_some o
known-left f None = refl
known-left f (Some line) = refl

above-left : (f : FlowId) (o : Option Line) → above_in (option_map (left f) o) ≡ above_in o
above-left f None = refl
above-left f (Some line) = refl

-- a list whose elements are all among the others, of which none is left, is empty too
none_among : (f : FlowId) (xs ys : List FlowId) → ((g : FlowId) → times g xs ≤ times g ys) → (length (without f ys) == 0) ≡ true → [] ≡ without f xs
none_among f xs ys among none = each (without f xs) refl
  where
    each : (zs : List FlowId) → without f xs ≡ zs → [] ≡ zs
    each [] is = refl
    each (z ∷ zs) is =
        let here : times z (without f xs) ≡ times z (z ∷ zs) = ap (times z) is in
        let one : ◌≡◌ {A = ℕ} (cond (same_flow z z) 1 0) 1 = ap {B = ℕ} (λ t. cond t 1 0) (same_flow-refl z) in
        let gone : times z (without f ys) ≡ 0 = ap (times z) (sym (no_length (without f ys) none)) in
        absurd (within (same_flow f z) (times z xs) (times z ys) (among z)
        (omega (arith, here, one, count-cons (same_flow z) z zs, times-without f z xs)) (omega (arith, gone, times-without f z ys)))
      where
        within : (t : Bool) (m n : ℕ) → m ≤ n → 0 < (if t then 0 else m) → (if t then 0 else n) ≡ 0 → ⊥
        within true m n le some zero = omega (arith, some)
        within false m n le some zero = omega (arith, le, some, zero)

pub forgets : (f : FlowId) (flows flows' : Flows) (buffers buffers' : Buffers) →
    ((g : FlowId) (c : BufferId) → times g (pending_in (buffer_at buffers c)) ≤ times g (watchers_in (buffer_at buffers c))) →
    IsSound (board_of flows buffers) → FlowWrites f None flows flows' → ForgetWrites f buffers buffers' →
    Forgets f (board_of flows buffers) (board_of flows' buffers')
forgets f flows flows' buffers buffers' among sound writes leaves = record {
  flows = λ g. is_open-board flows' buffers' g ∙ ap is_some (writes g)
      ∙ elim (same_flow f g) as (λ t. is_some (cond t None (flow_at flows g)) ≡ (not t && is_some (flow_at flows g))) [ true ↦ refl | false ↦ refl ]
      ∙ ap (λ t. not (same_flow f g) && t) (sym (is_open-board flows buffers g));
  counts = Forgets-counts f (board_of flows buffers) (board_of flows' buffers') (counted-board flows' buffers') marks watched pending sound;
  watched = watched;
  buffers = λ c. is_known-board flows' buffers' c ∙ ap is_some (leaves c) ∙ read_forgotten f is_some (is_own f c) (buffer_at buffers c)
      ∙ (λ i. if going c i then false else (known-left f (buffer_at buffers c) ∙ sym (is_known-board flows buffers c)) i)
      ∙ flag (goes_with f (board_of flows buffers) c) (is_known (board_of flows buffers) c);
  marks = marks;
  watchers = λ c. watchers-board flows' buffers' c ∙ ap watchers_in (leaves c) ∙ read_forgotten f watchers_in (is_own f c) (buffer_at buffers c)
      ∙ gone_list (goes f (is_own f c) (buffer_at buffers c)) (watchers_in (option_map (left f) (buffer_at buffers c))) (without f (watchers_in (buffer_at buffers c)))
      (watchers-left f (buffer_at buffers c)) (λ h. no_length (without f (watchers_in (buffer_at buffers c))) (and_parts (is_own f c) (length (without f (watchers_in (buffer_at buffers c))) == 0) h).1)
      ∙ ap (without f) (sym (watchers-board flows buffers c));
  pending = pending;
}
  where
    going : (c : BufferId) → goes f (is_own f c) (buffer_at buffers c) ≡ goes_with f (board_of flows buffers) c
    going c = ap (λ xs. is_own f c && (length (without f xs) == 0)) (sym (watchers-board flows buffers c))

    flag : (t u : Bool) → (if t then false else u) ≡ (not t && u)
    flag true u = refl
    flag false u = refl

    gone_list : (t : Bool) (xs ys : List FlowId) → xs ≡ ys → (t ≡ true → [] ≡ ys) → (if t then [] else xs) ≡ ys
    gone_list true xs ys same none = none refl
    gone_list false xs ys same none = same

    marks : (c : BufferId) → is_marked (board_of flows' buffers') c ≡ (not (goes_with f (board_of flows buffers) c) && is_marked (board_of flows buffers) c)
    marks c = is_marked-board flows' buffers' c ∙ ap above_in (leaves c) ∙ read_forgotten f above_in (is_own f c) (buffer_at buffers c)
        ∙ (λ i. if going c i then false else (above-left f (buffer_at buffers c) ∙ sym (is_marked-board flows buffers c)) i)
        ∙ flag (goes_with f (board_of flows buffers) c) (is_marked (board_of flows buffers) c)

    watched : (g : FlowId) → watched_by (board_of flows' buffers') g ≡ (if same_flow f g then [] else watched_by (board_of flows buffers) g)
    watched g = watched-board flows' buffers' g ∙ ap watched_at (writes g)
        ∙ elim (same_flow f g) as (λ t. watched_at (cond t None (flow_at flows g)) ≡ (if t then [] else watched_at (flow_at flows g))) [ true ↦ refl | false ↦ refl ]
        ∙ ap (λ xs. if same_flow f g then [] else xs) (sym (watched-board flows buffers g))

    pending : (c : BufferId) → pending_on (board_of flows' buffers') c ≡ without f (pending_on (board_of flows buffers) c)
    pending c = pending-board flows' buffers' c ∙ ap pending_in (leaves c) ∙ read_forgotten f pending_in (is_own f c) (buffer_at buffers c)
        ∙ gone_list (goes f (is_own f c) (buffer_at buffers c)) (pending_in (option_map (left f) (buffer_at buffers c))) (without f (pending_in (buffer_at buffers c)))
        (pending-left f (buffer_at buffers c)) (λ h. none_among f (pending_in (buffer_at buffers c)) (watchers_in (buffer_at buffers c)) (λ g. among g c) (and_parts (is_own f c) (length (without f (watchers_in (buffer_at buffers c))) == 0) h).1)
        ∙ ap (without f) (sym (pending-board flows buffers c))
