-- What the calls write into their maps makes the changes that are seen of the gates.
use Rattle.flow_gate.proofs.Reading.{above_in, count-board, counted-board, is_known-board, is_marked-board, is_open-board, pending-board, pending_in, watched-board, watched_at, watchers-board, watchers_in}
use Rattle.flow_gate.proofs.SameIds.{same_buffer_exact, same_flow_exact}
use Rattle.flow_gate.proofs.Sound.{Drains-counts, Rises-counts, Tells-counts, same_counts}
use Rattle.flow_gate.proofs.SoundEnds.{Closes-counts}
use Rattle.flow_gate.specs.Board.{IsSound, count, is_known, is_marked, is_open, pending_on, watched_by, watchers_of}
use Rattle.flow_gate.specs.Books.{Books}
use Rattle.flow_gate.specs.Changes.{Begins, Closes, Drains, IsEmpty, Knows, Rises, Same, Tells}
use Rattle.flow_gate.specs.Ids.{same_buffer, same_flow}
use Rattle.flow_gate.specs.Line.{Line}
use Rattle.flow_gate.specs.Parts.{Buffers, Flows, board_of, buffer_at, flow_at, watched_in}
use Rattle.flow_rules.specs.declared.ids.BufferId.{BufferId}
use Rattle.flow_rules.specs.declared.ids.FlowId.{FlowId}
use Rattle.std.proofs.Common.{ap, inl, inr, refl, sym, ◌∙◌}
use Rattle.std.proofs.lemmas.Bool.{cases_Bool}
use Rattle.std.proofs.lemmas.List.{append-nil}
use Rattle.std.specs.Map.{values_of}
use Rattle.std.specs.Prelude.{List, None, Option, Some, [], cond, false, if◌then◌else◌, is_some, not, true, ◌&&◌, ◌++◌, ◌||◌, ◌≡◌, ◌⊎◌}

-- the new books are the old ones, but for those of one flow
abbrev pub FlowWrites : FlowId → Option Books → Flows → Flows → Type 0
FlowWrites f w old new = (g : FlowId) → flow_at new g ≡ cond (same_flow f g) w (flow_at old g)

-- the new lines are the old ones, but for that of one buffer
abbrev pub BufferWrites : BufferId → Option Line → Buffers → Buffers → Type 0
BufferWrites b w old new = (c : BufferId) → buffer_at new c ≡ cond (same_buffer b c) w (buffer_at old c)

-- ---- what is written and reads the same changes nothing
module _ {Y : Type 0} where
  pub kept_flow : (read : Option Books → Y) (f : FlowId) (w : Option Books) (old new : Flows) → FlowWrites f w old new →
      read w ≡ read (flow_at old f) → (g : FlowId) → read (flow_at new g) ≡ read (flow_at old g)
  kept_flow read f w old new writes same g = ap read (writes g) ∙ elim (cases_Bool (same_flow f g)) [
    | inl here ↦ ap (λ b. read (cond b w (flow_at old g))) here ∙ same ∙ ap (λ h. read (flow_at old h)) (same_flow_exact f g here)
    | inr other ↦ ap (λ b. read (cond b w (flow_at old g))) other
  ]

  pub kept_buffer : (read : Option Line → Y) (b : BufferId) (w : Option Line) (old new : Buffers) → BufferWrites b w old new →
      read w ≡ read (buffer_at old b) → (c : BufferId) → read (buffer_at new c) ≡ read (buffer_at old c)
  kept_buffer read b w old new writes same c = ap read (writes c) ∙ elim (cases_Bool (same_buffer b c)) [
    | inl here ↦ ap (λ t. read (cond t w (buffer_at old c))) here ∙ same ∙ ap (λ d. read (buffer_at old d)) (same_buffer_exact b c here)
    | inr other ↦ ap (λ t. read (cond t w (buffer_at old c))) other
  ]

-- ---- what is seen of flows and of buffers, by their look-ups
module _ (flows flows' : Flows) (buffers buffers' : Buffers) where
  pub same_open : ((f : FlowId) → is_some (flow_at flows' f) ≡ is_some (flow_at flows f)) → Same is_open (board_of flows buffers) (board_of flows' buffers')
  same_open same f = is_open-board flows' buffers' f ∙ same f ∙ sym (is_open-board flows buffers f)

  pub same_watched : ((f : FlowId) → watched_at (flow_at flows' f) ≡ watched_at (flow_at flows f)) → Same watched_by (board_of flows buffers) (board_of flows' buffers')
  same_watched same f = watched-board flows' buffers' f ∙ same f ∙ sym (watched-board flows buffers f)

  pub same_known : ((b : BufferId) → is_some (buffer_at buffers' b) ≡ is_some (buffer_at buffers b)) → Same is_known (board_of flows buffers) (board_of flows' buffers')
  same_known same b = is_known-board flows' buffers' b ∙ same b ∙ sym (is_known-board flows buffers b)

  pub same_marked : ((b : BufferId) → above_in (buffer_at buffers' b) ≡ above_in (buffer_at buffers b)) → Same is_marked (board_of flows buffers) (board_of flows' buffers')
  same_marked same b = is_marked-board flows' buffers' b ∙ same b ∙ sym (is_marked-board flows buffers b)

  pub same_watchers : ((b : BufferId) → watchers_in (buffer_at buffers' b) ≡ watchers_in (buffer_at buffers b)) → Same watchers_of (board_of flows buffers) (board_of flows' buffers')
  same_watchers same b = watchers-board flows' buffers' b ∙ same b ∙ sym (watchers-board flows buffers b)

  pub same_pending : ((b : BufferId) → pending_in (buffer_at buffers' b) ≡ pending_in (buffer_at buffers b)) → Same pending_on (board_of flows buffers) (board_of flows' buffers')
  same_pending same b = pending-board flows' buffers' b ∙ same b ∙ sym (pending-board flows buffers b)

  pub same_count : Same is_marked (board_of flows buffers) (board_of flows' buffers') → Same watched_by (board_of flows buffers) (board_of flows' buffers') →
      Same pending_on (board_of flows buffers) (board_of flows' buffers') → Same count (board_of flows buffers) (board_of flows' buffers')
  same_count = same_counts (board_of flows buffers) (board_of flows' buffers') (counted-board flows buffers) (counted-board flows' buffers')

-- ---- nothing yet
pub empty_board : IsEmpty (board_of [] [])
empty_board = record {
  flows = λ f. is_open-board [] [] f;
  counts = λ f. count-board [] [] f;
  watched = λ f. watched-board [] [] f;
  buffers = λ b. is_known-board [] [] b;
  marks = λ b. is_marked-board [] [] b;
  watchers = λ b. watchers-board [] [] b;
  pending = λ b. pending-board [] [] b;
}

-- ---- a flow begins, a buffer is known, a buffer is closed
pub begins : (f : FlowId) (books : Books) (flows flows' : Flows) (buffers : Buffers) → flow_at flows f ≡ None → books.watches ≡ [] →
    FlowWrites f (Some books) flows flows' → Begins f (board_of flows buffers) (board_of flows' buffers)
begins f books flows flows' buffers none empty writes = record {
  flows = λ g. is_open-board flows' buffers g ∙ ap is_some (writes g)
      ∙ elim (same_flow f g) as (λ t. is_some (cond t (Some books) (flow_at flows g)) ≡ (t || is_some (flow_at flows g))) [ true ↦ refl | false ↦ refl ]
      ∙ ap (λ t. same_flow f g || t) (sym (is_open-board flows buffers g));
  counts = same_count flows flows' buffers buffers marks watched pending;
  watched = watched;
  buffers = same_known flows flows' buffers buffers (λ b. refl);
  marks = marks;
  watchers = same_watchers flows flows' buffers buffers (λ b. refl);
  pending = pending;
}
  where
    marks : Same is_marked (board_of flows buffers) (board_of flows' buffers)
    marks = same_marked flows flows' buffers buffers (λ b. refl)

    watched : Same watched_by (board_of flows buffers) (board_of flows' buffers)
    watched = same_watched flows flows' buffers buffers (kept_flow watched_at f (Some books) flows flows' writes (ap watched_in empty ∙ sym (ap watched_at none)))

    pending : Same pending_on (board_of flows buffers) (board_of flows' buffers)
    pending = same_pending flows flows' buffers buffers (λ b. refl)

pub knows : (b : BufferId) (flows : Flows) (buffers buffers' : Buffers) → buffer_at buffers b ≡ None →
    BufferWrites b (Some (record { above = false; watchers = []; pending = [] })) buffers buffers' → Knows b (board_of flows buffers) (board_of flows buffers')
knows b flows buffers buffers' none writes = record {
  flows = same_open flows flows buffers buffers' (λ f. refl);
  counts = same_count flows flows buffers buffers' marks watched pending;
  watched = watched;
  buffers = λ c. is_known-board flows buffers' c ∙ ap is_some (writes c)
      ∙ elim (same_buffer b c) as (λ t. is_some (cond t (Some fresh) (buffer_at buffers c)) ≡ (t || is_some (buffer_at buffers c))) [ true ↦ refl | false ↦ refl ]
      ∙ ap (λ t. same_buffer b c || t) (sym (is_known-board flows buffers c));
  marks = marks;
  watchers = same_watchers flows flows buffers buffers' (kept_buffer watchers_in b (Some fresh) buffers buffers' writes (sym (ap watchers_in none)));
  pending = pending;
}
  where
    fresh : Line
    fresh = record { above = false; watchers = []; pending = [] }

    marks : Same is_marked (board_of flows buffers) (board_of flows buffers')
    marks = same_marked flows flows buffers buffers' (kept_buffer above_in b (Some fresh) buffers buffers' writes (sym (ap above_in none)))

    watched : Same watched_by (board_of flows buffers) (board_of flows buffers')
    watched = same_watched flows flows buffers buffers' (λ f. refl)

    pending : Same pending_on (board_of flows buffers) (board_of flows buffers')
    pending = same_pending flows flows buffers buffers' (kept_buffer pending_in b (Some fresh) buffers buffers' writes (sym (ap pending_in none)))

pub closes : (b : BufferId) (flows : Flows) (buffers buffers' : Buffers) → watchers_of (board_of flows buffers) b ≡ [] → pending_on (board_of flows buffers) b ≡ [] →
    IsSound (board_of flows buffers) → BufferWrites b None buffers buffers' → Closes b (board_of flows buffers) (board_of flows buffers')
closes b flows buffers buffers' none silent sound writes = record {
  flows = same_open flows flows buffers buffers' (λ f. refl);
  counts = Closes-counts b (board_of flows buffers) (board_of flows buffers') none (counted-board flows buffers') marks watched pending sound;
  watched = watched;
  buffers = λ c. is_known-board flows buffers' c ∙ ap is_some (writes c)
      ∙ elim (same_buffer b c) as (λ t. is_some (cond t None (buffer_at buffers c)) ≡ (not t && is_some (buffer_at buffers c))) [ true ↦ refl | false ↦ refl ]
      ∙ ap (λ t. not (same_buffer b c) && t) (sym (is_known-board flows buffers c));
  marks = marks;
  watchers = same_watchers flows flows buffers buffers' (kept_buffer watchers_in b None buffers buffers' writes (sym none ∙ watchers-board flows buffers b));
  pending = pending;
}
  where
    marks : (c : BufferId) → is_marked (board_of flows buffers') c ≡ (not (same_buffer b c) && is_marked (board_of flows buffers) c)
    marks c = is_marked-board flows buffers' c ∙ ap above_in (writes c)
        ∙ elim (same_buffer b c) as (λ t. above_in (cond t None (buffer_at buffers c)) ≡ (not t && above_in (buffer_at buffers c))) [ true ↦ refl | false ↦ refl ]
        ∙ ap (λ t. not (same_buffer b c) && t) (sym (is_marked-board flows buffers c))

    watched : Same watched_by (board_of flows buffers) (board_of flows buffers')
    watched = same_watched flows flows buffers buffers' (λ f. refl)

    pending : Same pending_on (board_of flows buffers) (board_of flows buffers')
    pending = same_pending flows flows buffers buffers' (kept_buffer pending_in b None buffers buffers' writes (sym silent ∙ pending-board flows buffers b))

-- ---- a rise, a drain, a low that is told
pub rises : (b : BufferId) (line : Line) (flows : Flows) (buffers buffers' : Buffers) → buffer_at buffers b ≡ Some line → is_marked (board_of flows buffers) b ≡ false →
    IsSound (board_of flows buffers) → BufferWrites b (Some (record line { above = true })) buffers buffers' → Rises b (board_of flows buffers) (board_of flows buffers')
rises b line flows buffers buffers' is low sound writes = record {
  flows = same_open flows flows buffers buffers' (λ f. refl);
  counts = Rises-counts b (board_of flows buffers) (board_of flows buffers') low (counted-board flows buffers') marks watched pending sound;
  watched = watched;
  buffers = same_known flows flows buffers buffers' (kept_buffer is_some b (Some above) buffers buffers' writes (sym (ap is_some is)));
  marks = marks;
  watchers = same_watchers flows flows buffers buffers' (kept_buffer watchers_in b (Some above) buffers buffers' writes (sym (ap watchers_in is)));
  pending = pending;
}
  where
    above : Line
    above = record line { above = true }

    marks : (c : BufferId) → is_marked (board_of flows buffers') c ≡ (same_buffer b c || is_marked (board_of flows buffers) c)
    marks c = is_marked-board flows buffers' c ∙ ap above_in (writes c)
        ∙ elim (same_buffer b c) as (λ t. above_in (cond t (Some above) (buffer_at buffers c)) ≡ (t || above_in (buffer_at buffers c))) [ true ↦ refl | false ↦ refl ]
        ∙ ap (λ t. same_buffer b c || t) (sym (is_marked-board flows buffers c))

    watched : Same watched_by (board_of flows buffers) (board_of flows buffers')
    watched = same_watched flows flows buffers buffers' (λ f. refl)

    pending : Same pending_on (board_of flows buffers) (board_of flows buffers')
    pending = same_pending flows flows buffers buffers' (kept_buffer pending_in b (Some above) buffers buffers' writes (sym (ap pending_in is)))

pub drains : (b : BufferId) (line : Line) (flows : Flows) (buffers buffers' : Buffers) → buffer_at buffers b ≡ Some line → values_of line.pending ≡ [] →
    is_marked (board_of flows buffers) b ≡ true → IsSound (board_of flows buffers) →
    BufferWrites b (Some (record { above = false; watchers = line.watchers; pending = line.watchers })) buffers buffers' →
    Drains b (board_of flows buffers) (board_of flows buffers')
drains b line flows buffers buffers' is told high sound writes = record {
  flows = same_open flows flows buffers buffers' (λ f. refl);
  counts = Drains-counts b (board_of flows buffers) (board_of flows buffers') high (counted-board flows buffers') marks watched pending sound;
  watched = watched;
  buffers = same_known flows flows buffers buffers' (kept_buffer is_some b (Some low) buffers buffers' writes (sym (ap is_some is)));
  marks = marks;
  watchers = same_watchers flows flows buffers buffers' (kept_buffer watchers_in b (Some low) buffers buffers' writes (sym (ap watchers_in is)));
  pending = pending;
}
  where
    low : Line
    low = record { above = false; watchers = line.watchers; pending = line.watchers }

    added : (c : BufferId) → (same_buffer b c ≡ true) ⊎ (same_buffer b c ≡ false) →
        pending_in (cond (same_buffer b c) (Some low) (buffer_at buffers c)) ≡ pending_in (buffer_at buffers c) ++ (if same_buffer b c then values_of line.watchers else [])
    added c (inl here) =
        let none : pending_in (buffer_at buffers c) ≡ [] = ap (λ d. pending_in (buffer_at buffers d)) (sym (same_buffer_exact b c here)) ∙ ap pending_in is ∙ told in
        ap (λ t. pending_in (cond t (Some low) (buffer_at buffers c))) here
        ∙ sym (λ i. none i ++ (if here i then values_of line.watchers else []))
    added c (inr other) =
        ap (λ t. pending_in (cond t (Some low) (buffer_at buffers c))) other
        ∙ sym (append-nil (pending_in (buffer_at buffers c))) ∙ ap (λ t. pending_in (buffer_at buffers c) ++ (if t then values_of line.watchers else [])) (sym other)

    marks : (c : BufferId) → is_marked (board_of flows buffers') c ≡ (not (same_buffer b c) && is_marked (board_of flows buffers) c)
    marks c = is_marked-board flows buffers' c ∙ ap above_in (writes c)
        ∙ elim (same_buffer b c) as (λ t. above_in (cond t (Some low) (buffer_at buffers c)) ≡ (not t && above_in (buffer_at buffers c))) [ true ↦ refl | false ↦ refl ]
        ∙ ap (λ t. not (same_buffer b c) && t) (sym (is_marked-board flows buffers c))

    watched : Same watched_by (board_of flows buffers) (board_of flows buffers')
    watched = same_watched flows flows buffers buffers' (λ f. refl)

    pending : (c : BufferId) → pending_on (board_of flows buffers') c ≡ pending_on (board_of flows buffers) c ++ (if same_buffer b c then watchers_of (board_of flows buffers) b else [])
    pending c = pending-board flows buffers' c ∙ ap pending_in (writes c) ∙ added c (cases_Bool (same_buffer b c))
        ∙ (λ i. sym (pending-board flows buffers c) i ++ (if same_buffer b c then sym (watchers-board flows buffers b ∙ ap watchers_in is) i else []))

-- the first lows of a buffer are told, and all else that is read of it stays
pub tells : (b : BufferId) (w : Option Line) (first : List FlowId) (flows : Flows) (buffers buffers' : Buffers) →
    is_some w ≡ is_some (buffer_at buffers b) → above_in w ≡ above_in (buffer_at buffers b) → watchers_in w ≡ watchers_in (buffer_at buffers b) →
    pending_in (buffer_at buffers b) ≡ first ++ pending_in w → IsSound (board_of flows buffers) →
    BufferWrites b w buffers buffers' → Tells b first (board_of flows buffers) (board_of flows buffers')
tells b w first flows buffers buffers' known above watching front sound writes = record {
  flows = same_open flows flows buffers buffers' (λ g. refl);
  counts = Tells-counts b first (board_of flows buffers) (board_of flows buffers') (counted-board flows buffers') marks watched pending sound;
  watched = watched;
  buffers = same_known flows flows buffers buffers' (kept_buffer is_some b w buffers buffers' writes known);
  marks = marks;
  watchers = same_watchers flows flows buffers buffers' (kept_buffer watchers_in b w buffers buffers' writes watching);
  pending = pending;
}
  where
    taken : (c : BufferId) → (same_buffer b c ≡ true) ⊎ (same_buffer b c ≡ false) →
        pending_in (buffer_at buffers c) ≡ (if same_buffer b c then first else []) ++ pending_in (cond (same_buffer b c) w (buffer_at buffers c))
    taken c (inl here) =
        ap (λ d. pending_in (buffer_at buffers d)) (sym (same_buffer_exact b c here)) ∙ front
        ∙ sym (λ i. (if here i then first else []) ++ pending_in (cond (here i) w (buffer_at buffers c)))
    taken c (inr other) = sym (λ i. (if other i then first else []) ++ pending_in (cond (other i) w (buffer_at buffers c)))

    marks : Same is_marked (board_of flows buffers) (board_of flows buffers')
    marks = same_marked flows flows buffers buffers' (kept_buffer above_in b w buffers buffers' writes above)

    watched : Same watched_by (board_of flows buffers) (board_of flows buffers')
    watched = same_watched flows flows buffers buffers' (λ g. refl)

    pending : (c : BufferId) → pending_on (board_of flows buffers) c ≡ (if same_buffer b c then first else []) ++ pending_on (board_of flows buffers') c
    pending c = pending-board flows buffers c ∙ taken c (cases_Bool (same_buffer b c))
        ∙ (λ i. (if same_buffer b c then first else []) ++ sym (pending-board flows buffers' c ∙ ap pending_in (writes c)) i)
