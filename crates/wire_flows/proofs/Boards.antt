-- What is seen of the write buffers where the gates changed.
use Rattle.flow_gate.specs.Board.{Board, BufferState, is_known, is_marked, pending_on, watchers_of}
use Rattle.flow_gate.specs.Changes.{Closes, Drains, Knows, Rises, Tells}
use Rattle.flow_gate.specs.Ids.{same_buffer}
use Rattle.flow_rules.specs.declared.ids.BufferId.{BufferId}
use Rattle.flow_rules.specs.declared.ids.FlowId.{FlowId}
use Rattle.std.proofs.Common.{ap, refl, sym, ◌∙◌}
use Rattle.std.proofs.lemmas.List.{append-nil}
use Rattle.std.proofs.lemmas.Option.{none-some}
use Rattle.std.specs.Map.{lookup}
use Rattle.std.specs.Option.{option_map_or}
use Rattle.std.specs.Prelude.{Bool, IsNone, List, None, Option, Some, [], drop, false, if◌then◌else◌, is_some, length, not, option_map, option_to_list, slice_get, true, ℕ, ◌&&◌, ◌++◌, ◌==◌, ◌||◌, ◌≡◌, ◌↔◌}
use Rattle.wire_flows.proofs.Cases.{by_case, not_both, number_is, same_number}
use Rattle.wire_flows.specs.Flows.{Flows}
use Rattle.wire_flows.specs.Writes.{ChangesWrite, KeepsWrites, Write, lowered, new_write, raised, told, write_at}
use Rattle.flow_rules.specs.declared.ids.BufferId.TheVariants as buffer

abbrev pub write_of : Bool → Bool → List FlowId → Option Write
write_of known above lows = if known then Some (record { above = above; lows = lows }) else None

pub write_seen : (c : ℕ) (flows : Flows) → write_at c flows ≡ write_of (is_known flows.gates (buffer.Write c)) (is_marked flows.gates (buffer.Write c)) (pending_on flows.gates (buffer.Write c))
unfolding write_at
write_seen c flows = refl

-- what is known, marked and pending of a write buffer is the same
pub record SameWrite (c : ℕ) (old new : Board) : Type 0 where
  pub known : is_known new (buffer.Write c) ≡ is_known old (buffer.Write c)
  pub above : is_marked new (buffer.Write c) ≡ is_marked old (buffer.Write c)
  pub lows : pending_on new (buffer.Write c) ≡ pending_on old (buffer.Write c)

pub write_same : (c : ℕ) (old new : Flows) → SameWrite c old.gates new.gates → write_at c new ≡ write_at c old
write_same c old new s = write_seen c new ∙ ((λ i. write_of (s.known i) (s.above i) (s.lows i)) ∙ sym (write_seen c old))

pub keeps_writes : (old new : Flows) → ((c : ℕ) → SameWrite c old.gates new.gates) → KeepsWrites old new
keeps_writes old new s = record { writes = λ c. write_same c old new (s c) }

pub same_write : (c : ℕ) (board : Board) → SameWrite c board board
same_write c board = record { known = refl; above = refl; lows = refl }

-- one is what it is made, the others are as they were
pub changes_write : (c : ℕ) (old new : Flows) (write : Option Write) → write_at c new ≡ write → ((d : ℕ) → (c == d) ≡ false → SameWrite d old.gates new.gates) → ChangesWrite c write old new
changes_write c old new write own others = record {
  writes = λ d. by_case (c == d)
      (λ same. ap (λ x. write_at x new) (sym (number_is c d same)) ∙ (own ∙ sym (ap (λ b. if b then write else write_at d old) same)))
      (λ other. write_same d old new (others d other) ∙ sym (ap (λ b. if b then write else write_at d old) other));
}

-- ---- what isn't known is neither above nor watched
module _ (board : Board) (b : BufferId) where
  pub unknown_low : is_known board b ≡ false → is_marked board b ≡ false
  unfolding is_known is_marked
  unknown_low none = by_found (lookup (same_buffer b) board.buffers) none
    where
      by_found : (o : Option BufferState) → is_some o ≡ false → option_map_or (λ s. s.above) o false ≡ false
      by_found None e = refl
      by_found (Some s) e = cc

  pub unknown_none : is_known board b ≡ false → pending_on board b ≡ []
  unfolding is_known pending_on
  unknown_none none = by_found (lookup (same_buffer b) board.buffers) none
    where
      by_found : (o : Option BufferState) → is_some o ≡ false → option_map_or (λ s. s.pending) o [] ≡ []
      by_found None e = refl
      by_found (Some s) e = cc

  pub unknown_unwatched : is_known board b ≡ false → watchers_of board b ≡ []
  unfolding is_known watchers_of
  unknown_unwatched none = by_found (lookup (same_buffer b) board.buffers) none
    where
      by_found : (o : Option BufferState) → is_some o ≡ false → option_map_or (λ s. s.watchers) o [] ≡ []
      by_found None e = refl
      by_found (Some s) e = cc

  pub marked_known : is_marked board b ≡ true → is_known board b ≡ true
  marked_known above = by_case (is_known board b) (λ known. known) (λ none. not_both (is_marked board b) above (unknown_low none))

no_write : (known above : Bool) (lows : List FlowId) → write_of known above lows ≡ None → known ≡ false
no_write true above lows e = absurd (none-some _ (sym e))
no_write false above lows e = refl

pub write_unknown : (c : ℕ) (flows : Flows) → write_at c flows ≡ None → is_known flows.gates (buffer.Write c) ≡ false
write_unknown c flows none = no_write _ _ _ (sym (write_seen c flows) ∙ none)

some_write : (known above : Bool) (lows : List FlowId) → is_some (write_of known above lows) ≡ known
some_write true above lows = refl
some_write false above lows = refl

pub write_known : (c : ℕ) (flows : Flows) → is_some (write_at c flows) ≡ is_known flows.gates (buffer.Write c)
write_known c flows = ap is_some (write_seen c flows) ∙ some_write _ _ _

-- what is answered is the first, and the rest is left
pub left_of : (result : Option FlowId) (old new : List FlowId) → (IsNone result ↔ (old ≡ [])) → old ≡ option_to_list result ++ new → new ≡ drop 1 old
left_of None old new none is = sym is ∙ (none.0 refl ∙ sym (ap (drop 1) (none.0 refl)))
left_of (Some f) old new none is = sym (ap (drop 1) is)

-- ---- it opens, closes, rises or drains
module _ (c : ℕ) (old new : Flows) where
  pub opens : write_at c old ≡ None → Knows (buffer.Write c) old.gates new.gates → ChangesWrite c (Some new_write) old new
  opens none k =
      let unknown = write_unknown c old none in
      let known : is_known new.gates (buffer.Write c) ≡ true = k.buffers (buffer.Write c) ∙ ap (λ b. b || is_known old.gates (buffer.Write c)) (same_number c) in
      let above : is_marked new.gates (buffer.Write c) ≡ false = k.marks (buffer.Write c) ∙ unknown_low old.gates (buffer.Write c) unknown in
      let lows : pending_on new.gates (buffer.Write c) ≡ [] = k.pending (buffer.Write c) ∙ unknown_none old.gates (buffer.Write c) unknown in
      changes_write c old new (Some new_write) (write_seen c new ∙ (λ i. write_of (known i) (above i) (lows i))) (λ d other. record {
        known = k.buffers (buffer.Write d) ∙ ap (λ b. b || is_known old.gates (buffer.Write d)) other;
        above = k.marks (buffer.Write d);
        lows = k.pending (buffer.Write d);
      })

  pub closes : Closes (buffer.Write c) old.gates new.gates → ChangesWrite c None old new
  closes k =
      let known : is_known new.gates (buffer.Write c) ≡ false = k.buffers (buffer.Write c) ∙ ap (λ b. not b && is_known old.gates (buffer.Write c)) (same_number c) in
      changes_write c old new None (write_seen c new ∙ ap (λ b. write_of b (is_marked new.gates (buffer.Write c)) (pending_on new.gates (buffer.Write c))) known) (λ d other. record {
        known = k.buffers (buffer.Write d) ∙ ap (λ b. not b && is_known old.gates (buffer.Write d)) other;
        above = k.marks (buffer.Write d) ∙ ap (λ b. not b && is_marked old.gates (buffer.Write d)) other;
        lows = k.pending (buffer.Write d);
      })

  pub rises : is_known old.gates (buffer.Write c) ≡ true → Rises (buffer.Write c) old.gates new.gates → ChangesWrite c (option_map (raised true) (write_at c old)) old new
  rises was k =
      let known : is_known new.gates (buffer.Write c) ≡ true = k.buffers (buffer.Write c) ∙ was in
      let above : is_marked new.gates (buffer.Write c) ≡ true = k.marks (buffer.Write c) ∙ ap (λ b. b || is_marked old.gates (buffer.Write c)) (same_number c) in
      let before : write_at c old ≡ write_of true (is_marked old.gates (buffer.Write c)) (pending_on old.gates (buffer.Write c)) = write_seen c old ∙ ap (λ b. write_of b (is_marked old.gates (buffer.Write c)) (pending_on old.gates (buffer.Write c))) was in
      changes_write c old new (option_map (raised true) (write_at c old))
      (write_seen c new ∙ ((λ i. write_of (known i) (above i) (k.pending (buffer.Write c) i)) ∙ (up (is_marked old.gates (buffer.Write c)) (pending_on old.gates (buffer.Write c)) ∙ sym (ap (option_map (raised true)) before))))
      (λ d other. record {
        known = k.buffers (buffer.Write d);
        above = k.marks (buffer.Write d) ∙ ap (λ b. b || is_marked old.gates (buffer.Write d)) other;
        lows = k.pending (buffer.Write d);
      })
    where
      up : (above : Bool) (lows : List FlowId) → write_of true true lows ≡ option_map (raised true) (write_of true above lows)
      up true lows = refl
      up false lows = refl

  pub drains : is_marked old.gates (buffer.Write c) ≡ true → pending_on old.gates (buffer.Write c) ≡ [] → Drains (buffer.Write c) old.gates new.gates
      → ChangesWrite c (option_map (lowered (watchers_of old.gates (buffer.Write c))) (write_at c old)) old new
  drains was none k =
      let w = watchers_of old.gates (buffer.Write c) in
      let high = marked_known old.gates (buffer.Write c) was in
      let known : is_known new.gates (buffer.Write c) ≡ true = k.buffers (buffer.Write c) ∙ high in
      let above : is_marked new.gates (buffer.Write c) ≡ false = k.marks (buffer.Write c) ∙ ap (λ b. not b && is_marked old.gates (buffer.Write c)) (same_number c) in
      let lows : pending_on new.gates (buffer.Write c) ≡ w = k.pending (buffer.Write c) ∙ ((λ i. none i ++ (if same_number c i then w else []))) in
      let before : write_at c old ≡ write_of true true [] = write_seen c old ∙ (λ i. write_of (high i) (was i) (none i)) in
      changes_write c old new (option_map (lowered w) (write_at c old))
      (write_seen c new ∙ ((λ i. write_of (known i) (above i) (lows i)) ∙ sym (ap (option_map (lowered w)) before)))
      (λ d other. record {
        known = k.buffers (buffer.Write d);
        above = k.marks (buffer.Write d) ∙ ap (λ b. not b && is_marked old.gates (buffer.Write d)) other;
        lows = k.pending (buffer.Write d) ∙ (ap (λ b. pending_on old.gates (buffer.Write d) ++ (if b then w else [])) other ∙ append-nil (pending_on old.gates (buffer.Write d)));
      })

  pub tells : (result : Option FlowId) → (IsNone result ↔ (pending_on old.gates (buffer.Write c) ≡ [])) → Tells (buffer.Write c) (option_to_list result) old.gates new.gates
      → ChangesWrite c (option_map told (write_at c old)) old new
  tells result none k =
      let rest : pending_on new.gates (buffer.Write c) ≡ drop 1 (pending_on old.gates (buffer.Write c)) = left_of result (pending_on old.gates (buffer.Write c)) (pending_on new.gates (buffer.Write c)) none
      (k.pending (buffer.Write c) ∙ ap (λ b. (if b then option_to_list result else []) ++ pending_on new.gates (buffer.Write c)) (same_number c)) in
      changes_write c old new (option_map told (write_at c old))
      (write_seen c new ∙ ((λ i. write_of (k.buffers (buffer.Write c) i) (k.marks (buffer.Write c) i) (rest i)) ∙ (down _ _ _ ∙ sym (ap (option_map told) (write_seen c old)))))
      (λ d other. record {
        known = k.buffers (buffer.Write d);
        above = k.marks (buffer.Write d);
        lows = sym (k.pending (buffer.Write d) ∙ ap (λ b. (if b then option_to_list result else []) ++ pending_on new.gates (buffer.Write d)) other);
      })
    where
      down : (known above : Bool) (lows : List FlowId) → write_of known above (drop 1 lows) ≡ option_map told (write_of known above lows)
      down true above lows = refl
      down false above lows = refl

-- ---- nothing was to be done
up_already : (above : Bool) (known : Bool) (lows : List FlowId) → (known && not above) ≡ false → write_of known above lows ≡ option_map (raised true) (write_of known above lows)
up_already true true lows e = refl
up_already false true lows e = cc
up_already above false lows e = refl

pub risen_already : (c : ℕ) (flows : Flows) → (is_known flows.gates (buffer.Write c) && not (is_marked flows.gates (buffer.Write c))) ≡ false → write_at c flows ≡ option_map (raised true) (write_at c flows)
risen_already c flows e = write_seen c flows ∙ (up_already (is_marked flows.gates (buffer.Write c)) (is_known flows.gates (buffer.Write c)) (pending_on flows.gates (buffer.Write c)) e ∙ sym (ap (option_map (raised true)) (write_seen c flows)))

-- where it isn't above, or somebody is still to be told, it stays
down_already : (known above : Bool) (lows w : List FlowId) → (above && (length lows == 0)) ≡ false → write_of known above lows ≡ option_map (lowered w) (write_of known above lows)
down_already true above lows w e = ap (λ b. Some (if b then record { above = false; lows = w } else record { above = above; lows = lows })) (sym e)
down_already false above lows w e = refl

pub drained_already : (c : ℕ) (flows : Flows) (w : List FlowId) → (is_marked flows.gates (buffer.Write c) && (length (pending_on flows.gates (buffer.Write c)) == 0)) ≡ false → write_at c flows ≡ option_map (lowered w) (write_at c flows)
drained_already c flows w e = write_seen c flows ∙ (down_already (is_known flows.gates (buffer.Write c)) (is_marked flows.gates (buffer.Write c)) (pending_on flows.gates (buffer.Write c)) w e ∙ sym (ap (option_map (lowered w)) (write_seen c flows)))

-- the gates stay, and the write buffer was already what it is to be
pub changes_none : (c : ℕ) (flows : Flows) (write : Option Write) → write_at c flows ≡ write → ChangesWrite c write flows flows
changes_none c flows write is = changes_write c flows flows write is (λ d other. same_write d flows.gates)
