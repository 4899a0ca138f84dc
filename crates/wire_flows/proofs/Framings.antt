-- What a DATA frame leaves, all together.
use Rattle.exchange_core.specs.Changes.{ChangesFlow}
use Rattle.exchange_core.specs.Effects.{body_framed}
use Rattle.exchange_core.specs.Exchange.{IsFlowOf}
use Rattle.exchange_core.specs.Exchanges.{Exchanges, IsSound as AreSoundExchanges, flow_at, is_send_above}
use Rattle.exchange_core.specs.Flow.{Flow, last_place, send}
use Rattle.exchange_core.specs.Units.{IsFrameable, next_unit}
use Rattle.exchange_core.specs.State.{ungated}
use Rattle.filter_chain.proofs.Changes.{get-set_same}
use Rattle.filter_chain.specs.Chain.{above_at}
use Rattle.filter_chain.specs.Place.{IsPlace, Place, is_source, kind_of, losing}
use Rattle.flow_gate.proofs.SameIds.{same_buffer-refl, same_buffer_exact, same_flow-refl, same_flow_exact}
use Rattle.flow_gate.specs.Board.{Board, IsSound as AreSoundGates, is_known, is_marked, pending_on, watchers_of}
use Rattle.flow_gate.specs.Ids.{is_own, same_buffer, same_flow}
use Rattle.flow_rules.specs.declared.ids.BufferId.{BufferId}
use Rattle.flow_rules.specs.declared.ids.FlowId.{FlowId}
use Rattle.flow_rules.specs.Narrowed.{octets_of}
use Rattle.flow_rules.specs.State.{FlowState}
use Rattle.flow_rules.specs.Units.{carried, carries_end, ends_after, head_may_go, next_unit as first_unit}
use Rattle.flow_rules.specs.declared.unit.Unit.{Unit as NextUnit}
use Rattle.flow_rules.specs.declared.unit.Unit.TheVariants.{Body, Head, Nothing, Trailers}
use Rattle.std.proofs.Common.{SFits, ap, arith, refl, subst, sym, w64, ◌∙◌}
use Rattle.std.proofs.lemmas.Bool.Decides.{nat_tests}
use Rattle.std.proofs.lemmas.Option.{none-some, same_Some}
use Rattle.std.proofs.lemmas.Int.{ints}
use Rattle.std.specs.Int.{int_min}
use Rattle.h2_frames.specs.Head.{data_head}
use Rattle.io_ports.specs.declared.octets.NoMemory.{NoMemory}
use Rattle.exchange_core.specs.declared.step.Piece.{Piece}
use Rattle.wm_buffer.specs.Buffer.{AppendsOctets, Buffer}
use Rattle.wm_buffer.specs.declared.buffer.Shifted.{Shifted}
use Rattle.std.proofs.lemmas.List.{length-append, length-take}
use lib.Signed.{mag}
use Rattle.std.specs.Option.{option_map_or}
use Rattle.std.specs.Prelude.{Bool, Err, IfSome, IsOk, List, None, Ok, OnErr, Option, Result, Some, [], cond, drop, false, if◌then◌else◌, int_lt, length, min, nat_lt, negsuc, not, option_map, pos, set, slice_get, suc, take, true, zero, ℕ, ℤ, ◌&&◌, ◌++◌, ◌-ℤ◌, ◌^◌, ◌*◌, ◌+◌, ◌-◌, ◌<◌, ◌==◌, ◌||◌, ◌∷◌, ◌≡◌, ◌≤◌}
use Rattle.wire_flows.proofs.Answering.{wire_found}
use Rattle.wire_flows.proofs.Boards.{changes_write, write_of, write_seen}
use Rattle.wire_flows.proofs.Cases.{by_case, not_both, same_number}
use Rattle.wire_flows.proofs.Crossings.{low_of}
use Rattle.wire_flows.proofs.Finals.{IsBodyWithin, body_within}
use Rattle.wire_flows.proofs.Found.{flow_after, flow_is, name_is}
use Rattle.wire_flows.proofs.Frames.{LastIs, framed_kept, framed_less, framed_way, last_found, places_are}
use Rattle.wire_flows.proofs.Freed.{place_sound}
use Rattle.wire_flows.proofs.Going.{go_less}
use Rattle.wire_flows.proofs.Kept.{KeepsFlow, KeepsGates, keeps_left, keeps_live, sound_after}
use Rattle.wire_flows.proofs.Others.{own_apart}
use Rattle.wire_flows.proofs.Owners.{own_differs}
use Rattle.wire_flows.proofs.Stepping.{above_of}
use Rattle.wire_flows.proofs.Steps.{let_go_low}
use Rattle.wire_flows.proofs.Watched.{own_watchers}
use Rattle.wire_flows.specs.Begins.{Crosses}
use Rattle.wire_flows.specs.Flows.{Flows, KeepsLeft, KeepsLive, flow_in, goes_to, time_of}
use Rattle.wire_flows.specs.Measure.{flow_way, to_go}
use Rattle.wire_flows.specs.Moves.{is_high, is_low, piece_of}
use Rattle.wire_flows.specs.Sound.{IsSound, MarksAre, buffer_of}
use Rattle.wire_flows.specs.Writes.{ChangesWrite, Write, raised, write_at}
use Rattle.wire_flows.specs.declared.framing.Framed.{Framed}
use Rattle.wm_buffer.specs.Watermark.{crossing}
use Rattle.wm_buffer.specs.declared.watermark.Crossed.{Crossed}
use Rattle.flow_rules.specs.declared.ids.BufferId.TheVariants as buffer
use borrow.Author.Differences.{down, up}

-- ---- a frame without octets carries an end that wasn't framed
body_ends : (state : FlowState) (n : ℕ) (last : Bool) → first_unit state ≡ Body n last → n ≡ 0 → (last ≡ true) × (state.end_framed ≡ false)
body_ends state n last is none = by_case state.head_waits
    (λ waits. head (head_may_go state) (sym (ap (λ b. if b then (if head_may_go state then Head state.head_ends else Nothing) else (if nat_lt 0 (carried state) then Body (carried state) (carries_end state (carried state)) else (if not (ends_after state 0) || state.end_framed then Nothing else (if state.trailers_wait then Trailers else Body 0 true)))) waits) ∙ is))
    (λ other. rest (sym (ap (λ b. if b then (if head_may_go state then Head state.head_ends else Nothing) else (if nat_lt 0 (carried state) then Body (carried state) (carries_end state (carried state)) else (if not (ends_after state 0) || state.end_framed then Nothing else (if state.trailers_wait then Trailers else Body 0 true)))) other) ∙ is))
  where
    head : (b : Bool) → (if b then Head state.head_ends else Nothing) ≡ Body n last → (last ≡ true) × (state.end_framed ≡ false)
    head true t = cc
    head false t = cc

    some : (m : ℕ) → nat_lt 0 m ≡ true → m ≡ n → n ≡ 0 → ⊥
    some m h e z = let t : 0 < m = grind (arith, nat_tests) in absurd (omega (arith, t, e, z))

    second : (a b : Bool) → (not a || b) ≡ false → b ≡ false
    second true b e = e
    second false b e = cc

    end : (b : Bool) → state.end_framed ≡ false → (if b then Trailers else Body 0 true) ≡ Body n last → (last ≡ true) × (state.end_framed ≡ false)
    end true e t = cc
    end false e t = let l : true ≡ last = cc in (sym l, e)

    rest : (if nat_lt 0 (carried state) then Body (carried state) (carries_end state (carried state)) else (if not (ends_after state 0) || state.end_framed then Nothing else (if state.trailers_wait then Trailers else Body 0 true))) ≡ Body n last → (last ≡ true) × (state.end_framed ≡ false)
    rest t = by_case (nat_lt 0 (carried state))
        (λ more.
        let same : Body (carried state) (carries_end state (carried state)) ≡ Body n last = sym (ap (λ b. if b then Body (carried state) (carries_end state (carried state)) else (if not (ends_after state 0) || state.end_framed then Nothing else (if state.trailers_wait then Trailers else Body 0 true))) more) ∙ t in
        let m : carried state ≡ n = cc in absurd (some (carried state) more m none))
        (λ few.
        let left = sym (ap (λ b. if b then Body (carried state) (carries_end state (carried state)) else (if not (ends_after state 0) || state.end_framed then Nothing else (if state.trailers_wait then Trailers else Body 0 true))) few) ∙ t in
        by_case (not (ends_after state 0) || state.end_framed)
        (λ no. let bad : Nothing ≡ Body n last = sym (ap (λ b. if b then Nothing else (if state.trailers_wait then Trailers else Body 0 true)) no) ∙ left in cc)
        (λ yes. end state.trailers_wait (second (ends_after state 0) state.end_framed yes) (sym (ap (λ b. if b then Nothing else (if state.trailers_wait then Trailers else Body 0 true)) yes) ∙ left)))

-- ---- small facts
goes_down : (a c : Bool) → (a ≡ false → c ≡ false) → (not ((a && not c) && true) && a) ≡ c
goes_down true true k = refl
goes_down true false k = refl
goes_down false c k = sym (k refl)

and_false : (b : Bool) → (b && false) ≡ false
and_false true = refl
and_false false = refl

goes_up : (known high above : Bool) (lows : List FlowId) → write_of known (true && ((high && (known && not above)) && true || above)) lows ≡ option_map (raised high) (write_of known above lows)
goes_up true true true lows = refl
goes_up true true false lows = refl
goes_up true false true lows = refl
goes_up true false false lows = refl
goes_up false high above lows = refl

-- ---- the least of two rooms
octets_is : (z : ℤ) → octets_of z ≡ up z - down z
octets_is (pos n) = omega arith
octets_is (negsuc n) = omega arith

octets_min : (a b : ℤ) → octets_of (int_min a b) ≡ min (octets_of a) (octets_of b)
octets_min a b = by (int_lt b a) refl
  where
    by : (t : Bool) → int_lt b a ≡ t → octets_of (cond t b a) ≡ min (octets_of a) (octets_of b)
    by true e = omega (arith, ints, octets_is a, octets_is b)
    by false e = omega (arith, ints, octets_is a, octets_is b)

pub record FitsBoth (n : ℕ) (x y : ℤ) : Type 0 where
  pub room_is : n ≤ octets_of x
  pub most_is : n ≤ octets_of y

pub min_within : (n : ℕ) (x y : ℤ) → n ≤ octets_of (int_min x y) → FitsBoth n x y
min_within n x y l = let m = octets_min x y in record { room_is = less (octets_of (int_min x y)) (octets_of x) (octets_of y) m l; most_is = other (octets_of (int_min x y)) (octets_of x) (octets_of y) m l }
  where
    less : (m a b : ℕ) → m ≡ min a b → n ≤ m → n ≤ a
    less m a b e l = omega (arith, e, l)

    other : (m a b : ℕ) → m ≡ min a b → n ≤ m → n ≤ b
    other m a b e l = omega (arith, e, l)

-- ---- what goes next
pub record UnitIs (room : ℤ) (frame : ℕ) (o : Option Flow) (u : NextUnit) : Type 0 where
  pub flow : Flow
  pub found : o ≡ Some flow
  pub is : next_unit room frame flow ≡ u

pub unit_is : (room : ℤ) (frame : ℕ) (o : Option Flow) (u : NextUnit) → Some u ≡ option_map (next_unit room frame) o → UnitIs room frame o u
unit_is room frame None u e = absurd (none-some u (sym e))
unit_is room frame (Some flow) u e = record { flow = flow; found = refl; is = sym (same_Some u (next_unit room frame flow) e) }

pub no_piece : (u : NextUnit) → ((n : ℕ) (last : Bool) → u ≡ Body n last → ⊥) → piece_of u ≡ None
no_piece (Body n last) k = absurd (k n last refl)
no_piece (Head last) k = refl
no_piece Trailers k = refl
no_piece Nothing k = refl

pub fine : (o : Option Piece) (k : ℕ) → IfSome o (λ (piece : Piece). 9 + piece.n ≤ k → true ≡ true)
fine None k = tt
fine (Some piece) k = λ few. refl

-- the room that is left fits where the octets were within it
pub sub_fits : (room : ℤ) (n : ℕ) → SFits w64 room → n ≤ octets_of room → SFits w64 (room -ℤ pos n)
sub_fits (negsuc a) zero f l = record { sfits = least (negsuc a -ℤ pos 0) (omega (arith, ints)) }
  where
    least : (z : ℤ) → up z + suc a ≡ down z → mag z < 2 ^ 63
    least (pos b) e = absurd (omega (arith, e))
    least (negsuc b) e = let few = f.sfits in omega (arith, e, few)
sub_fits (negsuc a) (suc n) f l = absurd (omega (arith, l))
sub_fits (pos a) n f l = record { sfits = small (pos a -ℤ pos n) (omega (arith, ints)) }
  where
    small : (z : ℤ) → up z + n ≡ down z + a → mag z < 2 ^ 63
    small (pos b) e = let few = f.sfits in omega (arith, e, few)
    small (negsuc b) e = absurd (omega (arith, e, l))

nine : (stream n : ℕ) (last : Bool) → length (data_head stream n last) ≡ 9
nine stream n last = refl

pub headed : (stream n : ℕ) (last : Bool) (head : List ℕ) → head ≡ data_head stream n last → length head ≡ 9
headed stream n last head e = ap length e ∙ nine stream n last

pub grown : (old new : Buffer) (head octets : List ℕ) (n : ℕ) → AppendsOctets old new (head ++ take n octets) → length head ≡ 9 → n ≤ length octets → length new.octets ≡ length old.octets + (9 + n)
grown old new head octets n a long few =
    ap length a.octets ∙ (length-append old.octets (head ++ take n octets) ∙ ap (λ k. length old.octets + k) (length-append head (take n octets) ∙ (λ i. long i + taken i)))
  where
    taken : length (take n octets) ≡ n
    taken = omega (arith, length-take n octets, few)

-- what goes next is within its bounds
pub body_fits : (z : ℤ) (frame n : ℕ) (last : Bool) (f : FlowId) (old : Flows) → IsSound old → (flow : Flow) → flow_in old f ≡ Some flow → next_unit z frame flow ≡ Body n last → IsBodyWithin z frame n
body_fits z frame n last f old s flow found is = body_within (ungated z frame flow) z frame n last refl (flow_is old.exchanges f flow s.exchanges found).sound.chain.quantum.1 is

pub err_of : (old : Flows) (ex : Exchanges) (out new : Buffer) (r : Result (Option Framed) NoMemory) → (ex ≡ old.exchanges) × (new ≡ out) → OnErr r ((◌≡◌ {A = Flows} (record { exchanges = ex; gates = old.gates }) old) × (new ≡ out))
err_of old ex out new (Ok o) e = tt
err_of old ex out new (Err x) e = (ap {B = Flows} (λ x. record { exchanges = x; gates = old.gates }) e.0, e.1)

-- what was refused isn't covered
pub not_covered : (r : Result (Shifted × NextUnit) NoMemory) (x : NoMemory) → r ≡ Err x → IsOk r → ⊥
not_covered (Ok y) x e ok = cc
not_covered (Err y) x e ok = cc

-- ---- all that a frame leaves
pub record LeavesFrame (conn : ℕ) (rose : Bool) (old new : Flows) : Type 0 where
  pub live : KeepsLive old new
  pub left : KeepsLeft old new
  pub time : time_of new ≡ time_of old
  pub writes : ChangesWrite conn (option_map (raised rose) (write_at conn old)) old new
  pub lows : (b : BufferId) → pending_on new.gates b ≡ pending_on old.gates b
  pub less : to_go new + 40 ≤ to_go old
  pub sound : IsSound new

module _ (f : FlowId) (conn : ℕ) (old : Flows) (ex : Exchanges) (board : Board) (s : IsSound old) (flow : Flow) (found : flow_in old f ≡ Some flow) (sound : AreSoundExchanges ex) (gates : AreSoundGates board)
    (n : ℕ) (last : Bool) (high low : Crossed) (c : ChangesFlow f (body_framed n last) old.exchanges ex) where
  own : IsFlowOf f.exchange f.back old.exchanges.time flow
  own = flow_is old.exchanges f flow s.exchanges found

  name : flow.chain.flow ≡ f
  name = name_is old.exchanges f flow s.exchanges found

  marks : MarksAre old.gates flow
  marks = subst (λ o. IfSome o (MarksAre old.gates)) found (s.marks f)

  end : LastIs flow.chain.places
  end = last_found flow.chain.places own.sound.chain.order

  source : is_source end.place.kind ≡ true
  source = ap is_source end.sends

  end_buffer : buffer_of f (suc end.index) (kind_of end.place.kind) ≡ buffer.Send f
  end_buffer = ap (λ k. buffer_of f (suc end.index) (kind_of k)) end.sends

  -- the send buffer is above in the gates where it is
  was_marked : is_marked old.gates (buffer.Send f) ≡ end.place.above
  was_marked = ap (is_marked old.gates) (sym (ap (λ k. buffer_of flow.chain.flow (suc end.index) (kind_of k)) end.sends ∙ ap buffer.Send name)) ∙ marks.each (suc end.index) end.place end.at source

  above_last : (g : Flow) (i : ℕ) (place : Place) → suc i ≡ last_place g → slice_get g.chain.places i ≡ Some place → above_at g.chain (last_place g) ≡ place.above
  above_last g i place e at = ap (above_at g.chain) (sym e) ∙ above_of g.chain.places i place at

  was_above : is_send_above old.exchanges f ≡ end.place.above
  was_above = ap (λ o. option_map_or (λ (x : Flow). above_at x.chain (last_place x)) o false) found ∙ above_last flow end.index end.place end.last end.at

  same_length : (xs : List Place) (i : ℕ) (y : Place) → length (set xs i y) ≡ length xs
  same_length [] i y = refl
  same_length (x ∷ xs) zero y = refl
  same_length (x ∷ xs) (suc i) y = let rest = same_length xs i y in omega (arith, rest)

  after_is : flow_at ex f ≡ Some (body_framed n last flow)
  after_is = flow_after f (body_framed n last) old.exchanges ex c f ∙ (ap (λ b. if b then option_map (body_framed n last) (flow_in old f) else flow_in old f) (same_flow-refl f) ∙ ap (option_map (body_framed n last)) found)

  now_above : is_send_above ex f ≡ (losing n end.place).above
  now_above = ap (λ o. option_map_or (λ (x : Flow). above_at x.chain (last_place x)) o false) after_is
      ∙ above_last (body_framed n last flow) end.index (losing n end.place)
      (end.last ∙ sym (ap length (places_are flow n last end) ∙ same_length flow.chain.places end.index (losing n end.place)))
      (ap (λ ps. slice_get ps end.index) (places_are flow n last end) ∙ get-set_same flow.chain.places end.index end.place (losing n end.place) end.at)

  pub only_watcher : watchers_of old.gates (buffer.Send f) ≡ f ∷ []
  only_watcher = ap (watchers_of old.gates) (sym end_buffer) ∙ own_watchers old s f flow found end.index end.place end.at source

  -- where it drains it was above in the gates
  pub high_before : low ≡ crossing (is_send_above old.exchanges f) (is_send_above ex f) → is_low low ≡ true → is_marked old.gates (buffer.Send f) ≡ true
  high_before is drains = was_marked ∙ (sym was_above ∙ first (is_send_above old.exchanges f) (is_send_above ex f) (sym (ap is_low is ∙ low_of (is_send_above old.exchanges f) (is_send_above ex f)) ∙ drains))
    where
      first : (a b : Bool) → (a && not b) ≡ true → a ≡ true
      first true b e = refl
      first false b e = cc

  module _ (room : ℤ) (frame : ℕ) (unit : next_unit room frame flow ≡ Body n last) (may : IsFrameable (Body n last) flow) (from : low ≡ crossing (is_send_above old.exchanges f) (is_send_above ex f))
      (t : Crosses (is_high high && (is_known old.gates (buffer.Write conn) && not (is_marked old.gates (buffer.Write conn)))) (buffer.Write conn) (is_low low) (buffer.Send f) (drop 1 (watchers_of old.gates (buffer.Send f))) old.gates board) where
    abbrev after : Flows
    after = record { exchanges = ex; gates = board }

    abbrev rises : Bool
    rises = is_high high && (is_known old.gates (buffer.Write conn) && not (is_marked old.gates (buffer.Write conn)))

    drained : is_low low ≡ (end.place.above && not (losing n end.place).above)
    drained = ap is_low from ∙ (low_of (is_send_above old.exchanges f) (is_send_above ex f) ∙ (λ i. was_above i && not (now_above i)))

    -- the marks
    here : is_marked board (buffer.Send f) ≡ (losing n end.place).above
    here = t.marks (buffer.Send f)
        ∙ ((λ i. not (drained i && same_buffer-refl (buffer.Send f) i) && ((rises && false) || was_marked i))
        ∙ (ap (λ b. not ((end.place.above && not (losing n end.place).above) && true) && (b || end.place.above)) (and_false rises)
        ∙ goes_down end.place.above (losing n end.place).above (λ low. let_go_low n end.place (place_sound flow.chain.places end.index end.place own.sound.chain.each end.at) low)))

    plain : (a b d : Bool) → (not (a && false) && ((b && false) || d)) ≡ d
    plain true true d = refl
    plain true false d = refl
    plain false true d = refl
    plain false false d = refl

    others : (g : FlowId) (b : BufferId) → is_own g b ≡ true → same_buffer (buffer.Send f) b ≡ false → is_marked board b ≡ is_marked old.gates b
    others g b mine other = t.marks b ∙ ((λ i. not (is_low low && other i) && ((rises && own_apart g b conn mine i) || is_marked old.gates b)) ∙ plain (is_low low) rises (is_marked old.gates b))

    kept : KeepsFlow old.gates board flow (body_framed n last flow)
    kept = framed_kept flow n last end old.gates board (ap (λ h. is_marked board (buffer.Send h)) name ∙ here)
        (λ b mine other. others flow.chain.flow b mine (ap (λ h. same_buffer (buffer.Send h) b) (sym name) ∙ other)) own.sound.chain.order

    kept_all : (x : Flow) → flow_in old f ≡ Some x → KeepsFlow old.gates board x (body_framed n last x)
    kept_all x is = subst (λ y. KeepsFlow old.gates board y (body_framed n last y)) (same_Some flow x (sym found ∙ is)) kept

    -- nobody is left to be told
    lows_same : (b : BufferId) → pending_on board b ≡ pending_on old.gates b
    lows_same b = t.pending b ∙ by_case (same_buffer (buffer.Send f) b)
        (λ same. ap (λ ws. if is_low low && same_buffer (buffer.Send f) b then drop 1 ws else pending_on old.gates b) only_watcher
        ∙ (either (is_low low && same_buffer (buffer.Send f) b) (pending_on old.gates b) (none same) ∙ sym (none same)))
        (λ other. ap (λ k. if is_low low && k then drop 1 (watchers_of old.gates (buffer.Send f)) else pending_on old.gates b) other ∙ ap (λ k. if k then drop 1 (watchers_of old.gates (buffer.Send f)) else pending_on old.gates b) (and_false (is_low low)))
      where
        none : same_buffer (buffer.Send f) b ≡ true → pending_on old.gates b ≡ []
        none same = ap (pending_on old.gates) (sym (same_buffer_exact (buffer.Send f) b same)) ∙ s.told f

        either : (k : Bool) (fs : List FlowId) → fs ≡ [] → (if k then [] else fs) ≡ []
        either true fs e = refl
        either false fs e = e

    crossed : KeepsGates f old.gates board
    crossed = record {
      flows = t.flows;
      watched = t.watched;
      buffers = t.buffers;
      watchers = λ d. t.watchers (buffer.Write d);
      sends = λ g. lows_same (buffer.Send g);
      marks = λ g b apart mine. others g b mine (own_differs f g (buffer.Send f) b apart (same_flow-refl f) mine);
    }

    writes : ChangesWrite conn (option_map (raised (is_high high)) (write_at conn old)) old after
    writes = changes_write conn old after (option_map (raised (is_high high)) (write_at conn old))
        (write_seen conn after
        ∙ ((λ i. write_of (t.buffers (buffer.Write conn) i) (t.marks (buffer.Write conn) i) (lows_same (buffer.Write conn) i))
        ∙ ((λ i. write_of (is_known old.gates (buffer.Write conn)) (not (and_false (is_low low) i) && ((rises && same_number conn i) || is_marked old.gates (buffer.Write conn))) (pending_on old.gates (buffer.Write conn)))
        ∙ (goes_up (is_known old.gates (buffer.Write conn)) (is_high high) (is_marked old.gates (buffer.Write conn)) (pending_on old.gates (buffer.Write conn))
        ∙ sym (ap (option_map (raised (is_high high))) (write_seen conn old))))))
        (λ d other. record {
          known = t.buffers (buffer.Write d);
          above = t.marks (buffer.Write d) ∙ ((λ i. not (is_low low && false) && ((rises && other i) || is_marked old.gates (buffer.Write d))) ∙ plain (is_low low) rises (is_marked old.gates (buffer.Write d)));
          lows = lows_same (buffer.Write d);
        })

    pub leaves_frame : LeavesFrame conn (is_high high) old after
    leaves_frame = record {
      live = keeps_live f (body_framed n last) old ex board c crossed kept_all;
      left = keeps_left f (body_framed n last) old ex board c (λ x is. refl);
      time = c.flow.time;
      writes = writes;
      lows = lows_same;
      less = go_less f (body_framed n last) old after c s.exchanges sound (λ d. lows_same (buffer.Write d)) 40 flow found
          (framed_less (flow_way (body_framed n last flow)) (flow_way flow) n flow.message.end_framed last (framed_way flow n last end may.1) (body_ends (ungated room frame flow) n last unit));
      sound = sound_after f (body_framed n last) old ex board c crossed kept_all s sound gates;
    }
