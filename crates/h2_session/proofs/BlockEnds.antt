-- Frames that end a header block.
use Rattle.std.proofs.Common.{◌≡◌, ℕ, ◌<◌, Bool, true, false, cond, eqb, List, ◌∷◌, max, Option, Some, None, refl, sym, ap, subst, ◌∙◌, arith}
use Rattle.std.specs.Prelude.{IfSome, nat_lt, not, ◌%◌, ◌&&◌, ◌||◌}
use Rattle.std.proofs.lemmas.Bool.{le-ltb, lt-ltb, ltb-true}
use Rattle.h2_frames.specs.Frame.{Frame}
use Rattle.h2_session.specs.Acts.{block_act, ended_act, opening_act}
use Rattle.h2_session.specs.Blocks.{ended_block, greatest, open_block}
use Rattle.h2_session.specs.Errors.{empty_run}
use Rattle.h2_session.specs.Happened.{Came, Happening, Side, was_ended, was_opened}
use Rattle.h2_session.specs.Streams.{begins, has_room, head_stands, is_among, is_last_on, is_new, is_on, opened, peer_ended, state_of, was_closed}
use Rattle.h2_session.specs.Summary.{StandsFor, Summary, begins_in, ended_state, has_room_in}
use Rattle.h2_session.specs.Table.{Puts, after_block, stream_at}
use Rattle.h2_session.specs.declared.block.HeaderBlock.{HeaderBlock}
use Rattle.h2_session.specs.declared.streams.Stream.{Stream}
use Rattle.h2_session.proofs.Came.{differs}
use Rattle.h2_session.proofs.Opening.{apart_too, no_state, not_among, stands_opened}
use Rattle.h2_session.proofs.Standing.{Keeps, stands_moved}
use Rattle.h2_session.proofs.States.{IsOf, after_block_is, state_with}

pub same_number : (s : ℕ) → eqb s s ≡ true
same_number s = grind arith

-- a frame that ends this block, and says nothing else of streams
pub record Ends (frame : Frame) (past : List Happening) (b : HeaderBlock) : Type 0 where
  pub ended_as : ended_block frame past ≡ Some b
  pub closed : (q : ℕ) → was_closed q (Came frame ∷ past) ≡ was_closed q past
  pub peer : (q : ℕ) → peer_ended q (Came frame ∷ past) ≡ is_last_on q (ended_block frame past) || peer_ended q past

greatest_is : (frame : Frame) (past : List Happening) (b : HeaderBlock) → ended_block frame past ≡ Some b → greatest (Came frame ∷ past) ≡ max (greatest past) b.stream
greatest_is frame past b e = rw e refl

peer_is : (frame : Frame) (past : List Happening) (b : HeaderBlock) (q : ℕ) → Ends frame past b → peer_ended q (Came frame ∷ past) ≡ (eqb b.stream q && b.last) || peer_ended q past
peer_is frame past b q e = e.peer q ∙ ap (λ (o : Option HeaderBlock). is_last_on q o || peer_ended q past) e.ended_as

head_is : (frame : Frame) (past : List Happening) (b : HeaderBlock) (q : ℕ) → Ends frame past b → head_stands q (Came frame ∷ past) ≡ eqb b.stream q || head_stands q past
head_is frame past b q e = ap (λ (o : Option HeaderBlock). is_on q o || head_stands q past) e.ended_as

opened_is : (side : Side) (frame : Frame) (past : List Happening) (b : HeaderBlock) → ended_block frame past ≡ Some b
    → opened side (Came frame ∷ past) ≡ cond (begins side b past && has_room side past (opened side past)) (b.stream ∷ opened side past) (opened side past)
opened_is side frame past b e = rw e refl

is_of : (frame : Frame) (past : List Happening) (b : HeaderBlock) → Ends frame past b → IsOf b.stream (Came frame) past
is_of frame past b e = record {
  closed = λ q ne. e.closed q;
  peer = λ q ne. peer_is frame past b q e ∙ ap (λ (x : Bool). (x && b.last) || peer_ended q past) (apart_too q b.stream ne);
  ended = λ q ne. refl;
  head = λ q ne. head_is frame past b q e ∙ ap (λ (x : Bool). x || head_stands q past) (apart_too q b.stream ne);
}

-- the block's stream isn't new any more
old_after : (c : Bool) (frame : Frame) (past : List Happening) (b : HeaderBlock) → ended_block frame past ≡ Some b → (c ≡ true → was_opened b.stream past ≡ true) → is_new c b.stream (Came frame ∷ past) ≡ false
old_after true frame past b e used = rw (used refl) refl
old_after false frame past b e used =
    ap (λ (n : ℕ). nat_lt n b.stream) (greatest_is frame past b e) ∙ le-ltb (max (greatest past) b.stream) b.stream (omega arith)

-- what is new after it was new before it
new_before : (c : Bool) (q : ℕ) (frame : Frame) (past : List Happening) (b : HeaderBlock) → ended_block frame past ≡ Some b → is_new c q (Came frame ∷ past) ≡ true → is_new c q past ≡ true
new_before true q frame past b e n = n
new_before false q frame past b e n =
    let below : max (greatest past) b.stream < q = ltb-true (max (greatest past) b.stream) q (ap (λ (k : ℕ). nat_lt k q) (sym (greatest_is frame past b e)) ∙ n) in
    lt-ltb (greatest past) q (omega arith)

-- what a frame that ends a block leaves beside the streams
pub record LeavesEnded (frame : Frame) (past : List Happening) (b : HeaderBlock) (v w : Summary) : Type 0 where
  pub side : w.side ≡ v.side
  pub failed : w.failed ≡ v.failed
  pub started : w.started ≡ true
  pub block : w.block ≡ open_block (Came frame ∷ past)
  pub none_open : open_block (Came frame ∷ past) ≡ None
  pub greatest_as : w.greatest ≡ max v.greatest b.stream
  pub next : w.next ≡ v.next
  pub empties : w.empties ≡ empty_run (Came frame ∷ past)
  pub used : v.side.client_side ≡ true → was_opened b.stream past ≡ true

keeps_ended : (frame : Frame) (past : List Happening) (b : HeaderBlock) (v w : Summary) → StandsFor past v → Ends frame past b → LeavesEnded frame past b v w → Keeps v.side (Came frame) past w
keeps_ended frame past b v w h e l = record {
  failed = l.failed ∙ h.failed;
  started = l.started;
  block = l.block;
  greatest_as = l.greatest_as ∙ ap (λ (n : ℕ). max n b.stream) h.greatest ∙ sym (greatest_is frame past b e.ended_as);
  next = l.next ∙ h.next;
  numbered = λ q. h.numbered q ∙ ap (λ (n : ℕ). nat_lt q n && (eqb (q % 2) 1)) (sym l.next);
  empties = l.empties;
  new = λ q n. new_before v.side.client_side q frame past b e.ended_as n;
  untouched = λ q n.
      let before = h.untouched q (new_before v.side.client_side q frame past b e.ended_as n) in
      let ne = differs v.side.client_side q b.stream (Came frame ∷ past) n (old_after v.side.client_side frame past b e.ended_as l.used) in
      let of = is_of frame past b e in
      record { peer = of.peer q ne ∙ before.peer; ended = before.ended; closed = of.closed q ne ∙ before.closed; head = of.head q ne ∙ before.head };
  within = λ c. subst (λ (o : Option HeaderBlock). IfSome o (λ k. was_opened k.stream (Came frame ∷ past) ≡ true)) (sym l.none_open) tt;
}

-- the state of the block's stream after it, whether it is among those that were opened
state_here : (side : Side) (frame : Frame) (past : List Happening) (b : HeaderBlock) (streams : List ℕ) → Ends frame past b → opened side (Came frame ∷ past) ≡ streams
    → state_of side b.stream (Came frame ∷ past) ≡ state_with (is_among b.stream streams) (was_closed b.stream past) (b.last || peer_ended b.stream past) (was_ended b.stream past) true
state_here side frame past b streams e o =
    ap (λ (l : List ℕ). state_with (is_among b.stream l) (was_closed b.stream (Came frame ∷ past)) (peer_ended b.stream (Came frame ∷ past)) (was_ended b.stream past) (head_stands b.stream (Came frame ∷ past))) o
    ∙ equal (is_among b.stream streams) (was_ended b.stream past) (e.closed b.stream)
    (peer_is frame past b b.stream e ∙ ap (λ (x : Bool). (x && b.last) || peer_ended b.stream past) (same_number b.stream))
    (head_is frame past b b.stream e ∙ ap (λ (x : Bool). x || head_stands b.stream past) (same_number b.stream))
  where
    equal : (a f : Bool) {c d p r h k : Bool} → c ≡ d → p ≡ r → h ≡ k → state_with a c p f h ≡ state_with a d r f k
    equal a f i j k = cc

-- a block on a stream that began before
ended_on_old : (frame : Frame) (past : List Happening) (b : HeaderBlock) (v w : Summary) → StandsFor past v → Ends frame past b → LeavesEnded frame past b v w
    → begins v.side b past ≡ false → Puts b.stream (after_block b.last (stream_at b.stream v.streams)) v.streams w.streams → StandsFor (Came frame ∷ past) w
ended_on_old frame past b v w h e l old put =
    let same : opened v.side (Came frame ∷ past) ≡ opened v.side past =
    opened_is v.side frame past b e.ended_as ∙ ap (λ (x : Bool). cond (x && has_room v.side past (opened v.side past)) (b.stream ∷ opened v.side past) (opened v.side past)) old in
    let state : after_block b.last (stream_at b.stream v.streams) ≡ state_of v.side b.stream (Came frame ∷ past) =
    ap (after_block b.last) (h.streams b.stream)
    ∙ after_block_is b.last (is_among b.stream (opened v.side past)) (was_closed b.stream past) (peer_ended b.stream past) (was_ended b.stream past) (head_stands b.stream past)
    ∙ sym (state_here v.side frame past b (opened v.side past) e same) in
    stands_moved (Came frame) past v w b.stream (after_block b.last (stream_at b.stream v.streams)) h l.side (keeps_ended frame past b v w h e l)
    (record { opened_as = same; of = is_of frame past b e }) put state

-- a client's new stream that finds no room
ended_refused : (frame : Frame) (past : List Happening) (b : HeaderBlock) (v w : Summary) → StandsFor past v → Ends frame past b → LeavesEnded frame past b v w
    → begins v.side b past ≡ true → has_room v.side past (opened v.side past) ≡ false → is_new v.side.client_side b.stream past ≡ true
    → Puts b.stream (stream_at b.stream v.streams) v.streams w.streams → StandsFor (Came frame ∷ past) w
ended_refused frame past b v w h e l begun full new put =
    let same : opened v.side (Came frame ∷ past) ≡ opened v.side past =
    opened_is v.side frame past b e.ended_as ∙ rw (begun, full) refl in
    let none : stream_at b.stream v.streams ≡ state_of v.side b.stream (Came frame ∷ past) =
    no_state past v b.stream h new
    ∙ sym (state_here v.side frame past b (opened v.side past) e same
    ∙ ap (λ (a : Bool). state_with a (was_closed b.stream past) (b.last || peer_ended b.stream past) (was_ended b.stream past) true) (not_among past v b.stream h new)) in
    stands_moved (Came frame) past v w b.stream (stream_at b.stream v.streams) h l.side (keeps_ended frame past b v w h e l)
    (record { opened_as = same; of = is_of frame past b e }) put none

fresh_state : (last c p e a : Bool) → a ≡ true → c ≡ false → p ≡ false → e ≡ false → Some (record { peer_ended = last; ended = false; head = true }) ≡ state_with a c (last || p) e true
fresh_state last c p e a i j k l =
    plain last ∙ sym (ap (λ (x : Bool). state_with x c (last || p) e true) i ∙ ap (λ (x : Bool). state_with true x (last || p) e true) j
    ∙ ap (λ (x : Bool). state_with true false (last || x) e true) k ∙ ap (λ (x : Bool). state_with true false (last || false) x true) l)
  where
    plain : (last : Bool) → Some (record { peer_ended = last; ended = false; head = true }) ≡ state_with true false (last || false) false true
    plain true = refl
    plain false = refl

-- a client's new stream that finds room
ended_opens : (frame : Frame) (past : List Happening) (b : HeaderBlock) (v w : Summary) → StandsFor past v → Ends frame past b → LeavesEnded frame past b v w
    → begins v.side b past ≡ true → has_room v.side past (opened v.side past) ≡ true → is_new v.side.client_side b.stream past ≡ true
    → Puts b.stream (Some (record { peer_ended = b.last; ended = false; head = true })) v.streams w.streams → StandsFor (Came frame ∷ past) w
ended_opens frame past b v w h e l begun room new put =
    let more : opened v.side (Came frame ∷ past) ≡ b.stream ∷ opened v.side past = opened_is v.side frame past b e.ended_as ∙ rw (begun, room) refl in
    let before = h.untouched b.stream new in
    let state =
    fresh_state b.last (was_closed b.stream past) (peer_ended b.stream past) (was_ended b.stream past) (is_among b.stream (b.stream ∷ opened v.side past))
    (ap (λ (x : Bool). x || is_among b.stream (opened v.side past)) (same_number b.stream)) before.closed before.peer before.ended
    ∙ sym (state_here v.side frame past b (b.stream ∷ opened v.side past) e more) in
    stands_opened (Came frame) past v w b.stream (record { peer_ended = b.last; ended = false; head = true }) h l.side (keeps_ended frame past b v w h e l)
    (record { opened_as = more; of = is_of frame past b e; new_before = new; new_after = old_after v.side.client_side frame past b e.ended_as l.used; state_is = state }) put

new_from : (side : Side) (b : HeaderBlock) (past : List Happening) → begins side b past ≡ true → is_new side.client_side b.stream past ≡ true
new_from side b past e = cases side.client_side e
  where
    cases : (c : Bool) → not c && nat_lt (greatest past) b.stream ≡ true → cond c (not (was_opened b.stream past)) (nat_lt (greatest past) b.stream) ≡ true
    cases true e = absurd cc
    cases false e = e

-- what is kept tells whether a block begins a stream, and whether there is room
begins_as : (past : List Happening) (v : Summary) (b : HeaderBlock) → StandsFor past v → begins_in v b ≡ begins v.side b past
begins_as past v b h = ap (λ (n : ℕ). not v.side.client_side && nat_lt n b.stream) h.greatest

room_as : (past : List Happening) (v : Summary) → StandsFor past v → has_room_in v ≡ has_room v.side past (opened v.side past)
room_as past v h = ap (λ (n : ℕ). nat_lt n v.side.max_streams) h.count

-- what an ended block makes of a stream, by whether it begins it and finds room
abbrev made : Bool → Bool → HeaderBlock → Option Stream → Option Stream
made begin room b before = cond begin (cond room (Some (record { peer_ended = b.last; ended = false; head = true })) before) (after_block b.last before)

made_as : (v : Summary) (b : HeaderBlock) (x y : Bool) → begins_in v b ≡ x → has_room_in v ≡ y → ended_state v b ≡ made x y b (stream_at b.stream v.streams)
made_as v b x y i j = ap (λ (z : Bool). made z (has_room_in v) b (stream_at b.stream v.streams)) i ∙ ap (λ (z : Bool). made x z b (stream_at b.stream v.streams)) j

pub block_stands : (frame : Frame) (past : List Happening) (b : HeaderBlock) (v w : Summary) → StandsFor past v → Ends frame past b → LeavesEnded frame past b v w
    → Puts b.stream (ended_state v b) v.streams w.streams → StandsFor (Came frame ∷ past) w
block_stands frame past b v w h e l put = cases (begins_in v b) (has_room_in v) refl refl
  where
    moved : (x y : Bool) → begins_in v b ≡ x → has_room_in v ≡ y → Puts b.stream (made x y b (stream_at b.stream v.streams)) v.streams w.streams
    moved x y i j = subst (λ (s : Option Stream). Puts b.stream s v.streams w.streams) (made_as v b x y i j) put

    cases : (x y : Bool) → begins_in v b ≡ x → has_room_in v ≡ y → StandsFor (Came frame ∷ past) w
    cases true true i j =
        let begun = sym (begins_as past v b h) ∙ i in
        ended_opens frame past b v w h e l begun (sym (room_as past v h) ∙ j) (new_from v.side b past begun) (moved true true i j)
    cases true false i j =
        let begun = sym (begins_as past v b h) ∙ i in
        ended_refused frame past b v w h e l begun (sym (room_as past v h) ∙ j) (new_from v.side b past begun) (moved true false i j)
    cases false y i j = ended_on_old frame past b v w h e l (sym (begins_as past v b h) ∙ i) (moved false y i j)

-- the act that what is kept gives is that of what came
pub block_gives : (past : List Happening) (b : HeaderBlock) (v : Summary) → StandsFor past v
    → cond (begins_in v b) (opening_act b (has_room_in v)) (block_act b (stream_at b.stream v.streams)) ≡ ended_act v.side b past
block_gives past b v h = rw (begins_as past v b h, room_as past v h, h.streams b.stream) refl
