-- What a session gives and stands for after HEADERS and CONTINUATION frames.
use Rattle.std.proofs.Common.{◌≡◌, ℕ, ◌+◌, ◌≤◌, Bool, true, false, cond, eqb, List, ◌++◌, length, Option, Some, None, Result, Ok, Err, refl, sym, ap, subst, ◌∙◌}
use Rattle.std.specs.Option.{option_map_or}
use Rattle.std.specs.Prelude.{IfSome, MatchOption, OnOk, nat_lt, not, option_map, ◌%◌, ◌&&◌, ◌||◌}
use Rattle.std.proofs.lemmas.Bool.{ltb-false, eqb-true}
use Rattle.h2_frames.specs.Frame.{Continuation, Frame, Headers}
use Rattle.h2_frames.specs.declared.types.Weighting.{Weighting}
use Rattle.h2_session.specs.Acts.{act_within, block_act, ended_act, opening_act}
use Rattle.h2_session.specs.Blocks.{block_with, ended_block, grown, open_block}
use Rattle.h2_session.specs.Errors.{breaks_block, error_of, is_great}
use Rattle.h2_session.specs.Happened.{Happening, Side, was_opened}
use Rattle.h2_session.specs.Streams.{is_idle}
use Rattle.h2_session.specs.Summary.{EndsBlock, FinishesBlock, StandsFor, Summary, Takes, begins_in, ended_state, has_room_in}
use Rattle.h2_session.specs.Table.{Puts, stream_at}
use Rattle.h2_session.specs.declared.act.Act.{Act}
use Rattle.h2_session.specs.declared.act.Act.TheVariants as act
use Rattle.h2_session.specs.declared.block.HeaderBlock.{HeaderBlock}
use Rattle.h2_session.specs.declared.streams.Stream.{Stream}
use Rattle.h2_session.proofs.BlockEnds.{Ends, LeavesEnded, block_gives, block_stands}
use Rattle.h2_session.proofs.Errors.{NoError, no_error, not_within}
use Rattle.h2_session.proofs.Frames.{TakesFrom, started}

-- HEADERS towards a cluster use a stream that this side opened
headers_used : (side : Side) (s : ℕ) (last e : Bool) (padded : ℕ) (priority : Option Weighting) (block : List ℕ) (past : List Happening)
    → NoError side (Headers s last e padded priority block) past → side.client_side ≡ true → was_opened s past ≡ true
headers_used side s last e padded priority block past ok c = cases side.client_side c ok.idle
  where
    opened_then : (a : Bool) → not a || false ≡ false → a ≡ true
    opened_then true e = refl
    opened_then false e = absurd cc

    cases : (client : Bool) → client ≡ true → not (not client && eqb (s % 2) 1) && is_idle client s past ≡ false → was_opened s past ≡ true
    cases true c i = opened_then (was_opened s past) i
    cases false c i = absurd cc

-- a block that a frame ends, on what is kept
pub ended_takes : (frame : Frame) (past : List Happening) (b : HeaderBlock) (v u w : Summary) (given : Act) → StandsFor past v
    → Ends frame past b → act_within v.side frame past ≡ option_map_or (λ k. ended_act v.side k past) (ended_block frame past) act.Ignore
    → given ≡ cond (begins_in v b) (opening_act b (has_room_in v)) (block_act b (stream_at b.stream v.streams))
    → LeavesEnded frame past b v (started w) → Puts b.stream (ended_state v b) v.streams w.streams → Takes frame v w given past
ended_takes frame past b v u w given h e within gives l put = record {
  act = gives ∙ block_gives past b v h ∙ sym (within ∙ ap (λ (o : Option HeaderBlock). option_map_or (λ k. ended_act v.side k past) o act.Ignore) e.ended_as);
  stands = block_stands frame past b v (started w) h e l put;
}

-- the summary after a frame that ends a run of empty ones
abbrev pub emptied : Summary → Summary
emptied u = record { side = u.side; failed = u.failed; started = u.started; block = u.block; greatest = u.greatest; next = u.next; empties = 0; streams = u.streams }

pub headers_end_takes : (v u w : Summary) (s : ℕ) (last : Bool) (padded : ℕ) (priority : Option Weighting) (block : List ℕ) (given : Act)
    → EndsBlock (record { stream = s; last = last; octets = block; frames = 1 }) v u given
    → w ≡ emptied u → TakesFrom (Headers s last true padded priority block) w given v
headers_end_takes v u w s last padded priority block given ends made past h none =
    let frame : Frame = Headers s last true padded priority block in
    let b : HeaderBlock = record { stream = s; last = last; octets = block; frames = 1 } in
    let ok = no_error v.side frame past none in
    let outside = not_within frame (open_block past) refl ok.block in
    ended_takes frame past b v u w given h
    (record { ended_as = refl; closed = λ q. refl; peer = λ q. refl }) refl ends.act
    (record {
      side = ap (λ (x : Summary). x.side) made ∙ ap (λ (x : Summary). x.side) ends.same;
      failed = ap (λ (x : Summary). x.failed) made ∙ ap (λ (x : Summary). x.failed) ends.same;
      started = refl;
      block = ap (λ (x : Summary). x.block) made ∙ ap (λ (x : Summary). x.block) ends.same ∙ h.block ∙ outside;
      none_open = refl;
      greatest_as = ap (λ (x : Summary). x.greatest) made ∙ ends.greatest;
      next = ap (λ (x : Summary). x.next) made ∙ ap (λ (x : Summary). x.next) ends.same;
      empties = ap (λ (x : Summary). x.empties) made;
      used = headers_used v.side s last true padded priority block past ok;
    })
    (subst (λ (t : List (ℕ × Stream)). Puts s (ended_state v b) v.streams t) (ap (λ (x : Summary). x.streams) (sym made)) ends.streams)

-- ---- CONTINUATION

-- the block that a CONTINUATION goes on with
record GoesOn (s : ℕ) (more : List ℕ) (past : List Happening) : Type 0 where
  block : HeaderBlock
  is : open_block past ≡ Some block
  stream : s ≡ block.stream
  few : block.frames + 1 ≤ 128

second : (a b : Bool) → a || b ≡ false → b ≡ false
second true b e = absurd cc
second false b e = e

back : (b : Bool) → not b ≡ false → b ≡ true
back true e = refl
back false e = absurd cc

goes_on : (side : Side) (s : ℕ) (e : Bool) (more : List ℕ) (past : List Happening) → NoError side (Continuation s e more) past → GoesOn s more past
goes_on side s e more past ok = cases (open_block past) refl ok.block ok.great
  where
    cases : (o : Option HeaderBlock) → open_block past ≡ o → breaks_block (Continuation s e more) o ≡ false → is_great (block_with (Continuation s e more) o) ≡ false → GoesOn s more past
    cases None i breaks great = absurd cc
    cases (Some b) i breaks great = record { block = b; is = i; stream = eqb-true s b.stream (back (eqb s b.stream) breaks); few = ltb-false 128 (b.frames + 1) (second (nat_lt 65536 (length (b.octets ++ more))) (nat_lt 128 (b.frames + 1)) great) }

-- the stream of an open block towards a cluster is one that this side opened
within_used : (past : List Happening) (v : Summary) (b : HeaderBlock) → StandsFor past v → open_block past ≡ Some b → v.side.client_side ≡ true → was_opened b.stream past ≡ true
within_used past v b h i c = subst (λ (o : Option HeaderBlock). IfSome o (λ k. was_opened k.stream past ≡ true)) i (h.within c)

-- the summary without an open block
abbrev pub unblocked : Summary → Summary
unblocked v = record { side = v.side; failed = v.failed; started = v.started; block = None; greatest = v.greatest; next = v.next; empties = v.empties; streams = v.streams }

pub continuation_end_takes : (v w : Summary) (s : ℕ) (more : List ℕ) (given : Act) → FinishesBlock more v w given → TakesFrom (Continuation s true more) w given v
continuation_end_takes v w s more given finishes past h none =
    let frame : Frame = Continuation s true more in
    let ok = no_error v.side frame past none in
    let on = goes_on v.side s true more past ok in
    let before : v.block ≡ Some on.block = h.block ∙ on.is in
    let ends : EndsBlock (record { stream = on.block.stream; last = on.block.last; octets = on.block.octets ++ more; frames = 1 }) (unblocked v) w given =
    subst (λ (o : Option HeaderBlock). Finishes o v w given) before finishes in
    ended_takes frame past (grown more on.block) v w w given h
    (record { ended_as = ap (option_map (grown more)) on.is; closed = λ q. refl; peer = λ q. refl }) refl ends.act
    (record {
      side = ap (λ (x : Summary). x.side) ends.same;
      failed = ap (λ (x : Summary). x.failed) ends.same;
      started = refl;
      block = ap (λ (x : Summary). x.block) ends.same;
      none_open = refl;
      greatest_as = ends.greatest;
      next = ap (λ (x : Summary). x.next) ends.same;
      empties = ap (λ (x : Summary). x.empties) ends.same ∙ h.empties;
      used = within_used past v on.block h on.is;
    })
    ends.streams
  where
    Finishes : Option HeaderBlock → Summary → Summary → Act → Type 0
    Finishes o v w given = MatchOption o (w ≡ v) (λ b. EndsBlock (record { stream = b.stream; last = b.last; octets = b.octets ++ more; frames = 1 }) (unblocked v) w given)

-- the same of a result
pub continuation_result : {T E : Type 0} (r : Result T E) (given : Act) (v w : Summary) (s : ℕ) (e : Bool) (more : List ℕ) → e ≡ true → OnOk r (FinishesBlock more v w given)
    → (past : List Happening) → StandsFor past v → error_of v.side (Continuation s e more) past ≡ None → OnOk r (Takes (Continuation s e more) v w given past)
continuation_result (Ok x) given v w s e more is finishes past h none =
    subst (λ (b : Bool). TakesFrom (Continuation s b more) w given v) (sym is) (continuation_end_takes v w s more given finishes) past h none
continuation_result (Err error) given v w s e more is finishes past h none = tt
