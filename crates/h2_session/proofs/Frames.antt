-- What a session gives and stands for after each type of frame that ends no header block.
use Rattle.std.proofs.Common.{◌≡◌, ℕ, ◌+◌, ◌<◌, Bool, true, false, cond, List, ◌∷◌, min, Option, None, refl, sym, ap, subst, ◌∙◌, arith}
use Rattle.std.specs.Prelude.{IfSome, nat_le, ◌&&◌, ◌||◌}
use Rattle.std.proofs.lemmas.Bool.{leb-false}
use Rattle.h2_frames.specs.Frame.{DataFrame, Frame, Reset}
use Rattle.h2_session.specs.Acts.{data_act, reset_act}
use Rattle.h2_session.specs.Blocks.{open_block}
use Rattle.h2_session.specs.Errors.{empty_run, error_of, is_empty_data}
use Rattle.h2_session.specs.Happened.{Came, Happening, Side, was_ended, was_opened}
use Rattle.h2_session.specs.Streams.{head_stands, is_among, is_new, opened, peer_ended, state_of, was_closed}
use Rattle.h2_session.specs.Summary.{StandsFor, Summary, Takes}
use Rattle.h2_session.specs.Table.{Puts, after_data, stream_at}
use Rattle.h2_session.specs.declared.act.Act.{Act}
use Rattle.h2_session.specs.declared.block.HeaderBlock.{HeaderBlock}
use Rattle.h2_session.proofs.BlockEnds.{same_number}
use Rattle.h2_session.proofs.Came.{Leaves, SaysOf, came_on}
use Rattle.h2_session.proofs.Errors.{no_error, not_both, not_new, not_within}
use Rattle.h2_session.proofs.Opening.{apart_too}
use Rattle.h2_session.proofs.States.{after_data_is, closed_is, state_with}

abbrev pub started : Summary → Summary
started w = record { side = w.side; failed = w.failed; started = true; block = w.block; greatest = w.greatest; next = w.next; empties = w.empties; streams = w.streams }

-- from what a frame of this kind comes on, whatever happened
abbrev pub TakesFrom : Frame → Summary → Act → Summary → Type 0
TakesFrom frame w given v = (past : List Happening) → StandsFor past v → error_of v.side frame past ≡ None → Takes frame v w given past

-- the same from the fields of a session, whose summary v is
pub takes_from : (frame : Frame) (w : Summary) (given : Act) (u v : Summary) → u ≡ v → TakesFrom frame w given u → TakesFrom frame w given v
takes_from frame w given u v e t = subst (TakesFrom frame w given) e t

-- beside streams and empty frames, what is kept stays
pub record Alike (v w : Summary) : Type 0 where
  pub side : w.side ≡ v.side
  pub failed : w.failed ≡ v.failed
  pub block : w.block ≡ v.block
  pub greatest : w.greatest ≡ v.greatest
  pub next : w.next ≡ v.next

-- a frame outside a block leaves none open
leaves : (frame : Frame) (past : List Happening) (v w : Summary) → StandsFor past v → Alike v w → open_block past ≡ None → open_block (Came frame ∷ past) ≡ None
    → w.empties ≡ empty_run (Came frame ∷ past) → Leaves frame past v (started w)
leaves frame past v w h a none after e = record {
  side = a.side;
  failed = a.failed;
  started = refl;
  block = a.block ∙ h.block ∙ none ∙ sym after;
  greatest_as = a.greatest;
  next = a.next;
  empties = e;
  within = λ c. subst (λ (o : Option HeaderBlock). IfSome o (λ b. was_opened b.stream past ≡ true)) (sym after) tt;
}

-- ---- DATA

pub data_run : (past : List Happening) (side : Side) (s padded : ℕ) (last : Bool) (octets : List ℕ) (empties run : ℕ)
    → is_empty_data (DataFrame s last padded octets) && nat_le side.empty_frames run ≡ false → run ≡ empty_run past
    → empties ≡ cond (is_empty_data (DataFrame s last padded octets)) (min (run + 1) side.empty_frames) 0
    → empties ≡ empty_run (Came (DataFrame s last padded octets) ∷ past)
data_run past side s padded last octets empties run none e is = is ∙ cases (is_empty_data (DataFrame s last padded octets)) refl
  where
    cases : (b : Bool) → is_empty_data (DataFrame s last padded octets) ≡ b
        → cond (is_empty_data (DataFrame s last padded octets)) (min (run + 1) side.empty_frames) 0 ≡ cond (is_empty_data (DataFrame s last padded octets)) (empty_run past + 1) 0
    cases true i =
        let few : run < side.empty_frames = leb-false side.empty_frames run (not_both (is_empty_data (DataFrame s last padded octets)) (nat_le side.empty_frames run) none i) in
        rw i (omega (arith, few, e))
    cases false i = rw i refl

says_data : (past : List Happening) (s padded : ℕ) (last : Bool) (octets : List ℕ) → SaysOf s (DataFrame s last padded octets) past
says_data past s padded last octets = record {
  no_block = refl;
  closed = λ q e. refl;
  peer = λ q e. ap (λ (b : Bool). (b && last) || peer_ended q past) (apart_too q s e);
}

pub data_takes : (v w : Summary) (s padded : ℕ) (last : Bool) (octets : List ℕ) (given : Act)
    → given ≡ data_act s last padded octets (stream_at s v.streams) → Alike v w
    → w.empties ≡ cond (is_empty_data (DataFrame s last padded octets)) (min (v.empties + 1) v.side.empty_frames) 0
    → Puts s (after_data last (stream_at s v.streams)) v.streams w.streams → TakesFrom (DataFrame s last padded octets) w given v
data_takes v w s padded last octets given gives a run put past h none =
    let frame : Frame = DataFrame s last padded octets in
    let ok = no_error v.side frame past none in
    let outside = not_within frame (open_block past) refl ok.block in
    let used : is_new v.side.client_side s past ≡ false = not_new v.side.client_side s past ok.idle in
    let empties = data_run past v.side s padded last octets w.empties v.empties
    (subst (λ (n : ℕ). is_empty_data frame && nat_le v.side.empty_frames n ≡ false) (sym h.empties) ok.run) h.empties run in
    let state : after_data last (stream_at s v.streams) ≡ state_of v.side s (Came frame ∷ past) =
    ap (after_data last) (h.streams s)
    ∙ after_data_is last (is_among s (opened v.side past)) (was_closed s past) (peer_ended s past) (was_ended s past) (head_stands s past)
    ∙ ap (λ (b : Bool). state_with (is_among s (opened v.side past)) (was_closed s past) ((b && last) || peer_ended s past) (was_ended s past) (head_stands s past)) (sym (same_number s)) in
    record {
      act = gives ∙ ap (data_act s last padded octets) (h.streams s);
      stands = came_on frame past v (started w) s (after_data last (stream_at s v.streams)) h (leaves frame past v w h a outside refl empties) (says_data past s padded last octets) used put state;
    }

-- ---- RST_STREAM

says_reset : (past : List Happening) (s code : ℕ) → SaysOf s (Reset s code) past
says_reset past s code = record {
  no_block = refl;
  closed = λ q e. ap (λ (b : Bool). b || was_closed q past) (apart_too q s e);
  peer = λ q e. refl;
}

pub reset_takes : (v w : Summary) (s code : ℕ) (given : Act) → given ≡ reset_act s code (stream_at s v.streams) → Alike v w → w.empties ≡ v.empties
    → Puts s None v.streams w.streams → TakesFrom (Reset s code) w given v
reset_takes v w s code given gives a run put past h none =
    let frame : Frame = Reset s code in
    let ok = no_error v.side frame past none in
    let outside = not_within frame (open_block past) refl ok.block in
    let used : is_new v.side.client_side s past ≡ false = not_new v.side.client_side s past ok.idle in
    let state : None ≡ state_of v.side s (Came frame ∷ past) =
    closed_is (is_among s (opened v.side past)) (peer_ended s past) (was_ended s past) (head_stands s past)
    ∙ ap (λ (b : Bool). state_with (is_among s (opened v.side past)) (b || was_closed s past) (peer_ended s past) (was_ended s past) (head_stands s past)) (sym (same_number s)) in
    record {
      act = gives ∙ ap (reset_act s code) (h.streams s);
      stands = came_on frame past v (started w) s None h (leaves frame past v w h a outside refl (run ∙ h.empties)) (says_reset past s code) used put state;
    }

-- ---- frames that say nothing of streams
