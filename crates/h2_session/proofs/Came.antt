-- Frames that end no header block.
use Rattle.std.proofs.Common.{◌≡◌, ℕ, Bool, true, false, cond, eqb, List, ◌∷◌, Option, None, refl, sym, ap, ◌∙◌}
use Rattle.std.specs.Prelude.{IfSome, nat_lt, not, ◌%◌, ◌&&◌}
use Rattle.std.proofs.lemmas.Bool.{eqb-true}
use Rattle.h2_frames.specs.Frame.{Frame}
use Rattle.h2_session.specs.Blocks.{ended_block, greatest, open_block}
use Rattle.h2_session.specs.Errors.{empty_run}
use Rattle.h2_session.specs.Happened.{Came, Happening, Side, was_opened}
use Rattle.h2_session.specs.Streams.{head_stands, is_new, opened, peer_ended, state_of, was_closed}
use Rattle.h2_session.specs.Summary.{StandsFor, Summary}
use Rattle.h2_session.specs.Table.{Puts, stream_at}
use Rattle.h2_session.specs.declared.streams.Stream.{Stream}
use Rattle.h2_session.proofs.Standing.{Keeps, stands_moved}
use Rattle.h2_session.proofs.States.{MovesOne}

-- a table that stays as it is
pub puts_same : (s : ℕ) (table : List (ℕ × Stream)) → Puts s (stream_at s table) table table
puts_same s table = record { at = λ q. at q (eqb q s) refl; len = refl }
  where
    at : (q : ℕ) (b : Bool) → eqb q s ≡ b → stream_at q table ≡ cond (eqb q s) (stream_at s table) (stream_at q table)
    at q true e = rw e (ap (λ (n : ℕ). stream_at n table) (eqb-true q s e))
    at q false e = rw e refl

-- the streams of which a frame says something are at most this one, and it isn't new
pub record SaysOf (s : ℕ) (frame : Frame) (past : List Happening) : Type 0 where
  pub no_block : ended_block frame past ≡ None
  pub closed : (q : ℕ) → eqb q s ≡ false → was_closed q (Came frame ∷ past) ≡ was_closed q past
  pub peer : (q : ℕ) → eqb q s ≡ false → peer_ended q (Came frame ∷ past) ≡ peer_ended q past

same_greatest : (frame : Frame) (past : List Happening) → ended_block frame past ≡ None → greatest (Came frame ∷ past) ≡ greatest past
same_greatest frame past e = rw e refl

same_new : (c : Bool) (q : ℕ) (frame : Frame) (past : List Happening) → ended_block frame past ≡ None → is_new c q (Came frame ∷ past) ≡ is_new c q past
same_new c q frame past e = ap (λ (n : ℕ). cond c (not (was_opened q past)) (nat_lt n q)) (same_greatest frame past e)

same_head : (q : ℕ) (frame : Frame) (past : List Happening) → ended_block frame past ≡ None → head_stands q (Came frame ∷ past) ≡ head_stands q past
same_head q frame past e = rw e refl

same_opened : (side : Side) (frame : Frame) (past : List Happening) → ended_block frame past ≡ None → opened side (Came frame ∷ past) ≡ opened side past
same_opened side frame past e = rw e refl

moves_one : (side : Side) (s : ℕ) (frame : Frame) (past : List Happening) → SaysOf s frame past → MovesOne side s (Came frame) past
moves_one side s frame past o = record {
  opened_as = same_opened side frame past o.no_block;
  of = record { closed = o.closed; peer = o.peer; ended = λ q e. refl; head = λ q e. same_head q frame past o.no_block };
}

pub differs : (c : Bool) (q s : ℕ) (past : List Happening) → is_new c q past ≡ true → is_new c s past ≡ false → eqb q s ≡ false
differs c q s past new old = cases (eqb q s) refl
  where
    no : (b : Bool) → b ≡ true → b ≡ false → ⊥
    no b e f = cc

    cases : (b : Bool) → eqb q s ≡ b → b ≡ false
    cases true e = absurd (no (is_new c q past) new (ap (λ (n : ℕ). is_new c n past) (eqb-true q s e) ∙ old))
    cases false e = refl

-- what a frame leaves beside the streams
pub record Leaves (frame : Frame) (past : List Happening) (v w : Summary) : Type 0 where
  pub side : w.side ≡ v.side
  pub failed : w.failed ≡ v.failed
  pub started : w.started ≡ true
  pub block : w.block ≡ open_block (Came frame ∷ past)
  pub greatest_as : w.greatest ≡ v.greatest
  pub next : w.next ≡ v.next
  pub empties : w.empties ≡ empty_run (Came frame ∷ past)
  pub within : v.side.client_side ≡ true → IfSome (open_block (Came frame ∷ past)) (λ b. was_opened b.stream past ≡ true)

keeps : (frame : Frame) (past : List Happening) (v w : Summary) (s : ℕ) → StandsFor past v → Leaves frame past v w → SaysOf s frame past
    → ((q : ℕ) → is_new v.side.client_side q past ≡ true → eqb q s ≡ false) → Keeps v.side (Came frame) past w
keeps frame past v w s h l o apart = record {
  failed = l.failed ∙ h.failed;
  started = l.started;
  block = l.block;
  greatest_as = l.greatest_as ∙ h.greatest ∙ sym (same_greatest frame past o.no_block);
  next = l.next ∙ h.next;
  numbered = λ q. h.numbered q ∙ ap (λ (n : ℕ). nat_lt q n && (eqb (q % 2) 1)) (sym l.next);
  empties = l.empties;
  new = λ q e. sym (same_new v.side.client_side q frame past o.no_block) ∙ e;
  untouched = λ q e.
      let new = sym (same_new v.side.client_side q frame past o.no_block) ∙ e in
      let before = h.untouched q new in
      record {
        peer = o.peer q (apart q new) ∙ before.peer;
        ended = before.ended;
        closed = o.closed q (apart q new) ∙ before.closed;
        head = same_head q frame past o.no_block ∙ before.head;
      };
  within = l.within;
}

-- a frame that says something of one stream that isn't new
pub came_on : (frame : Frame) (past : List Happening) (v w : Summary) (s : ℕ) (target : Option Stream)
    → StandsFor past v → Leaves frame past v w → SaysOf s frame past → is_new v.side.client_side s past ≡ false
    → Puts s target v.streams w.streams → target ≡ state_of v.side s (Came frame ∷ past) → StandsFor (Came frame ∷ past) w
came_on frame past v w s target h l o old put is =
    stands_moved (Came frame) past v w s target h l.side (keeps frame past v w s h l o (λ q new. differs v.side.client_side q s past new old)) (moves_one v.side s frame past o) put is

-- a frame that says nothing of any stream
pub record IsQuiet (frame : Frame) (past : List Happening) : Type 0 where
  pub no_block : ended_block frame past ≡ None
  pub closed : (q : ℕ) → was_closed q (Came frame ∷ past) ≡ was_closed q past
  pub peer : (q : ℕ) → peer_ended q (Came frame ∷ past) ≡ peer_ended q past
