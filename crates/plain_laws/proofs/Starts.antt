-- A stream starts, above every number before it.
use Rattle.plain_laws.proofs.Leaving.{flow_kept}
use Rattle.std.proofs.lemmas.Bool.{or_parts}
use Rattle.plain_laws.specs.Words.{Past, conn_high, conn_lows, conn_out, end_out, lows_of}
use Rattle.tape_laws.specs.Doomed.{is_swept}
use Rattle.flow_rules.specs.declared.ids.BufferId.{BufferId}
use Rattle.flow_rules.specs.declared.ids.FlowId.{FlowId}
use Rattle.plain_laws.proofs.Extending.{MayAdd, one_owed, regular_more}
use Rattle.plain_laws.proofs.Flags.{send_same, write_same}
use Rattle.plain_laws.proofs.Leaving.{Leaves, once_kept, room_kept, same_len, unborn_kept}
use Rattle.plain_laws.proofs.Moves.{where_limited}
use Rattle.plain_laws.proofs.Rising.{rising_more}
use Rattle.plain_laws.proofs.Streams.{all_of, by_case, has_kept, has_last, has_more, has_not, has_one, has_was, not_both, number_is, own_or_other}
use Rattle.plain_laws.proofs.Tellings.{live_flows_kept, live_owed}
use Rattle.plain_laws.specs.Owing.{Owing, asking, due_if, owed}
use Rattle.plain_laws.specs.Regular.{AtMost, Books, FlowBooks, IsLiveFlow, Regular}
use Rattle.std.proofs.Math.Bool.{or_comm}
use Rattle.std.proofs.Common.{arith, inl, refl, subst, sym, ◌∙◌}
use Rattle.std.specs.List.{AllByRecursion}
use Rattle.std.specs.Prelude.{Bool, [], false, if◌then◌else◌, map, true, ℕ, ◌&&◌, ◌++◌, ◌+◌, ◌<◌, ◌==◌, ◌∷◌, ◌≡◌, ◌≤◌}
use Rattle.tape_laws.specs.Dispatches.{before_dispatch, has, live, started}
use Rattle.tape_laws.specs.Ends.{end_framed}
use Rattle.tape_laws.specs.Flows.{request, same_flow}
use Rattle.tape_laws.specs.History.{NoMark, Noted, Step}
use Rattle.tape_laws.specs.Pauses.{Heads, Owed}
use Rattle.tape_laws.specs.Plain.{plain_setup}
use Rattle.tape_laws.specs.Units.{WantsStart}
use Rattle.tape_laws.specs.declared.PlainLimits.{PlainLimits}
use Rattle.flow_rules.specs.declared.ids.BufferId.TheVariants as buffer
use Rattle.flow_notes.specs.declared.notes.Note.TheVariants as note

pub unstarted : (x last : ℕ) (h : Past) → AtMost last (started h) → last < x → has (started h) x ≡ false
unstarted x last h most less = by_case (has (started h) x) (λ t. absurd (above_all x last (most.most x t) less)) (λ f. f)
  where
    above_all : (a b : ℕ) → a ≤ b → b < a → ⊥
    above_all a b e f = omega arith

pub start_leaves : (limits : PlainLimits) (x y : ℕ) (h : Past) → Leaves limits y (Noted (note.Start x 0 x 0)) h
start_leaves limits x y h = record {
  recv = refl;
  send = refl;
  send_lows = refl;
  paused = refl;
  resumed = refl;
  body = refl;
  received = refl;
  framed = refl;
}

start_may : (limits : PlainLimits) (x : ℕ) (h : Past) → Books limits (asking (WantsStart x 0 x 0 ∷ [])) h → is_swept h ≡ false → has (started h) x ≡ false → MayAdd limits (note.Start x 0 x 0) h
start_may limits x h s fresh new = record {
  allowed = tt;
  paused = s.due;
  ends = tt;
  in_turn = tt;
  doomed = new;
  swept = fresh;
  answered = rw s.asks refl;
  only = subst (Heads (WantsStart x 0 x 0)) (sym s.asks) refl;
  quiet = tt;
  licensed = tt;
}

-- the pause of a stream that starts while the write buffer is above
abbrev after_start : PlainLimits → ℕ → Past → Owing
after_start limits x h = owed (due_if (conn_high limits h) (buffer.Write 0) (x ∷ []))

start_due : (x : ℕ) (a w b : Bool) → a ≡ false → w ≡ b
    → map (λ (c : BufferId). let o : Owed = record { flow = request x; buffer = c } in o)
    (if a then buffer.Send (request x) ∷ (if w then buffer.Write 0 ∷ [] else []) else (if w then buffer.Write 0 ∷ [] else [])) ++ [] ≡ due_if b (buffer.Write 0) (x ∷ [])
start_due x true w b e f = cc
start_due x false true true e f = refl
start_due x false true false e f = cc
start_due x false false true e f = cc
start_due x false false false e f = refl

-- no end was framed in an earlier dispatch of what no end was framed of yet
pub unframed_before : (limits : PlainLimits) (f : FlowId) (h : Past) → end_framed (plain_setup limits) f h ≡ false → end_framed (plain_setup limits) f (before_dispatch h) ≡ false
unframed_before limits f [] e = refl
unframed_before limits f (Noted (note.Turn k ev) ∷ h) e = e
unframed_before limits f (Noted (note.Frame c g n last) ∷ h) e = unframed_before limits f h (or_parts (same_flow g f && last) (end_framed (plain_setup limits) f h) e).1
unframed_before limits f (step ∷ h) e = unframed_before limits f h e

start_own : (limits : PlainLimits) (x : ℕ) (h : Past) → Books limits (asking (WantsStart x 0 x 0 ∷ [])) h → has (started h) x ≡ false
    → FlowBooks limits (after_start limits x h) x (Noted (note.Start x 0 x 0) ∷ h)
start_own limits x h s new =
    let step : Step NoMark = Noted (note.Start x 0 x 0) in
    let u = s.unborn x new in
    let dead : has (live h) x ≡ false = by_case (has (live h) x) (λ t. not_both (has (started h) x) (s.born x t) new) (λ f. f) in
    let lows_is : lows_of limits x (step ∷ h) ≡ lows_of limits x h = refl in
    record {
      send_low = inl (lows_is ∙ s.hushed x dead);
      recv_room = same_len _ _ limits.recv u.recv (none limits.recv);
      send_room = where_limited limits.send _ (λ p. same_len _ _ (limits.send + limits.quantum) u.send (none _));
      read = cc;
      over = λ t. not_both (end_out limits x h) t u.unframed;
      unframed = unframed_before limits (request x) h u.unframed;
    }
  where
    none : (n : ℕ) → 0 ≤ n
    none n = omega arith

start_books : (limits : PlainLimits) (x last : ℕ) (h : Past) → Books limits (asking (WantsStart x 0 x 0 ∷ [])) h → AtMost last (started h) → last < x
    → Books limits (after_start limits x h) (Noted (note.Start x 0 x 0) ∷ h)
start_books limits x last h s most less =
    let step : Step NoMark = Noted (note.Start x 0 x 0) in
    let new = unstarted x last h most less in
    let b = conn_high limits h in
    let out_same : conn_out limits (step ∷ h) ≡ conn_out limits h = refl in
    let lows_same : conn_lows limits (step ∷ h) ≡ conn_lows limits h = refl in
    record {
      due = start_due x _ _ b (send_same limits (request x) step h refl ∙ (s.unborn x new).low) (write_same limits step h out_same);
      asks = one_owed _ _ s.asks;
      opened = s.opened;
      known = s.known;
      unclosed = s.unclosed;
      write_room = room_kept limits out_same s.write_room;
      rising = rising_more (live h) x s.rising (all_of (λ y. y < x) (live h) (λ y e. under _ _ _ (most.most y (s.born y e)) less));
      born = λ y e. by_case (x == y) (λ t. rw (← number_is x y t) (has_last (started h) x))
          (λ d. has_kept (started h) x y (s.born y (has_was (live h) x y e d)));
      said = λ y. s.said y ∙ or_comm (x == y) (has (started h) y) ∙ sym (has_more (started h) x y);
      each = λ y e. own_or_other (λ z. FlowBooks limits (after_start limits x h) z (step ∷ h)) x y (start_own limits x h s new)
          (λ d. let f = s.each y (has_was (live h) x y e d) in
          flow_kept limits (asking (WantsStart x 0 x 0 ∷ [])) (after_start limits x h) y step h (start_leaves limits x y h) f refl f.unframed);
      unborn = λ y e. unborn_kept limits y step h (start_leaves limits x y h) (record { ended = refl; pairs = refl; must = refl }) (s.unborn y (has_not (started h) x y e).0);
      owed = live_owed b (buffer.Write 0) (x ∷ []) (live h ++ x ∷ [])
          (λ y e. rw (← (number_is x y (sym (has_one x y) ∙ e))) (has_last (live h) x));
      write_lows = subst (AllByRecursion (IsLiveFlow (live h ++ x ∷ []))) (sym lows_same) (live_flows_kept (live h) (live h ++ x ∷ []) _ (λ y e. has_kept (live h) x y e) s.write_lows);
      write_once = once_kept lows_same s.write_once;
      hushed = λ y e. s.hushed y (has_not (live h) x y e).0;
    }
  where
    under : (a b c : ℕ) → a ≤ b → b < c → a < c
    under a b c e f = omega arith

pub start_regular : (limits : PlainLimits) (x last : ℕ) (h : Past) → Regular limits (asking (WantsStart x 0 x 0 ∷ [])) h → is_swept h ≡ false → AtMost last (started h) → last < x
    → Regular limits (owed (due_if (conn_high limits h) (buffer.Write 0) (x ∷ []))) (Noted (note.Start x 0 x 0) ∷ h)
start_regular limits x last h r fresh most less =
    regular_more limits (asking (WantsStart x 0 x 0 ∷ [])) (after_start limits x h) (note.Start x 0 x 0) h r (start_may limits x h r.books fresh (unstarted x last h most less))
    (start_books limits x last h r.books most less)
