-- The effect of each event, from rest to a settled history.
use Rattle.flow_notes.specs.declared.events.PlainEvent.{PlainEvent}
use Rattle.plain_laws.proofs.Arrivals.{arrive_regular}
use Rattle.plain_laws.proofs.Dooms.{doom_cut, doom_over}
use Rattle.plain_laws.proofs.Flags.{write_same}
use Rattle.plain_laws.proofs.Followings.{begin_most, body_flowing, finish_flowing, pair_may}
use Rattle.plain_laws.proofs.Outs.{out_regular}
use Rattle.plain_laws.proofs.Quiets.{rests_told}
use Rattle.plain_laws.proofs.Starts.{start_regular}
use Rattle.plain_laws.proofs.Steps.{one_pause, pauses_settled, rests_settled}
use Rattle.plain_laws.proofs.Turns.{turn_begin, turn_body, turn_body_late, turn_body_over, turn_cut, turn_cut_late, turn_finish, turn_pair, turn_room, turn_room_none}
use Rattle.plain_laws.specs.Owing.{due_if, nothing, owed}
use Rattle.plain_laws.specs.Regular.{Regular, Rests}
use Rattle.plain_laws.specs.Settled.{Settled}
use Rattle.plain_laws.specs.StepNotes.{cut_notes, over_notes, room_notes}
use Rattle.std.proofs.Common.{arith, refl, subst, ◌∙◌}
use Rattle.std.proofs.lemmas.List.{append-nil}
use Rattle.std.specs.Prelude.{Bool, List, [], false, length, min, true, ℕ, ◌+◌, ◌-◌, ◌<◌, ◌∷◌, ◌≡◌, ◌≤◌}
use Rattle.plain_laws.specs.Words.{Past, Alive, conn_high, conn_out, lows_of, past_begin, past_body, recv_at, turn_of}
use Rattle.tape_laws.specs.Dispatches.{events_back, has, live, turns}
use Rattle.tape_laws.specs.Following.{may_follow}
use Rattle.tape_laws.specs.History.{NoMark, Noted, Step, onto}
use Rattle.tape_laws.specs.declared.PlainLimits.{PlainLimits}
use Rattle.flow_rules.specs.declared.ids.BufferId.TheVariants as buffer
use Rattle.flow_notes.specs.declared.events.PlainEvent.TheVariants as plain
use Rattle.flow_notes.specs.declared.notes.Note.TheVariants as note

turn_untold : (limits : PlainLimits) (k x : ℕ) (e : PlainEvent) (h : Past) → Settled limits h
    → lows_of limits x (turn_of k e ∷ h) ≡ []
turn_untold limits k x e h s = s.untold x

-- a turn note alone
module _ (limits : PlainLimits) (k : ℕ) where
  turn_settled : (e : PlainEvent) (h : Past) → Rests limits h → Regular limits nothing (turn_of k e ∷ h)
      → Settled limits (turn_of k e ∷ h)
  turn_settled e h r n = record { regular = n; untold = λ x. turn_untold limits k x e h (rests_settled limits h r) }

  -- the rule of the order of events for each event
  pub begin_step : (x : ℕ) (h : Past) → Rests limits h → k ≡ turns h + 1 → 0 < x → may_follow (events_back h) (plain.Begin x) ≡ true
      → Settled limits (past_begin limits k x h)
  begin_step x h r ek some m =
      let turn : Step NoMark = turn_of k (plain.Begin x) in
      let start : Step NoMark = Noted (note.Start x 0 x 0) in
      let high = conn_high limits h in
      let same : conn_high limits (turn ∷ h) ≡ high = write_same limits turn h refl in
      let most = begin_most limits x h r.regular m in
      let s = start_regular limits x (x - 1) (turn ∷ h) (turn_begin limits k x h r ek) refl most (less x some) in
      rw (one_pause (buffer.Write 0) x high high refl) (pauses_settled limits _ (start ∷ turn ∷ h) (subst (λ (b : Bool). Regular limits (owed (due_if b (buffer.Write 0) (x ∷ []))) (start ∷ turn ∷ h)) same s) refl
      (λ y. turn_untold limits k y (plain.Begin x) h (rests_settled limits h r)))
    where
      less : (a : ℕ) → 0 < a → a - 1 < a
      less a e = omega arith

  pub pair_step : (x y : ℕ) (h : Past) → Rests limits h → k ≡ turns h + 1 → may_follow (events_back h) (plain.Pair x y) ≡ true
      → Settled limits (turn_of k (plain.Pair x y) ∷ h)
  pair_step x y h r ek m = turn_settled (plain.Pair x y) h r (turn_pair limits k x y h r ek (pair_may limits x y h r.regular m).second)

  pub finish_step : (x : ℕ) (h : Past) → Rests limits h → k ≡ turns h + 1 → may_follow (events_back h) (plain.Finish x) ≡ true
      → Settled limits (turn_of k (plain.Finish x) ∷ h)
  finish_step x h r ek m = turn_settled (plain.Finish x) h r (turn_finish limits k x h r ek (finish_flowing limits x h r.regular m).was)

-- octets that fit arrive
module _ (limits : PlainLimits) (k x : ℕ) (octets : List ℕ) (h : Past) where
  pub body_step : Rests limits h → k ≡ turns h + 1 → Alive h x → 0 < length octets
      → length (recv_at limits x h) + length octets ≤ limits.recv → Settled limits (past_body k x octets h)
  body_step r ek is some room =
      let turn : Step NoMark = turn_of k (plain.Body x octets) in
      record {
        regular = arrive_regular limits x octets (turn ∷ h) (turn_body limits k x octets h r ek is room) refl is some room;
        untold = λ y. turn_untold limits k y (plain.Body x octets) h (rests_settled limits h r);
      }

  pub over_step : Rests limits h → k ≡ turns h + 1 → Alive h x
      → limits.recv < length (recv_at limits x h) + length octets → Settled limits (onto (over_notes k x octets) h)
  over_step r ek is over = record {
    regular = doom_over limits k x octets h (turn_body_over limits k x octets h r ek is over) is;
    untold = λ y. cc (turn_untold limits k y (plain.Body x octets) h (rests_settled limits h r));
  }

  -- octets of a stream that isn't live any more
  pub body_late_step : Rests limits h → k ≡ turns h + 1 → may_follow (events_back h) (plain.Body x octets) ≡ true
      → has (live h) x ≡ false → Settled limits (turn_of k (plain.Body x octets) ∷ h)
  body_late_step r ek m is =
      turn_settled limits k (plain.Body x octets) h r (turn_body_late limits k x octets h r ek (body_flowing limits x octets h r.regular m).was is)

module _ (limits : PlainLimits) (k : ℕ) where
  pub cut_step : (x : ℕ) (h : Past) → Rests limits h → k ≡ turns h + 1 → Alive h x → Settled limits (onto (cut_notes k x) h)
  cut_step x h r ek is = record {
    regular = doom_cut limits k x h (turn_cut limits k x h r ek is) is;
    untold = λ y. cc (turn_untold limits k y (plain.Cut x) h (rests_settled limits h r));
  }

  pub cut_late_step : (x : ℕ) (h : Past) → Rests limits h → k ≡ turns h + 1 → has (live h) x ≡ false
      → Settled limits (turn_of k (plain.Cut x) ∷ h)
  cut_late_step x h r ek is = turn_settled limits k (plain.Cut x) h r (turn_cut_late limits k x h r ek is)

  pub room_step : (n m : ℕ) (h : Past) → Rests limits h → k ≡ turns h + 1 → m ≡ min n (length (conn_out limits h)) → 0 < m
      → Settled limits (onto (room_notes k n m) h)
  room_step n m h r ek em some =
      let turn : Step NoMark = turn_of k (plain.Room n) in
      record {
        regular = out_regular limits m (turn ∷ h) (turn_room limits k n m h r ek em some) refl (rests_told limits h r);
        untold = λ y. append-nil (lows_of limits y (turn ∷ h)) ∙ turn_untold limits k y (plain.Room n) h (rests_settled limits h r);
      }

  pub room_none_step : (n : ℕ) (h : Past) → Rests limits h → k ≡ turns h + 1 → min n (length (conn_out limits h)) ≡ 0
      → Settled limits (turn_of k (plain.Room n) ∷ h)
  room_none_step n h r ek none = turn_settled limits k (plain.Room n) h r (turn_room_none limits k n h r ek none)
