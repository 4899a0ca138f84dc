-- The next flow that is pending on a buffer is told of its drain.
use Rattle.plain_laws.proofs.Leaving.{flow_kept}
use Rattle.plain_laws.specs.Words.{Past, Alive, conn_lows, conn_out, lows_of}
use Rattle.tape_laws.specs.Doomed.{is_swept}
use Rattle.flow_rules.specs.declared.ids.BufferId.{BufferId}
use Rattle.flow_rules.specs.declared.ids.FlowId.{FlowId}
use Rattle.plain_laws.proofs.Extending.{MayAdd, free_meets, nothing_owed, regular_more}
use Rattle.plain_laws.proofs.Leaving.{Leaves, room_kept, send_low_kept, unborn_kept}
use Rattle.plain_laws.proofs.Streams.{apart_from, own_or_other, same_number}
use Rattle.plain_laws.proofs.Tellings.{live_flows_drop}
use Rattle.plain_laws.specs.Owing.{nothing}
use Rattle.plain_laws.specs.Regular.{Books, FlowBooks, IsLiveFlow, IsRising, Regular}
use Rattle.std.proofs.Math.Nat.{zero-add}
use Rattle.std.proofs.Common.{ap, inl, refl, subst, sym, ◌∙◌}
use Rattle.std.specs.List.{AllByRecursion}
use Rattle.std.specs.Prelude.{List, [], drop, false, if◌then◌else◌, map, true, ℕ, ◌&&◌, ◌==◌, ◌∷◌, ◌≡◌}
use Rattle.tape_laws.specs.Dispatches.{live, started}
use Rattle.tape_laws.specs.Flows.{request}
use Rattle.tape_laws.specs.History.{NoMark, Noted, Step}
use Rattle.tape_laws.specs.Pauses.{Heads, is_silent, pending_lows, resumes}
use Rattle.tape_laws.specs.Plain.{plain_setup}
use Rattle.tape_laws.specs.declared.PlainLimits.{PlainLimits}
use Rattle.flow_rules.specs.declared.ids.BufferId.TheVariants as buffer
use Rattle.flow_notes.specs.declared.notes.Note.TheVariants as note

-- what a resume leaves of a stream that it isn't of
module _ (limits : PlainLimits) (x y : ℕ) (b : BufferId) (h : Past) where
  pub resume_leaves : (x == y) ≡ false
      → lows_of limits y (Noted (note.Resume (request x) b) ∷ h) ≡ lows_of limits y h
      → Leaves limits y (Noted (note.Resume (request x) b)) h
  resume_leaves e el = record {
    recv = refl;
    send = refl;
    send_lows = el;
    paused = refl;
    resumed = cc (zero-add (resumes (request y) h));
    body = refl;
    received = refl;
    framed = refl;
  }

module _ (limits : PlainLimits) (x : ℕ) (b : BufferId) (h : Past) where
  same_out : conn_out limits (Noted (note.Resume (request x) b) ∷ h) ≡ conn_out limits h
  same_out = refl

module _ (limits : PlainLimits) (x : ℕ) where
  resume_may : (b : BufferId) (h : Past) → Books limits nothing h → is_swept h ≡ false → Alive h x
      → Heads (request x) (pending_lows (plain_setup limits) b h) → is_silent b h ≡ false → MayAdd limits (note.Resume (request x) b) h
  resume_may b h s fresh is first loud = record {
    allowed = tt;
    paused = (s.due, first, loud);
    ends = tt;
    in_turn = tt;
    doomed = is;
    swept = fresh;
    answered = free_meets limits _ (note.Resume (request x) b) s.asks tt;
    only = tt;
    quiet = tt;
    licensed = tt;
  }

  -- ---- of the send buffer

  pub own_lows : (h : Past) → lows_of limits x h ≡ request x ∷ []
      → lows_of limits x (Noted (note.Resume (request x) (buffer.Send (request x))) ∷ h) ≡ []
  own_lows h e = cc (same_number x)

  pub other_lows : (y : ℕ) (h : Past) → (x == y) ≡ false
      → lows_of limits y (Noted (note.Resume (request x) (buffer.Send (request x))) ∷ h) ≡ lows_of limits y h
  other_lows y h e = ap (λ b. drop (if b && true then 1 else 0) (lows_of limits y h)) e

  send_own : (h : Past) → FlowBooks limits nothing x h → lows_of limits x h ≡ request x ∷ []
      → FlowBooks limits nothing x (Noted (note.Resume (request x) (buffer.Send (request x))) ∷ h)
  send_own h f e =
      let b = buffer.Send (request x) in
      let step : Step NoMark = Noted (note.Resume (request x) b) in
      record {
        send_low = inl (own_lows h e);
        recv_room = f.recv_room;
        send_room = f.send_room;
        read = f.read;
        over = f.over;
        unframed = f.unframed;
      }

send_books : (limits : PlainLimits) (x : ℕ) (h : Past) → Books limits nothing h → Alive h x
    → lows_of limits x h ≡ request x ∷ [] → Books limits nothing (Noted (note.Resume (request x) (buffer.Send (request x))) ∷ h)
send_books limits x h s is e =
    let b = buffer.Send (request x) in
    let step : Step NoMark = Noted (note.Resume (request x) b) in
    record {
      due = refl;
      asks = nothing_owed _ s.asks;
      opened = s.opened;
      known = s.known;
      unclosed = s.unclosed;
      write_room = room_kept limits (same_out limits x b h) s.write_room;
      rising = s.rising;
      born = s.born;
      said = s.said;
      each = λ y ey. own_or_other (λ z. FlowBooks limits nothing z (step ∷ h)) x y (send_own limits x h (s.each x is) e)
          (λ d. flow_kept limits nothing nothing y step h (resume_leaves limits x y b h d (other_lows limits x y h d)) (s.each y ey) refl (s.each y ey).unframed);
      unborn = λ y ey. let d = apart_from (started h) x y (s.born x is) ey in
          unborn_kept limits y step h (resume_leaves limits x y b h d (other_lows limits x y h d)) (record { ended = refl; pairs = refl; must = refl }) (s.unborn y ey);
      owed = tt;
      write_lows = s.write_lows;
      write_once = s.write_once;
      hushed = λ y ey. let d = apart_from (live h) x y is ey in other_lows limits x y h d ∙ s.hushed y ey;
    }

pub resume_send_regular : (limits : PlainLimits) (x : ℕ) (h : Past) → Regular limits nothing h → is_swept h ≡ false → Alive h x
    → lows_of limits x h ≡ request x ∷ []
    → Regular limits nothing (Noted (note.Resume (request x) (buffer.Send (request x))) ∷ h)
resume_send_regular limits x h r fresh is e =
    regular_more limits nothing nothing (note.Resume (request x) (buffer.Send (request x))) h r (resume_may limits x (buffer.Send (request x)) h r.books fresh is (subst (Heads (request x)) (sym e) refl) refl)
    (send_books limits x h r.books is e)

-- ---- of the write buffer

write_flow : (limits : PlainLimits) (x y : ℕ) (h : Past) → FlowBooks limits nothing y h → FlowBooks limits nothing y (Noted (note.Resume (request x) (buffer.Write 0)) ∷ h)
write_flow limits x y h f =
    let b = buffer.Write 0 in
    let step : Step NoMark = Noted (note.Resume (request x) b) in
    record {
      send_low = send_low_kept limits y step h refl refl f.send_low;
      recv_room = f.recv_room;
      send_room = f.send_room;
      read = f.read;
      over = f.over;
      unframed = f.unframed;
    }

write_books : (limits : PlainLimits) (x : ℕ) (rest : List FlowId) (h : Past) → Books limits nothing h → Alive h x
    → conn_lows limits h ≡ request x ∷ rest → Books limits nothing (Noted (note.Resume (request x) (buffer.Write 0)) ∷ h)
write_books limits x rest h s is e =
    let b = buffer.Write 0 in
    let step : Step NoMark = Noted (note.Resume (request x) b) in
    record {
      due = refl;
      asks = nothing_owed _ s.asks;
      opened = s.opened;
      known = s.known;
      unclosed = s.unclosed;
      write_room = room_kept limits (same_out limits x b h) s.write_room;
      rising = s.rising;
      born = s.born;
      said = s.said;
      each = λ y ey. write_flow limits x y h (s.each y ey);
      unborn = λ y ey. let d = apart_from (started h) x y (s.born x is) ey in
          unborn_kept limits y step h (resume_leaves limits x y b h d refl) (record { ended = refl; pairs = refl; must = refl }) (s.unborn y ey);
      owed = tt;
      write_lows = live_flows_drop 1 (live h) (conn_lows limits h) s.write_lows;
      write_once = subst (λ (fs : List FlowId). IsRising (map (λ f. f.exchange) fs) → IsRising (map (λ f. f.exchange) (drop 1 fs))) (sym e) (λ r. r.1) s.write_once;
      hushed = s.hushed;
    }

pub resume_write_regular : (limits : PlainLimits) (x : ℕ) (rest : List FlowId) (h : Past) → Regular limits nothing h → is_swept h ≡ false
    → conn_lows limits h ≡ request x ∷ rest → Regular limits nothing (Noted (note.Resume (request x) (buffer.Write 0)) ∷ h)
resume_write_regular limits x rest h r fresh e =
    let is : Alive h x = (subst (AllByRecursion (IsLiveFlow (live h))) e r.books.write_lows).0.live in
    regular_more limits nothing nothing (note.Resume (request x) (buffer.Write 0)) h r (resume_may limits x (buffer.Write 0) h r.books fresh is (subst (Heads (request x)) (sym e) refl) r.books.unclosed)
    (write_books limits x rest h r.books is e)
