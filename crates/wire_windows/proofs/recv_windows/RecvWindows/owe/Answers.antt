use Rattle.h2_windows.specs.RecvWindow.{AddsUp, Owes, Receiving}
use Rattle.std.proofs.Common.{ap, arith, refl, subst, sym, ◌∙◌}
use Rattle.std.proofs.lemmas.Option.{same_Some}
use Rattle.std.specs.FinMap.{get, insert}
use Rattle.std.specs.Option.{option_map_or}
use Rattle.std.specs.Prelude.{None, Option, Some, false, min, option_map, ℕ, ◌≡◌, ◌≤◌}
use Rattle.wire_windows.proofs.Due.{Marks, room_left}
use Rattle.wire_windows.proofs.Keeping.{changed_there, held_within, kept_owed, whole_at}
use Rattle.wire_windows.proofs.Maps.{get_here}
use Rattle.wire_windows.proofs.recv_windows.RecvWindows.owe.Goals as goal
use Rattle.wire_windows.specs.Kept.{windows_of}
use Rattle.wire_windows.specs.Owing.{owing_most}
use Rattle.wire_windows.specs.RecvWindows.{RecvStreams, is_due_stream, owing}
use Rattle.wire_windows.specs.declared.recv_stream.RecvStream.{RecvStream}

-- the stream that was found, of what is answered
record Owed (n : ℕ) (o : Option RecvStream) (t : RecvStream) (k : ℕ) : Type 0 where
  stream : RecvStream
  there : o ≡ Some stream
  is : t ≡ owing_most n stream
  count : k ≡ min n stream.window.held

abbrev answered : ℕ → RecvStream → RecvStream × ℕ
answered n s = (owing_most n s, min n s.window.held)

found : (n : ℕ) (o : Option RecvStream) (t : RecvStream) (k : ℕ) → ◌≡◌ {A = Option (RecvStream × ℕ)} (Some (t, k)) (option_map (answered n) o) → Owed n o t k
found n None t k e = absurd cc
found n (Some s) t k e =
    let same : ◌≡◌ {A = RecvStream × ℕ} (t, k) (answered n s) = same_Some (t, k) (answered n s) e in
    record { stream = s; there = refl; is = ap (λ (p : RecvStream × ℕ). p.0) same; count = ap (λ (p : RecvStream × ℕ). p.1) same }

adds_up : (w : Receiving) (k : ℕ) → AddsUp w → k ≤ w.held → AddsUp (owing k w)
adds_up w k adds few = omega (arith, adds, few)

pub moved-requires : goal.moved-requires
moved-requires c =
    let o = found c.args.n (get c.self.inside.streams c.args.x) c.in-Some.stream c.in-Some.n c.in-Some.ensures.answer in
    omega (arith, held_within (windows_of c.self.inside) c.self.invariant.sound c.args.x o.stream o.there, o.count)

pub mark-requires : goal.mark-requires
mark-requires c = λ there unmarked.
    let o = found c.args.n (get c.self.inside.streams c.args.x) c.in-Some.stream c.in-Some.n c.in-Some.ensures.answer in
    room_left c.self.inside.streams c.self.inside.due c.self.invariant.due c.args.x o.stream o.there c.self.invariant.ready unmarked

pub invariant_of-self-2 : goal.invariant_of-self-2
invariant_of-self-2 c =
    let o = found c.args.n (get c.self.inside.streams c.args.x) c.in-Some.stream c.in-Some.n c.in-Some.ensures.answer in
    let whole = whole_at (windows_of c.self.inside) c.self.invariant.sound c.args.x o.stream o.there in
    let k : ℕ = min c.args.n o.stream.window.held in
    kept_owed c.self.inside c.self.invariant c.args.x o.stream o.there k (owing k o.stream.window) c.moved.new.self c.owe.new.self c.mark.new.self
    (omega arith) refl (adds_up o.stream.window k whole.0 (omega arith))
    (subst (λ j. Owes c.self.inside.conn c.moved.new.self j) o.count c.moved.ensures.owes) c.moved.ensures.whole
    (c.owe.ensures.owes ∙ changed_there c.self.inside.streams c.args.x (owing_most c.args.n) o.stream o.there)
    (subst (λ b. Marks c.args.x b c.self.inside.due c.mark.new.self) (c.is_due-due.ensures ∙ ap is_due_stream o.is) (record { items = c.mark.ensures.members; len = c.mark.ensures.len }))
    c.mark.ensures.room

pub returns-clause-due : goal.returns-clause-due
returns-clause-due c =
    let o = found c.args.n (get c.self.inside.streams c.args.x) c.in-Some.stream c.in-Some.n c.in-Some.ensures.answer in
    let put : c.owe.new.self ≡ insert c.self.inside.streams c.args.x (owing_most c.args.n o.stream) = c.owe.ensures.owes ∙ changed_there c.self.inside.streams c.args.x (owing_most c.args.n) o.stream o.there in
    c.is_due-due.ensures ∙ (ap is_due_stream o.is
    ∙ sym (ap (λ (m : RecvStreams). option_map_or is_due_stream (get m c.args.x) false) put
    ∙ ap (λ (p : Option RecvStream). option_map_or is_due_stream p false) (get_here c.self.inside.streams c.args.x (owing_most c.args.n o.stream))))

pub returns-clause-sound : goal.returns-clause-sound
returns-clause-sound c = (invariant_of-self-2 c).sound
