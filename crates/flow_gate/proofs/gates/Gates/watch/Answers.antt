use Rattle.flow_gate.proofs.Calls.{on_err}
use Rattle.flow_gate.proofs.CallsEnds.{watch_begun, watch_failed}
use Rattle.flow_gate.proofs.Reading.{known_found, marked_found, open_found}
use Rattle.flow_gate.proofs.gates.Gates.watch.Goals as goal
use Rattle.flow_gate.proofs.gates.Gates.watch.Goals.{After-self-3-1}
use Rattle.flow_gate.specs.Changes.{Watches}
use Rattle.flow_gate.specs.Parts.{AreGates, board_of}
use Rattle.std.proofs.Common.{ap, refl, rules, sym, ◌∙◌}
use Rattle.std.proofs.lemmas.Bool.{false≢true}
use Rattle.std.specs.Option.{is_some, option_copied_mut}
use Rattle.std.specs.Prelude.{Some, [], ◌++◌, ◌∷◌}

pub unreachable-requires : goal.unreachable-requires
unreachable-requires c = false≢true
    (open_found c.self.inside.flows c.self.inside.buffers c.args.flow _ (ap is_some (ap option_copied_mut (sym c.in_default.is) ∙ c.get_mut.ensures.value)) ∙ (rw (← c.self.view_is) at c.requires.open))

pub unreachable-requires-in_default-get_mut : goal.unreachable-requires-in_default-get_mut
unreachable-requires-in_default-get_mut c = false≢true
    (known_found c.self.inside.flows c.self.inside.buffers c.args.buffer _ (ap is_some (ap option_copied_mut (sym c.in_default-get_mut.is) ∙ c.get_mut-2.ensures.value)) ∙ (rw (← c.self.view_is) at c.requires.known))

-- no room in the flow's list
pub invariant_of-self : goal.invariant_of-self
invariant_of-self c = (watch_failed c.args.flow c.args.buffer c.in-Some.watcher.now c.make_room.new.self c.in-Some-get_mut.gate.now c.in-Some-get_mut.gate.now c.self.inside.flows _ c.self.inside.buffers _
    c.in-Some.ensures.value c.make_room.ensures.watches
    (c.get_mut.follows.holds c.make_room.new.self).0 ((c.get_mut.follows.holds c.make_room.new.self).1 (search rules))
    c.in-Some-get_mut.ensures.value refl (c.get_mut-2.follows.holds c.in-Some-get_mut.gate.now).0 ((c.get_mut-2.follows.holds c.in-Some-get_mut.gate.now).1 (search rules))
    c.self.invariant).1

pub returns-in_err-make_room-clause-err : goal.returns-in_err-make_room-clause-err
returns-in_err-make_room-clause-err c = on_err c.from_residual.result _ (rw (← c.self.view_is) (watch_failed c.args.flow c.args.buffer c.in-Some.watcher.now c.make_room.new.self c.in-Some-get_mut.gate.now c.in-Some-get_mut.gate.now c.self.inside.flows _ c.self.inside.buffers _
    c.in-Some.ensures.value c.make_room.ensures.watches
    (c.get_mut.follows.holds c.make_room.new.self).0 ((c.get_mut.follows.holds c.make_room.new.self).1 (search rules))
    c.in-Some-get_mut.ensures.value refl (c.get_mut-2.follows.holds c.in-Some-get_mut.gate.now).0 ((c.get_mut-2.follows.holds c.in-Some-get_mut.gate.now).1 (search rules))
    c.self.invariant).0)

pub returns-in_err-make_room-clause-sound : goal.returns-in_err-make_room-clause-sound
returns-in_err-make_room-clause-sound c = (watch_failed c.args.flow c.args.buffer c.in-Some.watcher.now c.make_room.new.self c.in-Some-get_mut.gate.now c.in-Some-get_mut.gate.now c.self.inside.flows _ c.self.inside.buffers _
    c.in-Some.ensures.value c.make_room.ensures.watches
    (c.get_mut.follows.holds c.make_room.new.self).0 ((c.get_mut.follows.holds c.make_room.new.self).1 (search rules))
    c.in-Some-get_mut.ensures.value refl (c.get_mut-2.follows.holds c.in-Some-get_mut.gate.now).0 ((c.get_mut-2.follows.holds c.in-Some-get_mut.gate.now).1 (search rules))
    c.self.invariant).1.sound

-- no room in the buffer's line
pub invariant_of-self-in_err-place : goal.invariant_of-self-in_err-place
invariant_of-self-in_err-place c = (watch_failed c.args.flow c.args.buffer c.in-Some.watcher.now c.make_room.new.self c.in-Some-get_mut.gate.now c.add.new.self c.self.inside.flows _ c.self.inside.buffers _
    c.in-Some.ensures.value c.make_room.ensures.watches
    (c.get_mut.follows.holds c.make_room.new.self).0 ((c.get_mut.follows.holds c.make_room.new.self).1 (search rules))
    c.in-Some-get_mut.ensures.value c.in_err-place.ensures.err (c.get_mut-2.follows.holds c.add.new.self).0 ((c.get_mut-2.follows.holds c.add.new.self).1 (search rules))
    c.self.invariant).1

pub returns-in_err-place-clause-err : goal.returns-in_err-place-clause-err
returns-in_err-place-clause-err c = on_err c.from_residual-in_err-place.result _ (rw (← c.self.view_is) (watch_failed c.args.flow c.args.buffer c.in-Some.watcher.now c.make_room.new.self c.in-Some-get_mut.gate.now c.add.new.self c.self.inside.flows _ c.self.inside.buffers _
    c.in-Some.ensures.value c.make_room.ensures.watches
    (c.get_mut.follows.holds c.make_room.new.self).0 ((c.get_mut.follows.holds c.make_room.new.self).1 (search rules))
    c.in-Some-get_mut.ensures.value c.in_err-place.ensures.err (c.get_mut-2.follows.holds c.add.new.self).0 ((c.get_mut-2.follows.holds c.add.new.self).1 (search rules))
    c.self.invariant).0)

pub returns-in_err-place-clause-sound : goal.returns-in_err-place-clause-sound
returns-in_err-place-clause-sound c = (watch_failed c.args.flow c.args.buffer c.in-Some.watcher.now c.make_room.new.self c.in-Some-get_mut.gate.now c.add.new.self c.self.inside.flows _ c.self.inside.buffers _
    c.in-Some.ensures.value c.make_room.ensures.watches
    (c.get_mut.follows.holds c.make_room.new.self).0 ((c.get_mut.follows.holds c.make_room.new.self).1 (search rules))
    c.in-Some-get_mut.ensures.value c.in_err-place.ensures.err (c.get_mut-2.follows.holds c.add.new.self).0 ((c.get_mut-2.follows.holds c.add.new.self).1 (search rules))
    c.self.invariant).1.sound

-- the flow watches the buffer
done : (c : After-self-3-1) →
    Watches c.args.flow c.args.buffer (board_of c.self.inside.flows c.self.inside.buffers) (board_of (c.get_mut.follows.lender c.add-2.new.self) (c.get_mut-2.follows.lender c.add.new.self))
    × AreGates (c.get_mut.follows.lender c.add-2.new.self) (c.get_mut-2.follows.lender c.add.new.self)
done c = watch_begun c.args.flow c.args.buffer c.in_ok-place.place c.in-Some.watcher.now c.add-2.new.self c.in-Some-get_mut.gate.now c.add.new.self c.self.inside.flows _ c.self.inside.buffers _
    c.in-Some.ensures.value c.in-Some-get_mut.ensures.value c.in_ok-place.ensures.new_place (rw (← c.make_room.ensures.watches) c.in_ok-make_room.ensures.most)
    (c.add-2.ensures ∙ ap (λ ws. ws ++ (record { buffer = c.args.buffer; place = c.in_ok-place.place }) ∷ []) c.make_room.ensures.watches)
    ((c.get_mut.follows.holds c.add-2.new.self).1 (search rules)) c.in_ok-place.ensures.last ((c.get_mut-2.follows.holds c.add.new.self).1 (search rules))
    (rw (← c.self.view_is) at c.requires.apart) c.self.invariant

pub invariant_of-self-2 : goal.invariant_of-self-2
invariant_of-self-2 c = (done c).1

pub returns-clause-answer : goal.returns-clause-answer
returns-clause-answer c = rw (← c.self.view_is) (c.is_above.ensures ∙ ap (λ l. l.above) c.in_ok-place.ensures.last ∙ marked_found c.self.inside.flows c.self.inside.buffers c.args.buffer (Some c.in-Some-get_mut.gate.now) c.in-Some-get_mut.ensures.value)

pub returns-clause-ok : goal.returns-clause-ok
returns-clause-ok c = rw (← c.self.view_is) (done c).0

pub returns-clause-sound : goal.returns-clause-sound
returns-clause-sound c = (done c).1.sound
