use Rattle.flow_notes.specs.declared.events.PlainEvent.TheVariants as plain
use Rattle.flow_notes.specs.declared.notes.Note.TheVariants as note
use Rattle.std.proofs.Common.{arith, refl}
use Rattle.std.specs.Prelude.{[], ◌∷◌}
use Rattle.plain_core.proofs.EventOpens.{opened_given}
use Rattle.plain_core.proofs.EventResults.{event_result, opened_telling}
use Rattle.plain_core.proofs.EventRoom.{none_opened, room_opened}
use Rattle.plain_core.proofs.plain.PlainCore.room.Goals as goal
use Rattle.plain_core.proofs.Fronts.{Opened, opens_result, push_appends, turn_refused, turn_result}
use Rattle.plain_core.proofs.plain.PlainCore.room.Goals.{After-note_turn-2}

-- Octets leave: a turn note, and their note.

pub returns-then-left-eq0 : goal.returns-then-left-eq0
returns-then-left-eq0 c =
    let r = none_opened c.args.self.now c.open_turn.new.self c.args.n c.in_ok-number.number (opened_given c.args.self.now c.args.self.now c.open_turn.new.self refl c.in_ok-number.ensures.turn c.in_ok-number.ensures.agenda c.open_turn.ensures.rest) (omega arith) c.in_ok-number.ensures.number in
    record {
      ok = opens_result c.args.self.now c.open_turn.new.self _ _ c.in_ok-number.number (plain.Room c.args.n) [] c.note_turn.result c.note_turn.ensures r;
      cut = turn_result c.args.self.now c.open_turn.new.self _ _ c.in_ok-number.number (plain.Room c.args.n) [] c.note_turn.result c.note_turn.ensures r;
    }

opened : (c : After-note_turn-2) → Opened c.args.self.now c.in_ok-number-2.number (plain.Room c.args.n) (note.Out 0 c.min-left.result ∷ []) c.begin_telling.new.self
opened c =
    room_opened c.args.self.now c.begin_telling.new.self c.args.n c.min-left.result c.in_ok-number-2.number c.leave-drained.result c.leave-drained.new.self
    (opened_telling c.args.self.now c.open_turn-2.new.self c.begin_telling.new.self _ _ _ c.leave-drained.result
    (opened_given c.args.self.now (record c.args.self.now { flows = c.leave-drained.new.self }) c.open_turn-2.new.self refl c.in_ok-number-2.ensures.turn c.in_ok-number-2.ensures.agenda c.open_turn-2.ensures.rest)
    c.in_ok-begin_telling.ensures.agenda c.begin_telling.ensures.rest)
    c.leave-drained.ensures (omega arith) (omega arith) c.in_ok-number-2.ensures.number

pub returns-in_err-note_turn-clause-cut : goal.returns-in_err-note_turn-clause-cut
returns-in_err-note_turn-clause-cut c =
    turn_refused c.args.self.now c.begin_telling.new.self _ _ c.in_ok-number-2.number (plain.Room c.args.n) _ c.in_err-note_turn.ensures (opened (goal.at.returns-in_err-note_turn-clause-cut c).After-note_turn-2)

pub returns : goal.returns
returns c =
    let r = event_result c.args.self.now c.begin_telling.new.self _ _ _ c.in_ok-number-2.number (plain.Room c.args.n) _ c.push.result c.in_ok-note_turn.ensures (push_appends _ _ _ c.push.result c.push.ensures.ok c.push.ensures.err)
    (opened (goal.at.returns c).After-note_turn-2) in
    record { ok = r.0; cut = r.1 }
