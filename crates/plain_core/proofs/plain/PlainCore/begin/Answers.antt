use Rattle.flow_notes.specs.declared.events.PlainEvent.TheVariants as plain
use Rattle.std.proofs.Common.{refl}
use Rattle.plain_core.proofs.EventBegin.{begin_opened, begin_rises}
use Rattle.plain_core.proofs.EventOpens.{opened_turn}
use Rattle.plain_core.specs.Noting.{begin_notes}
use Rattle.plain_core.proofs.plain.PlainCore.begin.Goals as goal
use Rattle.plain_core.proofs.Fronts.{Opened, turn_refused}
use Rattle.plain_core.proofs.EventResults.{event_result}
use Rattle.plain_core.proofs.plain.PlainCore.begin.Goals.{After-note_turn}

-- A stream begins: a turn note, a start note, and a pause where it is held back.

pub begin-requires-clause-rises : goal.begin-requires-clause-rises
begin-requires-clause-rises c = begin_rises c.requires.limits c.args.self.now c.args.stream _ c.requires.rests c.requires.follows.0

opened : (c : After-note_turn) → Opened c.args.self.now c.in_ok-number.number (plain.Begin c.args.stream) (begin_notes c.args.stream c.in_ok-held.held) c.open_turn.new.self
opened c =
    begin_opened c.args.self.now c.open_turn.new.self c.args.stream c.in_ok-number.number c.in_ok-held.held c.begin.new.self
    (opened_turn c.args.self.now (record c.args.self.now { flows = c.begin.new.self }) c.open_turn.new.self refl refl refl refl c.in_ok-number.ensures.turn c.in_ok-number.ensures.agenda c.open_turn.ensures.rest)
    c.in_ok-held.ensures c.in_ok-number.ensures.number

pub returns-in_err-note_turn-clause-cut : goal.returns-in_err-note_turn-clause-cut
returns-in_err-note_turn-clause-cut c =
    turn_refused c.args.self.now c.open_turn.new.self _ _ c.in_ok-number.number (plain.Begin c.args.stream) _ c.in_err-note_turn.ensures (opened (goal.at.returns-in_err-note_turn-clause-cut c).After-note_turn)

pub returns : goal.returns
returns c =
    let r = event_result c.args.self.now c.open_turn.new.self _ _ _ c.in_ok-number.number (plain.Begin c.args.stream) _ c.note_begin.result c.in_ok-note_turn.ensures c.note_begin.ensures (opened (goal.at.returns c).After-note_turn) in
    record { ok = r.0; cut = r.1 }
