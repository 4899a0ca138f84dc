use Rattle.flow_notes.specs.declared.events.PlainEvent.TheVariants as plain
use Rattle.flow_rules.specs.declared.causes.Cause.TheVariants as cause
use Rattle.std.proofs.Common.{ap}
use Rattle.plain_core.proofs.EventBody.{cut_opened}
use Rattle.plain_core.proofs.EventOpens.{number_given, opened_given}
use Rattle.plain_core.specs.Noting.{doom_of}
use Rattle.plain_core.proofs.plain.PlainCore.cut.Goals as goal
use Rattle.plain_core.proofs.Fronts.{Opened, event_is, turn_refused}
use Rattle.plain_core.proofs.EventResults.{event_result}
use Rattle.plain_core.proofs.plain.PlainCore.cut.Goals.{After-note_turn}

-- A stream is reset: a turn note, and its doom where it was live.

opened : (c : After-note_turn) → Opened c.args.self.now c.in_ok-number.number (plain.Cut c.args.stream) (doom_of c.give_up-gives_up.result c.from-exchange.result (cause.PeerReset 8)) c.open_turn.new.self
opened c =
    event_is _ _ _ _ _ _ (ap plain.Cut c.from-exchange.ensures) (cut_opened c.args.self.now c.open_turn.new.self c.from-exchange.result c.in_ok-number.number c.give_up-gives_up.result c.give_up-gives_up.new.self.flows
    (opened_given c.args.self.now c.give_up-gives_up.new.self c.open_turn.new.self c.give_up-gives_up.ensures.rest c.in_ok-number.ensures.turn c.in_ok-number.ensures.agenda c.open_turn.ensures.rest)
    c.give_up-gives_up.ensures.flows (number_given c.args.self.now c.give_up-gives_up.new.self c.in_ok-number.number c.give_up-gives_up.ensures.rest c.in_ok-number.ensures.number))

pub returns-in_err-note_turn-clause-cut : goal.returns-in_err-note_turn-clause-cut
returns-in_err-note_turn-clause-cut c =
    turn_refused c.args.self.now c.open_turn.new.self _ _ c.in_ok-number.number (plain.Cut c.args.stream) _ c.in_err-note_turn.ensures (opened (goal.at.returns-in_err-note_turn-clause-cut c).After-note_turn)

pub returns : goal.returns
returns c =
    let r = event_result c.args.self.now c.open_turn.new.self _ _ _ c.in_ok-number.number (plain.Cut c.args.stream) _ c.note_doom.result c.in_ok-note_turn.ensures c.note_doom.ensures (opened (goal.at.returns c).After-note_turn) in
    record { ok = r.0; cut = r.1 }
