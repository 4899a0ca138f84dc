-- The end of a stream came: a turn note.
use Rattle.flow_notes.specs.declared.events.PlainEvent.TheVariants as plain
use Rattle.std.proofs.Common.{ap, false, refl, true}
use Rattle.std.specs.Prelude.{[]}
use Rattle.plain_core.proofs.EventBody.{late_finished}
use Rattle.plain_core.proofs.EventNames.{finish_goes}
use Rattle.plain_core.proofs.EventOpens.{lives_is, opened_given, opened_run}
use Rattle.plain_core.proofs.EventResults.{finish_named}
use Rattle.plain_core.proofs.Fronts.{event_is, opens_result, turn_result}
use Rattle.plain_core.proofs.plain.PlainCore.finish.Goals as goal

pub finish-requires-clause-goes_on : goal.finish-requires-clause-goes_on
finish-requires-clause-goes_on c =
    finish_goes c.args.self.now c.args.notes.now c.args.stream c.from-exchange.result c.is_live.result c.from-exchange.ensures c.if-is_live.true c.is_live.ensures c.requires

pub returns-then-is_live : goal.returns-then-is_live
returns-then-is_live c =
    let r = finish_named c.args.self.now c.begin_run.new.self c.from-exchange.result c.args.stream c.in_ok-number.number c.request.result c.finish.new.self c.from-exchange.ensures c.request.ensures (opened_run c.args.self.now c.open_turn.new.self c.begin_run.new.self _ _ _ c.request.result (opened_given c.args.self.now (record c.args.self.now { flows = c.finish.new.self }) c.open_turn.new.self refl c.in_ok-number.ensures.turn c.in_ok-number.ensures.agenda c.open_turn.ensures.rest) c.in_ok-begin_run.ensures.agenda c.begin_run.ensures.rest) (lives_is _ _ _ true c.if-is_live.true c.is_live.ensures) c.in_ok-finish.ensures c.in_ok-number.ensures.number in
    record {
      ok = opens_result c.args.self.now c.begin_run.new.self _ _ c.in_ok-number.number (plain.Finish c.args.stream) [] c.note_turn.result c.note_turn.ensures r;
      cut = turn_result c.args.self.now c.begin_run.new.self _ _ c.in_ok-number.number (plain.Finish c.args.stream) [] c.note_turn.result c.note_turn.ensures r;
    }

pub returns : goal.returns
returns c =
    let r = event_is _ _ _ _ _ _ (ap plain.Finish c.from-exchange.ensures) (late_finished c.args.self.now c.open_turn-2.new.self c.from-exchange.result c.in_ok-number-2.number (opened_given c.args.self.now c.args.self.now c.open_turn-2.new.self refl c.in_ok-number-2.ensures.turn c.in_ok-number-2.ensures.agenda c.open_turn-2.ensures.rest) (lives_is _ _ _ false c.if-is_live.false c.is_live.ensures) c.in_ok-number-2.ensures.number) in
    record {
      ok = opens_result c.args.self.now c.open_turn-2.new.self _ _ c.in_ok-number-2.number (plain.Finish c.args.stream) [] c.note_turn-2.result c.note_turn-2.ensures r;
      cut = turn_result c.args.self.now c.open_turn-2.new.self _ _ c.in_ok-number-2.number (plain.Finish c.args.stream) [] c.note_turn-2.result c.note_turn-2.ensures r;
    }
