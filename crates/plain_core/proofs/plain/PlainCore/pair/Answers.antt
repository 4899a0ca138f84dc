-- A pair is a turn note.
use Rattle.flow_notes.specs.declared.events.PlainEvent.TheVariants as plain
use Rattle.std.proofs.Common.{refl}
use Rattle.std.specs.Prelude.{[]}
use Rattle.plain_core.proofs.EventOpens.{opened_turn}
use Rattle.plain_core.proofs.EventPair.{pair_opened}
use Rattle.plain_core.proofs.Fronts.{opens_result, turn_result}
use Rattle.plain_core.proofs.plain.PlainCore.pair.Goals as goal

pub returns : goal.returns
returns c =
    let r = pair_opened c.args.self.now c.open_turn.new.self c.from.result c.from-2.result c.args.first c.args.second c.in_ok-number.number c.insert.new.self c.from.ensures c.from-2.ensures (opened_turn c.args.self.now (record c.args.self.now { pairs = c.insert.new.self }) c.open_turn.new.self refl refl refl refl c.in_ok-number.ensures.turn c.in_ok-number.ensures.agenda c.open_turn.ensures.rest) c.in_ok-insert.ensures.updates c.in_ok-number.ensures.number in
    record {
      ok = opens_result c.args.self.now c.open_turn.new.self _ _ c.in_ok-number.number (plain.Pair c.args.first c.args.second) [] c.note_turn.result c.note_turn.ensures r;
      cut = turn_result c.args.self.now c.open_turn.new.self _ _ c.in_ok-number.number (plain.Pair c.args.first c.args.second) [] c.note_turn.result c.note_turn.ensures r;
    }
