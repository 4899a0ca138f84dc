-- A run's step keeps what the core stands for.
use Rattle.std.proofs.Common.{refl}
use Rattle.plain_core.proofs.Keeping.{on_ok, with_flows}
use Rattle.plain_core.proofs.StepRun.{held_keeps, idle_keeps, idle_less, move_less, move_result, settled_of, stay_keeps, stay_less, still_cuts, still_good, still_less, still_then, undrained_next}
use Rattle.plain_core.proofs.plain.PlainCore.run.Goals as goal

pub returns-then-is_above-clause-ok : goal.returns-then-is_above-clause-ok
returns-then-is_above-clause-ok c =
    held_keeps c.args.self.now (record c.args.self.now { agenda = c.pop.new.self }) c.args.notes.now c.args.flow c.is_above.result c.is_above.ensures.above c.if-is_above.true refl c.requires.top c.pop.ensures

pub step-requires : goal.step-requires
step-requires c = settled_of c.args.self.now c.args.notes.now c.requires.good

pub undrained-requires : goal.undrained-requires
undrained-requires c =
    settled_of (with_flows c.args.self.now c.step.new.self) c.args.notes.now
    (still_good c.args.self.now c.args.notes.now c.step.new.self c.args.flow.exchange c.in_ok-moved.field-0 c.in-Still.is c.in_ok-moved.ensures.steps c.requires.good)

pub returns-in_default-clause-ok : goal.returns-in_default-clause-ok
returns-in_default-clause-ok c =
    stay_keeps c.args.self.now (record c.args.self.now { flows = c.step.new.self; agenda = c.pop-in_default.new.self }) c.args.notes.now c.step.new.self c.args.flow c.in_ok-moved.field-0
    c.in-Still.is refl c.requires.top c.pop-in_default.ensures c.in_ok-moved.ensures.steps

pub returns-in_default-clause-less : goal.returns-in_default-clause-less
returns-in_default-clause-less c =
    stay_less c.args.self.now (record c.args.self.now { flows = c.step.new.self; agenda = c.pop-in_default.new.self }) c.step.new.self c.args.flow c.in_ok-moved.field-0 c.in-Still.is refl c.requires.top
    c.pop-in_default.ensures c.in_ok-moved.ensures.less

pub drain_from-requires-clause-good : goal.drain_from-requires-clause-good
drain_from-requires-clause-good c =
    still_good c.args.self.now c.args.notes.now c.step.new.self c.args.flow.exchange c.in_ok-moved.field-0 c.in-Still.is c.in_ok-moved.ensures.steps c.requires.good

pub drain_from-requires-clause-next : goal.drain_from-requires-clause-next
drain_from-requires-clause-next c = undrained_next _ c.step.new.self c.in-Some.next c.undrained.result c.in-Some.is c.undrained.ensures

pub returns-in-Still-clause-ok : goal.returns-in-Still-clause-ok
returns-in-Still-clause-ok c =
    still_then c.args.self.now c.drain_from.new.self c.args.notes.now c.drain_from.new.notes c.step.new.self c.args.flow.exchange c.in_ok-moved.field-0 c.drain_from.result c.in-Still.is c.in_ok-moved.ensures.steps
    c.drain_from.ensures.ok

pub returns-in-Still-clause-cut : goal.returns-in-Still-clause-cut
returns-in-Still-clause-cut c =
    still_cuts c.args.self.now c.args.notes.now c.drain_from.new.notes c.step.new.self c.args.flow.exchange c.in_ok-moved.field-0 c.in-Still.is c.in_ok-moved.ensures.steps c.drain_from.ensures.cut

pub returns-in-Still-clause-less : goal.returns-in-Still-clause-less
returns-in-Still-clause-less c =
    still_less c.args.self.now c.drain_from.new.self c.step.new.self c.in_ok-moved.field-0 c.drain_from.result c.in-Still.is c.in_ok-moved.ensures.less c.drain_from.ensures.less

pub returns-in-NotLive-clause-ok : goal.returns-in-NotLive-clause-ok
returns-in-NotLive-clause-ok c =
    idle_keeps c.args.self.now (record c.args.self.now { flows = c.step.new.self; agenda = c.pop-in-NotLive.new.self }) c.args.notes.now c.step.new.self c.args.flow c.in_ok-moved.field-0
    c.in-NotLive.is refl c.requires.top c.pop-in-NotLive.ensures c.in_ok-moved.ensures.steps

pub returns-in-NotLive-clause-less : goal.returns-in-NotLive-clause-less
returns-in-NotLive-clause-less c =
    idle_less c.args.self.now (record c.args.self.now { flows = c.step.new.self; agenda = c.pop-in-NotLive.new.self }) c.step.new.self c.args.flow c.in_ok-moved.field-0 c.in-NotLive.is refl c.requires.top
    c.pop-in-NotLive.ensures c.in_ok-moved.ensures.less

pub returns : goal.returns
returns c =
    let r = move_result c.args.self.now c.go_on.new.self c.args.notes.now c.note_and_rise.new.notes c.step.new.self c.args.flow c.request-flow.result c.in_ok-moved.field-0 c.in-Moved.moved c.note_and_rise.result c.request-flow.ensures c.in-Moved.is c.in_ok-go_on.ensures.rest c.requires.top c.in_ok-go_on.ensures.agenda c.in_ok-moved.ensures.steps c.requires.good c.note_and_rise.ensures in
    record {
      ok = r.0;
      cut = r.1;
      less = on_ok c.note_and_rise.result (move_less c.args.self.now c.go_on.new.self c.step.new.self c.in_ok-moved.field-0 c.in-Moved.moved c.in-Moved.is c.in_ok-go_on.ensures.rest c.in_ok-go_on.ensures.agenda c.in_ok-moved.ensures.less);
    }
