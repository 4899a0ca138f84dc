use Rattle.std.proofs.Common.{ap, ◌∙◌}
use Rattle.wire_timers.specs.Due.{due_list, due_taken}
use Rattle.wire_timers.specs.Held.{find_in}
use Rattle.wire_timers.proofs.Changing.{spent, due-told, seen-taken}
use Rattle.wire_timers.proofs.timers.WireTimers.take_due.Goals as goal

pub give_back_fired-requires : goal.give_back_fired-requires
give_back_fired-requires c =
    spent c.self.inside.kinds (find_in c.self.inside.tokens) c.self.inside.timers c.self.invariant c.args.now c.as_slice.result.now (c.as_slice.ensures ∙ c.in_ok-fired.ensures.fired) c.turn.new.self c.in_ok-fired.ensures.left

pub returns-clause-due : goal.returns-clause-due
returns-clause-due c =
    c.of.ensures
    ∙ due-told c.self.inside.kinds (find_in c.self.inside.tokens) c.self.inside.timers c.self.invariant c.args.now c.in_ok-fired.fired c.in_ok-fired.ensures.fired c.turn.new.self c.in_ok-fired.ensures.left
    ∙ ap (due_list c.args.now) c.self.view_is

pub returns-clause-left : goal.returns-clause-left
returns-clause-left c =
    seen-taken c.self.inside.kinds (find_in c.self.inside.tokens) c.self.inside.timers c.self.invariant c.args.now c.in_ok-fired.fired c.in_ok-fired.ensures.fired c.turn.new.self c.in_ok-fired.ensures.left c.give_back_fired.new.timers c.give_back_fired.ensures.timers
    ∙ ap (due_taken c.args.now) c.self.view_is
