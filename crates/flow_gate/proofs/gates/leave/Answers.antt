use Rattle.flow_gate.proofs.Leaving.{left_written, not_there}
use Rattle.flow_gate.proofs.gates.leave.Goals as goal
use Rattle.std.proofs.Common.{ap, rules, sym, ◌∙◌}
use Rattle.std.specs.Option.{option_copied_mut}

pub returns-in-Some : goal.returns-in-Some
returns-in-Some c = λ f line leaves. left_written f c.args.watch line c.in-Some.gate.now c.remove.new.self c.args.buffers.now _ leaves
    c.in-Some.ensures.value (c.remove.ensures f) ((c.get_mut.follows.holds c.remove.new.self).1 (search rules))

pub returns-in_default : goal.returns-in_default
returns-in_default c = λ f line leaves. absurd (not_there f c.args.watch line c.args.buffers.now leaves
    (ap option_copied_mut (sym c.in_default.is) ∙ c.get_mut.ensures.value))
