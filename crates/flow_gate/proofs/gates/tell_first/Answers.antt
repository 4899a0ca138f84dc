use Rattle.flow_gate.proofs.Calls.{low_written, none_written}
use Rattle.flow_gate.proofs.gates.tell_first.Goals as goal
use Rattle.std.proofs.Common.{ap, rules, sym, ◌∙◌}
use Rattle.std.specs.Option.{option_copied_mut}

pub returns-in-Some : goal.returns-in-Some
returns-in-Some c = low_written c.args.buffer c.args.n c.in-Some.gate.now c.tell_first.new.self c.args.buffers.now _
    c.in-Some.ensures.value c.tell_first.ensures ((c.get_mut.follows.holds c.tell_first.new.self).1 (search rules))

pub returns-in_default : goal.returns-in_default
returns-in_default c = none_written c.args.buffer c.args.n c.args.buffers.now _ c.get_mut.follows.holds-at-none
    (ap option_copied_mut (sym c.in_default.is) ∙ c.get_mut.ensures.value)
