use Rattle.relay_ports.proofs.Gives.{gives_answer}
use Rattle.relay_ports.proofs.mem_taps.MemTapsWires.next.Goals as goal
use Rattle.relay_ports.specs.Memory.{TapsMemory, answer_of, gave, seen_of}
use Rattle.std.proofs.Common.{ap, arith, ◌≤◌, ◌∙◌}

pub returns-in-Ok-clause-ok : goal.returns-in-Ok-clause-ok
returns-in-Ok-clause-ok c =
    gives_answer c.args.self.now c.give.new.self c.in-Ok.wired
    (c.in-Ok.ensures.ok.0 ∙ ap (λ (m : TapsMemory). answer_of (seen_of m) m.answers) c.is_to_fail.ensures.counts)
    (c.in-Ok.ensures.ok.1 ∙ ap (λ (m : TapsMemory). gave c.in-Ok.wired m) c.is_to_fail.ensures.counts)

pub returns-then-is_to_fail-clause-no_fall : goal.returns-then-is_to_fail-clause-no_fall
returns-then-is_to_fail-clause-no_fall c =
    let same = ap (λ (m : TapsMemory). m.faults) c.is_to_fail.ensures.counts in
    omega (arith, same, c.fault.ensures.more)
