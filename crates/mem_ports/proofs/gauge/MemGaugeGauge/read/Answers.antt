-- What is told leaves the count of faults.
use Rattle.io_ports.specs.Faults.{FailsByFault}
use Rattle.mem_ports.proofs.gauge.MemGaugeGauge.read.Goals as goal
use Rattle.mem_ports.specs.Pressures.{GaugeMemory}
use Rattle.std.proofs.Common.{ap, subst, sym, ℕ}

pub returns-clause-cause : goal.returns-clause-cause
returns-clause-cause c =
    let same = ap (λ (g : GaugeMemory). g.faults) c.tell.ensures.rest in
    subst (λ (n : ℕ). FailsByFault c.args.self.now.faults n c.answer-answer.result) (sym same) c.answer-answer.ensures.cause
