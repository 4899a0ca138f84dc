use Rattle.worker_parts.proofs.Reading.{SoFar}
use Rattle.worker_parts.proofs.sampling.read_into.Given as goal

abbrev pub invariant-loop-resource : goal.invariant-loop-resource
invariant-loop-resource g l = SoFar (g.G.Gauge.told l.initial.gauge) (g.G.Gauge.told l.gauge) l.initial.pressures l.pressures l.resource l.failed (g.G.Gauge.faults l.initial.gauge) (g.G.Gauge.faults l.gauge)
