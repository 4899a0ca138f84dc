-- Resource after resource is read.
use Rattle.std.proofs.Common.{arith, refl}
use Rattle.worker_parts.proofs.Reading.{all_read, none_yet, one_failed, one_read}
use Rattle.worker_parts.proofs.sampling.read_into.Goals as goal

pub loop-resource-init : goal.loop-resource-init
loop-resource-init g c = none_yet (g.G.Gauge.told c.args.gauge.now) c.args.pressures.now (g.G.Gauge.faults c.args.gauge.now)

pub returns-clause-sampled : goal.returns-clause-sampled
returns-clause-sampled g c = all_read c.loop-resource.invariant (omega arith)

pub returns-clause-cause : goal.returns-clause-cause
returns-clause-cause g c = c.loop-resource.invariant.cause

pub loop-resource-preserved-in-Err : goal.loop-resource-preserved-in-Err
loop-resource-preserved-in-Err g c = one_failed (g.G.Gauge.faults c.read.new.self) _ (g.G.Gauge.told c.read.new.self) c.loop-resource.invariant c.in-Err.ensures.tells (c.in-Err.ensures.cause.cause refl) c.read.ensures.cause.no_fall

pub loop-resource-preserved : goal.loop-resource-preserved
loop-resource-preserved g c =
    one_read (g.G.Gauge.faults c.read.new.self) c.in-Ok.pressure (g.G.Gauge.told c.read.new.self) c.loop-resource.invariant c.in-Ok.ensures.tells c.in-Ok.ensures.most c.read.ensures.cause.no_fall (omega arith)
