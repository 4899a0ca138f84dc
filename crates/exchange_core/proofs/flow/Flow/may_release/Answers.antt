use Rattle.std.proofs.Common.{◌∙◌, arith, sym}
use Rattle.exchange_core.proofs.Ruled.{stage_releases}
use Rattle.exchange_core.proofs.flow.Flow.may_release.Goals as goal
use Rattle.exchange_core.specs.Kept.{flow_of}

pub returns-then-place-gt0-clause-released : goal.returns-then-place-gt0-clause-released
returns-then-place-gt0-clause-released c = rw (← c.self.view_is) (c.may_release.ensures.released ∙ sym (stage_releases (flow_of c.self.inside) c.self.invariant.sound c.args.gates.now c.args.place (omega arith)))
