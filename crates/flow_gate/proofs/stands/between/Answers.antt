use Rattle.flow_gate.proofs.stands.between.Goals as goal
use Rattle.std.proofs.Common.{ap, ◌∙◌}
use Rattle.std.proofs.lemmas.List.{take_rest}
use Rattle.std.specs.Prelude.{take}

pub returns : goal.returns
returns c = ap (take c.span-begin.result.1) (take_rest c.args.stands.now c.span-begin.result.0) ∙ c.span-begin.ensures.part
