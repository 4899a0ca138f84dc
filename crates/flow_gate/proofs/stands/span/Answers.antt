use Rattle.flow_gate.proofs.Rising.{Rises, Rises-drop, part_between}
use Rattle.flow_gate.proofs.stands.span.Goals as goal
use Rattle.flow_gate.specs.Line.{IsBefore}
use Rattle.std.proofs.Common.{arith, subst, sym}
use Rattle.std.proofs.lemmas.List.{length-drop, take_rest}

pub count_before-requires : goal.count_before-requires
count_before-requires c = subst Rises (sym (take_rest c.args.stands.now c.count_before-begin.result)) (Rises-drop c.count_before-begin.result _ c.requires)

pub returns-clause-part : goal.returns-clause-part
returns-clause-part c =
    part_between c.args.from c.args.to c.count_before-begin.result c.count_before.result c.args.stands.now c.count_before-begin.ensures
    (subst (IsBefore c.args.to c.count_before.result) (take_rest c.args.stands.now c.count_before-begin.result) c.count_before.ensures)

pub returns-clause-within : goal.returns-clause-within
returns-clause-within c =
    let later = subst (IsBefore c.args.to c.count_before.result) (take_rest c.args.stands.now c.count_before-begin.result) c.count_before.ensures in
    let rest = length-drop c.count_before-begin.result c.args.stands.now in
    omega (arith, c.count_before-begin.ensures.within, later.within, rest)
