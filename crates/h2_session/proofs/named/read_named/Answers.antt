use Rattle.h2_session.proofs.Folding.{all_outside, outside_found}
use Rattle.h2_session.proofs.named.read_named.Goals as goal
use Rattle.h2_session.specs.Errors.{settings_of}
use Rattle.std.proofs.Common.{arith}

pub returns-clause-outside : goal.returns-clause-outside
returns-clause-outside c =
    let has = c.values_of-values.ensures in
    let settings = settings_of c.args.entries.now in
    all_outside c.args.most_push settings _ _ _
    (outside_found 2 0 c.args.most_push settings c.values_of-values.result _ _ (omega arith) (omega arith) (omega arith) (has 2 (omega arith)) c.is_outside.ensures)
    (outside_found 4 0 2147483647 settings c.values_of-values.result _ _ (omega arith) (omega arith) (omega arith) (has 4 (omega arith)) c.is_outside-2.ensures)
    (outside_found 5 16384 16777215 settings c.values_of-values.result _ _ (omega arith) (omega arith) (omega arith) (has 5 (omega arith)) c.is_outside-3.ensures)
