use Rattle.h2_heads.proofs.Decimals.{decimal_next}
use Rattle.h2_heads.proofs.values.decimal_in.Goals as goal

pub returns-in_err-n : goal.returns-in_err-n
returns-in_err-n c =
    rw c.from_residual.ensures
    (λ whole. c.in_err-n.ensures (decimal_next _ _ _ c.loop-octet-test.true c.loop-octet.invariant.1 whole))
