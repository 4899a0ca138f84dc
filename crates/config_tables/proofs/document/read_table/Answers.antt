use Rattle.std.proofs.lemmas.Result.{err_from_is_err_and}
use Rattle.config_tables.proofs.Faults.{first_append, both_empty, then_first}
use Rattle.config_tables.proofs.document.read_table.Goals as goal

pub returns-in_err-config-clause-faults : goal.returns-in_err-config-clause-faults
returns-in_err-config-clause-faults c =
    let p = err_from_is_err_and c.from_residual.result c.from_residual.ensures.1 in
    rw (p.1, p.2) (λ known. first_append _ _ _ (c.in_err-config.ensures.faults known))

pub returns-in_err-check_top-clause-faults : goal.returns-in_err-check_top-clause-faults
returns-in_err-check_top-clause-faults c =
    let p = err_from_is_err_and c.from_residual-in_err-check_top.result c.from_residual-in_err-check_top.ensures.1 in
    let told = rw c.in_ok-config.ensures.value at c.in_err-check_top.ensures in
    rw (p.1, p.2) (λ known. then_first _ _ _ c.in_ok-config.ensures.faults (told known))

pub returns-clause-faults : goal.returns-clause-faults
returns-clause-faults c =
    let rest = rw c.in_ok-config.ensures.value at c.in_ok-check_top.ensures in
    both_empty _ _ c.in_ok-config.ensures.faults rest
