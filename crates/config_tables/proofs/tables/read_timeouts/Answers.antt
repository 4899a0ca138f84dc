use Rattle.std.proofs.lemmas.Result.{err_from_is_err_and}
use Rattle.config_tables.proofs.Faults.{both_empty, then_first}
use Rattle.config_tables.proofs.tables.read_timeouts.Goals as goal

pub returns-in_err-check_timeouts-clause-faults : goal.returns-in_err-check_timeouts-clause-faults
returns-in_err-check_timeouts-clause-faults c =
    let p = err_from_is_err_and c.from_residual-in_err-check_timeouts.result c.from_residual-in_err-check_timeouts.ensures.1 in
    let opened = rw c.requires at c.in_ok-timeouts.ensures.faults in
    let told = rw (c.in_ok-timeouts.ensures.place, c.in_ok-timeouts.ensures.table) at c.in_err-check_timeouts.ensures in
    rw (p.1, p.2) (λ known. then_first _ _ _ opened (told known))

pub returns-clause-faults : goal.returns-clause-faults
returns-clause-faults c =
    let opened = rw c.requires at c.in_ok-timeouts.ensures.faults in
    let rest = rw (c.in_ok-timeouts.ensures.place, c.in_ok-timeouts.ensures.table) at c.in_ok-check_timeouts.ensures in
    both_empty _ _ opened rest
