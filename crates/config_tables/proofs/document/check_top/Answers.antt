use Rattle.std.proofs.lemmas.Result.{err_from_is_err_and}
use Rattle.config_tables.proofs.Faults.{first_append, checks_rest}
use Rattle.config_tables.proofs.document.check_top.Goals as goal

pub returns-in_err-end : goal.returns-in_err-end
returns-in_err-end c =
    let p = err_from_is_err_and c.from_residual.result c.from_residual.ensures.1 in
    let told = rw c.requires at c.in_err-end.ensures in
    rw (p.1, p.2) (λ known. first_append _ _ _ (told known))

pub returns : goal.returns
returns c =
    let known = rw c.requires at c.in_ok-end.ensures in
    checks_rest _ _ c.check_routes.result known (rw (c.as_slice.ensures.rows, c.as_slice-2.ensures.rows) at c.check_routes.ensures)
