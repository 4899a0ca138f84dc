use Rattle.std.proofs.Common.{refl}
use Rattle.std.proofs.lemmas.Result.{err_from_is_err_and}
use Rattle.config_tables.proofs.Faults.{first_append, both_empty, then_first}
use Rattle.config_tables.proofs.tables.overload_in.Goals as goal

pub returns-in_err-check-clause-faults : goal.returns-in_err-check-clause-faults
returns-in_err-check-clause-faults c =
    let p = err_from_is_err_and c.from_residual.result c.from_residual.ensures.1 in
    rw (p.1, p.2) (λ known. first_append _ _ _ (c.in_err-check.ensures known))

pub returns-in_err-triggers-clause-faults : goal.returns-in_err-triggers-clause-faults
returns-in_err-triggers-clause-faults c =
    let p = err_from_is_err_and c.from_residual-in_err-triggers.result c.from_residual-in_err-triggers.ensures.1 in
    let told = rw c.in_ok-resources.ensures at c.in_err-triggers.ensures.faults in
    rw (p.1, p.2) (λ known. then_first _ _ _ c.in_ok-check.ensures (first_append _ _ _ (told known)))

pub returns-in_err-check-2-clause-faults : goal.returns-in_err-check-2-clause-faults
returns-in_err-check-2-clause-faults c =
    let p = err_from_is_err_and c.from_residual-in_err-check-2.result c.from_residual-in_err-check-2.ensures.1 in
    let triggers = rw c.in_ok-resources.ensures at c.in_ok-triggers.ensures.faults in
    rw (p.1, p.2) (λ known. then_first _ _ _ c.in_ok-check.ensures (then_first _ _ _ triggers (first_append _ _ _ (c.in_err-check-2.ensures known))))

pub returns-in_err-shed-clause-faults : goal.returns-in_err-shed-clause-faults
returns-in_err-shed-clause-faults c =
    let p = err_from_is_err_and c.from_residual-in_err-shed.result c.from_residual-in_err-shed.ensures.1 in
    let triggers = rw c.in_ok-resources.ensures at c.in_ok-triggers.ensures.faults in
    let told = rw c.in_ok-resources.ensures at c.in_err-shed.ensures.faults in
    rw (p.1, p.2) (λ known. then_first _ _ _ c.in_ok-check.ensures (then_first _ _ _ triggers (then_first _ _ _ c.in_ok-check-2.ensures (first_append _ _ _ (told known)))))

pub returns-in_err-end-clause-faults : goal.returns-in_err-end-clause-faults
returns-in_err-end-clause-faults c =
    let p = err_from_is_err_and c.from_residual-in_err-end.result c.from_residual-in_err-end.ensures.1 in
    let triggers = rw c.in_ok-resources.ensures at c.in_ok-triggers.ensures.faults in
    let shed = rw c.in_ok-resources.ensures at c.in_ok-shed.ensures.faults in
    rw (p.1, p.2) (λ known. then_first _ _ _ c.in_ok-check.ensures (then_first _ _ _ triggers (then_first _ _ _ c.in_ok-check-2.ensures (then_first _ _ _ shed (first_append _ _ _ (c.in_err-end.ensures known))))))

pub returns-clause-faults : goal.returns-clause-faults
returns-clause-faults c =
    let triggers = rw c.in_ok-resources.ensures at c.in_ok-triggers.ensures.faults in
    let shed = rw c.in_ok-resources.ensures at c.in_ok-shed.ensures.faults in
    both_empty _ _ c.in_ok-check.ensures (both_empty _ _ triggers (both_empty _ _ c.in_ok-check-2.ensures (both_empty _ _ shed (both_empty _ _ c.in_ok-end.ensures refl))))
