use Rattle.std.proofs.Common.{refl}
use Rattle.std.proofs.lemmas.Result.{err_from_is_err_and}
use Rattle.config_tables.proofs.Faults.{first_append, both_empty, then_first}
use Rattle.config_tables.proofs.document.read_tables.Goals as goal

pub returns-in_err-read_limits-clause-faults : goal.returns-in_err-read_limits-clause-faults
returns-in_err-read_limits-clause-faults c =
    let p = err_from_is_err_and c.from_residual.result c.from_residual.ensures.1 in
    rw (p.1, p.2) (λ known. first_append _ _ _ (c.in_err-read_limits.ensures.faults known))

pub returns-in_err-read_timeouts-clause-faults : goal.returns-in_err-read_timeouts-clause-faults
returns-in_err-read_timeouts-clause-faults c =
    let p = err_from_is_err_and c.from_residual-in_err-read_timeouts.result c.from_residual-in_err-read_timeouts.ensures.1 in
    rw (p.1, p.2) (λ known.
    then_first _ _ _ c.in_ok-read_limits.ensures.faults (
    first_append _ _ _ (c.in_err-read_timeouts.ensures.faults known)))

pub returns-in_err-read_clusters-clause-faults : goal.returns-in_err-read_clusters-clause-faults
returns-in_err-read_clusters-clause-faults c =
    let p = err_from_is_err_and c.from_residual-in_err-read_clusters.result c.from_residual-in_err-read_clusters.ensures.1 in
    rw (p.1, p.2) (λ known.
    then_first _ _ _ c.in_ok-read_limits.ensures.faults (
    then_first _ _ _ c.in_ok-read_timeouts.ensures.faults (
    first_append _ _ _ (c.in_err-read_clusters.ensures.faults known))))

pub returns-in_err-read_routes-clause-faults : goal.returns-in_err-read_routes-clause-faults
returns-in_err-read_routes-clause-faults c =
    let p = err_from_is_err_and c.from_residual-in_err-read_routes.result c.from_residual-in_err-read_routes.ensures.1 in
    rw (p.1, p.2) (λ known.
    then_first _ _ _ c.in_ok-read_limits.ensures.faults (
    then_first _ _ _ c.in_ok-read_timeouts.ensures.faults (
    then_first _ _ _ c.in_ok-read_clusters.ensures.faults (
    first_append _ _ _ (c.in_err-read_routes.ensures.faults known)))))

pub returns-in_err-read_overload-clause-faults : goal.returns-in_err-read_overload-clause-faults
returns-in_err-read_overload-clause-faults c =
    let p = err_from_is_err_and c.from_residual-in_err-read_overload.result c.from_residual-in_err-read_overload.ensures.1 in
    rw (p.1, p.2) (λ known.
    then_first _ _ _ c.in_ok-read_limits.ensures.faults (
    then_first _ _ _ c.in_ok-read_timeouts.ensures.faults (
    then_first _ _ _ c.in_ok-read_clusters.ensures.faults (
    then_first _ _ _ c.in_ok-read_routes.ensures.faults (
    first_append _ _ _ (c.in_err-read_overload.ensures.faults known))))))

pub returns-in_err-read_proxy-clause-faults : goal.returns-in_err-read_proxy-clause-faults
returns-in_err-read_proxy-clause-faults c =
    let p = err_from_is_err_and c.from_residual-in_err-read_proxy.result c.from_residual-in_err-read_proxy.ensures.1 in
    rw (p.1, p.2) (λ known.
    then_first _ _ _ c.in_ok-read_limits.ensures.faults (
    then_first _ _ _ c.in_ok-read_timeouts.ensures.faults (
    then_first _ _ _ c.in_ok-read_clusters.ensures.faults (
    then_first _ _ _ c.in_ok-read_routes.ensures.faults (
    then_first _ _ _ c.in_ok-read_overload.ensures.faults (
    first_append _ _ _ (c.in_err-read_proxy.ensures.faults known)))))))

pub returns-clause-faults : goal.returns-clause-faults
returns-clause-faults c =
    both_empty _ _ c.in_ok-read_limits.ensures.faults (
    both_empty _ _ c.in_ok-read_timeouts.ensures.faults (
    both_empty _ _ c.in_ok-read_clusters.ensures.faults (
    both_empty _ _ c.in_ok-read_routes.ensures.faults (
    both_empty _ _ c.in_ok-read_overload.ensures.faults (
    both_empty _ _ c.in_ok-read_proxy.ensures.faults refl)))))

pub returns-clause-value : goal.returns-clause-value
returns-clause-value c =
    rw (
      c.in_ok-read_limits.ensures.value,
      c.in_ok-read_timeouts.ensures.value,
      c.in_ok-read_clusters.ensures.value,
      c.in_ok-read_routes.ensures.value,
      c.in_ok-read_overload.ensures.value,
      c.in_ok-read_proxy.ensures.value,
    )
