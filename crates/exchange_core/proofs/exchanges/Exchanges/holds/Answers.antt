use Rattle.exchange_core.proofs.Untouched.{held_seen, read_or}
use Rattle.exchange_core.proofs.exchanges.Exchanges.holds.Goals as goal
use Rattle.exchange_core.specs.Flow.{held_by}
use Rattle.std.proofs.Common.{ap, sym, ◌∙◌}
use Rattle.std.specs.Prelude.{None, Some, false, nat_lt}

pub returns-in-Some : goal.returns-in-Some
returns-in-Some c = c.holds.ensures
    ∙ sym (read_or (λ f. nat_lt 0 (held_by f)) (λ now flow. ap (nat_lt 0) (held_seen now flow)) false (Some c.in-Some.flow.now) _ c.in-Some.ensures)

pub returns-in-None : goal.returns-in-None
returns-in-None c = sym (read_or (λ f. nat_lt 0 (held_by f)) (λ now flow. ap (nat_lt 0) (held_seen now flow)) false None _ c.in-None.ensures)
