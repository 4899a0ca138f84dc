use Rattle.exchange_core.proofs.Untouched.{read_or}
use Rattle.exchange_core.proofs.exchanges.Exchanges.goes_on.Goals as goal
use Rattle.exchange_core.specs.declared.message.Message.{Message}
use Rattle.std.proofs.Common.{ap, refl, sym, ◌∙◌}
use Rattle.std.specs.Prelude.{None, Some, false, not}

pub returns-in-Some : goal.returns-in-Some
returns-in-Some c = ap (λ (m : Message). not m.ended) c.message.ensures
    ∙ sym (read_or (λ f. not f.message.ended) (λ now flow. refl) false (Some c.in-Some.flow.now) _ c.in-Some.ensures)

pub returns-in-None : goal.returns-in-None
returns-in-None c = sym (read_or (λ f. not f.message.ended) (λ now flow. refl) false None _ c.in-None.ensures)
