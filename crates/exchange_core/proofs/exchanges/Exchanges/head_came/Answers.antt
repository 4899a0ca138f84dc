use Rattle.exchange_core.proofs.Untouched.{read_or}
use Rattle.exchange_core.proofs.exchanges.Exchanges.head_came.Goals as goal
use Rattle.exchange_core.specs.Message.{head_came}
use Rattle.std.proofs.Common.{ap, refl, sym, ◌∙◌}
use Rattle.std.specs.Prelude.{None, Some, false}

pub returns-in-Some : goal.returns-in-Some
returns-in-Some c = c.head_came.ensures ∙ (ap head_came c.message.ensures
    ∙ sym (read_or (λ f. head_came f.message) (λ now flow. refl) false (Some c.in-Some.flow.now) _ c.in-Some.ensures))

pub returns-in-None : goal.returns-in-None
returns-in-None c = sym (read_or (λ f. head_came f.message) (λ now flow. refl) false None _ c.in-None.ensures)
