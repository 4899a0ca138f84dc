use Rattle.exchange_core.proofs.Untouched.{read_or}
use Rattle.exchange_core.proofs.exchanges.Exchanges.awaits.Goals as goal
use Rattle.exchange_core.specs.Message.{awaited}
use Rattle.exchange_core.specs.declared.message.Awaited.TheVariants.{Nothing}
use Rattle.std.proofs.Common.{ap, refl, sym, ◌∙◌}
use Rattle.std.specs.Prelude.{None, Some}

pub returns-in-Some : goal.returns-in-Some
returns-in-Some c = c.awaits.ensures ∙ (ap awaited c.message.ensures
    ∙ sym (read_or (λ f. awaited f.message) (λ now flow. refl) Nothing (Some c.in-Some.flow.now) _ c.in-Some.ensures))

pub returns-in-None : goal.returns-in-None
returns-in-None c = sym (read_or (λ f. awaited f.message) (λ now flow. refl) Nothing None _ c.in-None.ensures)
