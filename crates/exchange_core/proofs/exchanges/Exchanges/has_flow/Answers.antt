use Rattle.exchange_core.proofs.Finding.{flow_there, no_exchange}
use Rattle.exchange_core.proofs.exchanges.Exchanges.has_flow.Goals as goal
use Rattle.std.proofs.Common.{sym, ◌∙◌}
use Rattle.std.proofs.lemmas.Bool.{false≢true}

pub returns-in-Some : goal.returns-in-Some
returns-in-Some c = rw (← c.self.view_is) (
    let same = c.has_flow.ensures ∙ sym (flow_there c.self.inside c.args.flow c.in-Some.exchange.now c.in-Some.ensures.value) in
    (λ h. sym same ∙ h, λ h. same ∙ h))

pub returns-in-None : goal.returns-in-None
returns-in-None c = rw (← c.self.view_is) (λ h. absurd (false≢true h), λ h. absurd (no_exchange c.self.inside c.args.flow c.in-None.ensures.value h))
