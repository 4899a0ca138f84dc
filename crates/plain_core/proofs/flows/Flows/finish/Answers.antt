use Rattle.exchange_core.proofs.Outcomes.{on_ok}
use Rattle.exchange_core.specs.Changes.{ChangesFlow}
use Rattle.exchange_core.specs.Effects.{finished}
use Rattle.std.proofs.Common.{subst}
use Rattle.std.specs.Prelude.{None}
use Rattle.plain_core.proofs.FlowEvents.{ends}
use Rattle.plain_core.proofs.flows.Flows.finish.Goals as goal

pub returns : goal.returns
returns c =
    let change = subst (λ f. ChangesFlow f (finished None) c.args.self.now.exchanges c.finish.new.self) c.request.ensures (c.in_ok-finish.ensures {u = tt}).ok in
    on_ok _ _ c.refresh.result c.refresh.ensures.ready (λ made. record {
      goes = λ limits k h settled lives. ends limits k c.args.exchange c.args.self.now c.refresh.new.self c.finish.new.self h settled lives change c.finish.ensures.sound c.refresh.ensures.rest made;
    })
