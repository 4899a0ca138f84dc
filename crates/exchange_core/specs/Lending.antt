-- A flow of an exchange that is lent to be changed.
use Rattle.exchange_core.specs.Exchange.{seen_at, with_flow}
use Rattle.exchange_core.specs.Flow.{Flow}
use Rattle.exchange_core.specs.declared.exchange.Exchange.{Exchange}
use Rattle.exchange_core.specs.contracts.exchange.Exchange.{the_row}
use Rattle.exchange_core.specs.contracts.flow.Flow.{the_row as flow_row}
use Rattle.exchange_core.specs.contracts.flow_box.FlowBox.{the_row as box_row}
use Rattle.std.specs.Borrow.{Fml, Lends, LendsIf, MutBor}
use Rattle.std.specs.Prelude.{Bool, Option, ℕ}

-- what is left behind a flow in a block of its own is that flow
abbrev pub LendsBoxed : MutBor Flow → MutBor Flow → Fml
LendsBoxed s r = Lends box_row flow_row s r (λ w. w)

-- what is left behind the flow is that flow of the exchange
abbrev pub LendsFlow : Bool → MutBor Exchange → Option (MutBor Flow) → Fml
LendsFlow back s r = LendsIf the_row flow_row s r (λ w. with_flow back w s.now) s.now

-- and all Meters of the exchange stand at this moment
abbrev pub LendsTouched : Bool → ℕ → MutBor Exchange → Option (MutBor Flow) → Fml
LendsTouched back now s r = LendsIf the_row flow_row s r (λ w. with_flow back w (seen_at now s.now)) (seen_at now s.now)
