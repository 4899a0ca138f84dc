use Rattle.std.proofs.Common.{◌≡◌, ◌∙◌, true, sym, subst}
use Rattle.exchange_core.proofs.Frames.{head_frameable}
use Rattle.exchange_core.proofs.flow.Flow.next_unit.Goals as goal
use Rattle.exchange_core.specs.Flow.{IsSound}
use Rattle.exchange_core.specs.Message.{head_waits}
use Rattle.exchange_core.specs.State.{ungated}
use Rattle.flow_rules.specs.Units.{head_may_go}
use Rattle.std.specs.Prelude.{pos}

pub returns-then-head_waits-clause-frameable : goal.returns-then-head_waits-clause-frameable
returns-then-head_waits-clause-frameable c =
    let sound : IsSound c.args.self.now = subst IsSound c.self.view_is c.self.invariant.sound in
    let waits : head_waits c.args.self.now.message ≡ true = rw (← c.self.view_is) (sym c.head_waits.ensures ∙ c.if-head_waits.true) in
    rw c.next_head.ensures (head_frameable c.args.self.now sound waits (head_may_go (ungated (pos 0) 0 c.args.self.now)))
