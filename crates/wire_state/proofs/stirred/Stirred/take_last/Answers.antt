use Rattle.std.proofs.Common.{arith}
use Rattle.std.specs.Prelude.{IfSome, None, Option, Some, length, ◌<◌}
use Rattle.wire_state.proofs.stirred.Stirred.take_last.Goals as goal

-- what holds anyway holds of any value
any_some : {X : Type 0} (P : Type 0) (o : Option X) → P → IfSome o (λ x. P)
any_some P None p = tt
any_some P (Some x) p = p

pub returns : goal.returns
returns c =
    let fewer : length c.pop_last.new.self.items < length c.args.self.now.conns.items = omega (arith, c.in_ok-last.ensures.fewer) in
    any_some (length c.pop_last.new.self.items < length c.args.self.now.conns.items) c.ok.result fewer
