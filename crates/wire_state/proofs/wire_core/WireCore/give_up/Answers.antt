use Rattle.std.proofs.Common.{ap, arith}
use Rattle.std.specs.Prelude.{◌≡◌}
use Rattle.wire_state.proofs.wire_core.WireCore.give_up.Goals as goal
use Rattle.wire_state.specs.Agenda.{stirred_at}
use Rattle.wire_state.specs.Progress.{to_go}
use Rattle.wire_state.specs.declared.wire_core.WireCore.{WireCore}

pub returns-clause-go : goal.returns-clause-go
unfolding to_go
returns-clause-go c =
    let s : stirred_at c.args.conn c.end_task.new.self.stirred.conns.items ≡ stirred_at c.args.conn c.args.self.now.stirred.conns.items = ap (λ (w : WireCore). stirred_at c.args.conn w.stirred.conns.items) c.end_task.ensures.rest in
    omega (arith, c.end_task.ensures.go, s, c.remove.ensures)
