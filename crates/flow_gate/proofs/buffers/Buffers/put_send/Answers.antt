use Rattle.flow_gate.proofs.ByBuffer.{send_updated}
use Rattle.flow_gate.proofs.Naming.{on_err, on_ok}
use Rattle.flow_gate.proofs.buffers.Buffers.put_send.Goals as goal
use Rattle.flow_gate.specs.Ids.{same_flow}
use Rattle.flow_gate.specs.Named.{Updates, all_of}
use Rattle.std.proofs.Common.{ap}
use Rattle.std.specs.Prelude.{Some, ◌≡◌}

pub returns-clause-updates : goal.returns-clause-updates
returns-clause-updates c = rw (← c.self.view_is) (on_ok (Updates same_flow c.args.flow (Some c.args.gate) c.self.inside.sends c.put.new.self) _ c.put.result
    (λ h. send_updated c.self.inside.writes.entries c.self.inside.recvs c.self.inside.stages.entries c.self.inside.sends (Some c.args.gate) c.args.flow c.put.new.self h) c.put.ensures.updates)

pub returns-clause-err : goal.returns-clause-err
returns-clause-err c = rw (← c.self.view_is) (on_err (c.put.new.self ≡ c.self.inside.sends) _ c.put.result (λ h. ap (λ m. all_of c.self.inside.writes.entries c.self.inside.recvs c.self.inside.stages.entries m) h) c.put.ensures.err)
