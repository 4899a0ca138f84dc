use Rattle.flow_gate.proofs.ByBuffer.{recv_updated, send_updated, stage_updated, write_updated}
use Rattle.flow_gate.proofs.Naming.{on_err, on_ok}
use Rattle.flow_gate.proofs.buffers.Buffers.put.Goals as goal
use Rattle.flow_gate.specs.Ids.{same_flow}
use Rattle.flow_gate.specs.Named.{Updates, all_of}
use Rattle.paged_map.specs.PagedMap.{Updates as NumberUpdates}
use Rattle.std.proofs.Common.{ap}
use Rattle.std.specs.Prelude.{Some, ◌≡◌}

pub returns-in-Write-clause-updates : goal.returns-in-Write-clause-updates
returns-in-Write-clause-updates c = rw (c.in-Write.is, ← c.self.view_is) (on_ok (NumberUpdates c.in-Write.conn c.self.inside.writes c.put.new.self (Some c.args.gate)) _ c.put.result
    (λ h. write_updated c.self.inside.writes.entries c.self.inside.recvs c.self.inside.stages.entries c.self.inside.sends (Some c.args.gate) c.in-Write.conn c.put.new.self.entries h.0) c.put.ensures.updates)

pub returns-in-Write-clause-err : goal.returns-in-Write-clause-err
returns-in-Write-clause-err c = rw (← c.self.view_is) (on_err (c.put.new.self ≡ c.self.inside.writes) _ c.put.result (λ h. ap (λ m. all_of m.entries c.self.inside.recvs c.self.inside.stages.entries c.self.inside.sends) h) c.put.ensures.err)

pub returns-in-Recv-clause-updates : goal.returns-in-Recv-clause-updates
returns-in-Recv-clause-updates c = rw (c.in-Recv.is, ← c.self.view_is) (on_ok (Updates same_flow c.in-Recv.flow (Some c.args.gate) c.self.inside.recvs c.put-in-Recv.new.self) _ c.put-in-Recv.result
    (λ h. recv_updated c.self.inside.writes.entries c.self.inside.recvs c.self.inside.stages.entries c.self.inside.sends (Some c.args.gate) c.in-Recv.flow c.put-in-Recv.new.self h) c.put-in-Recv.ensures.updates)

pub returns-in-Recv-clause-err : goal.returns-in-Recv-clause-err
returns-in-Recv-clause-err c = rw (← c.self.view_is) (on_err (c.put-in-Recv.new.self ≡ c.self.inside.recvs) _ c.put-in-Recv.result (λ h. ap (λ m. all_of c.self.inside.writes.entries m c.self.inside.stages.entries c.self.inside.sends) h) c.put-in-Recv.ensures.err)

pub returns-clause-updates : goal.returns-clause-updates
returns-clause-updates c = rw (c.in-Send.is, ← c.self.view_is) (on_ok (Updates same_flow c.in-Send.flow (Some c.args.gate) c.self.inside.sends c.put-in-Send.new.self) _ c.put-in-Send.result
    (λ h. send_updated c.self.inside.writes.entries c.self.inside.recvs c.self.inside.stages.entries c.self.inside.sends (Some c.args.gate) c.in-Send.flow c.put-in-Send.new.self h) c.put-in-Send.ensures.updates)

pub returns-clause-err : goal.returns-clause-err
returns-clause-err c = rw (← c.self.view_is) (on_err (c.put-in-Send.new.self ≡ c.self.inside.sends) _ c.put-in-Send.result (λ h. ap (λ m. all_of c.self.inside.writes.entries c.self.inside.recvs c.self.inside.stages.entries m) h) c.put-in-Send.ensures.err)

pub returns-in-Ok-clause-updates : goal.returns-in-Ok-clause-updates
returns-in-Ok-clause-updates c = rw (c.in-Stage.is, ← c.self.view_is) (stage_updated c.self.inside.writes.entries c.self.inside.recvs c.self.inside.stages.entries c.self.inside.sends (Some c.args.gate) c.in-Stage.flow c.in-Stage.stage c.insert.new.self.entries c.in-Ok.ensures.updates.0)
