use Rattle.wire_ends.proofs.closes.drain_link.Goals as goal
use Rattle.wire_state.proofs.Linked.{conn_changed_keeps, links_told}

pub returns-clause-octets : goal.returns-clause-octets
returns-clause-octets c = record {
  goes = λ h g start notes t.
      let mid = c.begin_at.new.core in
      links_told mid.links c.drain.new.self (conn_changed_keeps c.args.number _ mid.links c.drain.new.self c.drain.ensures.drained) mid.conns mid.flows h g start notes (c.begin_at.ensures.octets.goes h g start notes t);
}
