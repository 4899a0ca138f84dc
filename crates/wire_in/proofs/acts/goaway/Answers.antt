use Rattle.wire_in.proofs.acts.goaway.Goals as goal
use Rattle.wire_state.proofs.Linked.{conn_changed_keeps, links_told}
use Rattle.wire_state.proofs.Results.{on_ok}

pub returns-clause-octets : goal.returns-clause-octets
returns-clause-octets c = record {
  goes = λ h g start notes t.
      let mid = c.leaves.new.core in
      on_ok c.begin.result (c.begin.ensures.octets.goes h g start notes
      (links_told mid.links c.drain.new.self (conn_changed_keeps c.args.number _ mid.links c.drain.new.self c.drain.ensures.drained) mid.conns mid.flows h g start notes (c.leaves.ensures.octets.goes h g start notes t)));
}
