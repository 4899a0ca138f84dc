use Rattle.wire_in.proofs.settings.set_concurrent.Goals as goal
use Rattle.wire_state.proofs.Linked.{conn_changed_keeps, links_told}

pub returns-in-Some-clause-octets : goal.returns-in-Some-clause-octets
returns-in-Some-clause-octets c = record {
  goes = λ h g start notes t.
      let k = c.args.core.now in
      links_told k.links c.set_concurrent.new.self (conn_changed_keeps c.args.number _ k.links c.set_concurrent.new.self c.set_concurrent.ensures) k.conns k.flows h g start notes t;
}
