use Rattle.wire_turns.proofs.events.join.Goals as goal

pub returns-clause-octets : goal.returns-clause-octets
returns-clause-octets c = record {
  goes = λ h g start notes t came fresh. c.greet_cluster.ensures.octets.goes h g start notes (c.in_ok-take_cluster.ensures.octets.goes h g start notes t came fresh);
}
