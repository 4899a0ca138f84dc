use Rattle.wire_turns.proofs.events.greet_client.Goals as goal

pub returns-clause-octets : goal.returns-clause-octets
returns-clause-octets c = record {
  goes = λ h g start t.
      c.put.ensures.octets.goes h g start _ (c.in_ok-begin.ensures.octets.goes h g start _ (c.in_ok-arm.ensures.octets.goes h g start c.args.notes.now t));
}
