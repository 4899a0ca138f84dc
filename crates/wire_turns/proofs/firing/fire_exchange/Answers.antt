use Rattle.wire_turns.proofs.firing.fire_exchange.Goals as goal

pub returns-clause-octets : goal.returns-clause-octets
returns-clause-octets c = record {
  goes = λ h g start t.
      c.doom.ensures.octets.goes h g start ((c.in_ok-note.ensures.idle tt).goes h g start _ _ _ t);
}
