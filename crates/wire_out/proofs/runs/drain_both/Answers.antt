use Rattle.wire_out.proofs.runs.drain_both.Goals as goal

pub returns-in_ok-ask_drain-in-Some-clause-octets : goal.returns-in_ok-ask_drain-in-Some-clause-octets
returns-in_ok-ask_drain-in-Some-clause-octets c = record {
  goes = λ h g start t.
      let looked = c.unit_to.ensures.octets.goes h g start c.args.notes.now t in
      c.drain_by.ensures.octets.goes h g start (c.in_ok-ask_drain-in-Some.ensures.octets.goes h g start _ looked);
}

pub returns-in-None-clause-octets : goal.returns-in-None-clause-octets
returns-in-None-clause-octets c = record {
  goes = λ h g start t. c.drain_at.ensures.octets.goes h g start (c.unit_to.ensures.octets.goes h g start c.args.notes.now t);
}
