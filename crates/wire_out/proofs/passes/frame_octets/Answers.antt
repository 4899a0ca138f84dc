use Rattle.wire_out.proofs.passes.frame_octets.Goals as goal

pub returns-clause-octets : goal.returns-clause-octets
returns-clause-octets c = record {
  goes = λ h g start t. c.drain_behind.ensures.octets.goes h g start ((rw c.in-Some.is at c.in_ok-framed.ensures.octets).goes h g start c.args.notes.now t);
}

pub returns-in_default-clause-octets : goal.returns-in_default-clause-octets
returns-in_default-clause-octets c = record {
  goes = λ h g start t. c.look_and_drain.ensures.octets.goes h g start ((rw c.in_default.is at c.in_ok-framed.ensures.octets).goes h g start c.args.notes.now t);
}
