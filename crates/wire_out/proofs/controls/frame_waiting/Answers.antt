use Rattle.wire_out.proofs.controls.frame_waiting.Goals as goal

pub returns-clause-octets : goal.returns-clause-octets
returns-clause-octets c = record {
  goes = λ h g start t.
      c.unit_framed.ensures.octets.goes h g start (c.in_ok-note_waiting.ensures.paid.front h g start _ _ _ _ ((rw c.in-Some.is at c.in_ok-framed.ensures.octets).goes h g start c.args.notes.now t));
}

pub returns-in_default-clause-octets : goal.returns-in_default-clause-octets
returns-in_default-clause-octets c = record {
  goes = λ h g start t. c.give_up.ensures.octets.goes h g start c.args.notes.now ((rw c.in_default.is at c.in_ok-framed.ensures.octets).goes h g start c.args.notes.now t);
}
