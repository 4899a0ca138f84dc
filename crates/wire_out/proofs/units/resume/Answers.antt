use Rattle.wire_out.proofs.units.resume.Goals as goal

pub returns-clause-octets : goal.returns-clause-octets
returns-clause-octets c = record {
  goes = λ h g start t.
      c.note.ensures.paid.goes h g start _ _ _ (c.in_ok-ask_run.ensures.octets.goes h g start _ (c.in_ok-look_due.ensures.octets.goes h g start _ t));
}
