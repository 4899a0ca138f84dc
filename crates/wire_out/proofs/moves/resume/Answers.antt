use Rattle.wire_out.proofs.moves.resume.Goals as goal

pub returns-clause-octets : goal.returns-clause-octets
returns-clause-octets c = record {
  goes = λ h g start t.
      let roused = c.rouse_some.ensures.octets.goes h g start _ (c.in_ok-look_due.ensures.octets.goes h g start _ t) in
      c.note.ensures.paid.goes h g start _ _ _ roused;
}
