use Rattle.wire_in.proofs.faults.owe.Goals as goal

pub returns-clause-octets : goal.returns-clause-octets
returns-clause-octets c = record {
  goes = λ h g start t.
      (c.note.ensures.idle tt).goes h g start _ _ _ (c.in_ok-stir.ensures.octets.goes h g start c.args.notes.now (c.wasted.ensures.octets.goes h g start c.args.notes.now t));
}
