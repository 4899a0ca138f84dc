use Rattle.wire_ends.proofs.closes.close.Goals as goal

pub returns-clause-octets : goal.returns-clause-octets
returns-clause-octets c = record {
  goes = λ h g start t.
      c.note.ensures.paid.goes h g start _ _ _ (c.in_ok-end_conn.ensures.octets.goes h g start _ ((c.shut.ensures.octets c.args.code).goes h g start _ (c.in_ok-say_farewell.ensures.octets.goes h g start t)));
}
