use Rattle.wire_out.proofs.moves.go_on.Goals as goal

pub returns-clause-octets : goal.returns-clause-octets
returns-clause-octets c = record {
  goes = λ h g start t.
      let begun = c.in_ok-try_anew.ensures.octets.goes h g start _ t in
      let stirred = c.in_ok-stir_some.ensures.octets.goes h g start _ (c.in_ok-owe_moved.ensures.octets.goes h g start _ begun) in
      c.cross.ensures.octets.goes h g start (c.in_ok-note.ensures.paid.front h g start _ _ _ _ stirred);
}
