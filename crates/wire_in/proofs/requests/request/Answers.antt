use Rattle.wire_in.proofs.requests.request.Goals as goal

pub returns-in-Going-clause-octets : goal.returns-in-Going-clause-octets
returns-in-Going-clause-octets c = record {
  goes = λ h g start t.
      let begun = c.in_ok-course.ensures.octets.goes h g start (c.ignores.ensures.octets.goes h g start c.args.notes.now t) in
      c.go.ensures.octets.goes h g start _ (c.in_ok-ask_run.ensures.octets.goes h g start _ begun);
}

pub returns-clause-octets : goal.returns-clause-octets
returns-clause-octets c = record {
  goes = λ h g start t.
      let begun = c.in_ok-course.ensures.octets.goes h g start (c.ignores.ensures.octets.goes h g start c.args.notes.now t) in
      let asked = c.in_ok-ask_run.ensures.octets.goes h g start _ begun in
      c.doom.ensures.octets.goes h g start (c.in_ok-finish_where.ensures.octets.goes h g start _ asked);
}
