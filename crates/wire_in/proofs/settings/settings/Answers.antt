use Rattle.wire_in.proofs.settings.settings.Goals as goal

pub returns-clause-octets : goal.returns-clause-octets
returns-clause-octets c = record {
  goes = λ h g start t.
      let named = c.set_windows.ensures.octets.goes h g start _ (c.set_concurrent.ensures.octets.goes h g start c.args.notes.now t) in
      c.put.ensures.octets.goes h g start _ (c.in_ok-refresh_all.ensures.octets.goes h g start _ named);
}
