use Rattle.wire_ends.proofs.dooms.tell.Goals as goal

pub returns-clause-octets : goal.returns-clause-octets
returns-clause-octets c = record {
  goes = λ h g start notes t.
      let heard = c.in_ok-cluster_fits.ensures.octets.goes h g start notes (c.in_ok-client_fits.ensures.octets.goes h g start notes t) in
      c.flood_unless-2.ensures.octets.goes h g start notes (c.in_ok-flood_unless.ensures.octets.goes h g start notes (c.in_ok-client_fits-2.ensures.octets.goes h g start notes heard));
}
