use Rattle.wire_out.proofs.drains.begin_drain.Goals as goal

pub returns-clause-octets : goal.returns-clause-octets
returns-clause-octets c = record {
  goes = λ h g start t.
      let framed = c.in_ok-frame_next.ensures.octets.goes h g start (c.in_ok-begin.ensures.octets.goes h g start _ t) in
      c.drain_on.ensures.octets.goes h g start framed;
}
