use Rattle.wire_out.proofs.drains.drain_one.Goals as goal

pub returns-in_ok-frame_next-in-Some-clause-octets : goal.returns-in_ok-frame_next-in-Some-clause-octets
returns-in_ok-frame_next-in-Some-clause-octets c = record {
  goes = λ h g start t.
      c.in_ok-frame_next-in-Some.ensures.octets.goes h g start (c.look_at.ensures.octets.goes h g start c.args.notes.now t);
}
