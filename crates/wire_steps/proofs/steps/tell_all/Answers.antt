use Rattle.std.specs.Prelude.{Some}
use Rattle.wire_steps.proofs.steps.tell_all.Goals as goal

pub returns-clause-octets : goal.returns-clause-octets
returns-clause-octets c = record {
  goes = λ {k} h g start t. c.drain_told.ensures.octets.goes h g start (c.in_ok-tell_next.ensures.octets.goes h g start (c.loop.invariant.octets k (Some c.args.conn) h g start t));
}
