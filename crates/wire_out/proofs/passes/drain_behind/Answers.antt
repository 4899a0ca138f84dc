use Rattle.std.proofs.Common.{ap, sym}
use Rattle.wire_flows.specs.Writes.{watchers_on}
use Rattle.wire_out.proofs.passes.drain_behind.Goals as goal
use Rattle.wire_state.specs.declared.wire_core.WireCore.{WireCore}

pub returns-clause-octets : goal.returns-clause-octets
returns-clause-octets c = record {
  goes = λ h g start t.
      let n = c.args.going.conn in
      let same = ap (λ (w : WireCore). watchers_on n w.flows) c.in_ok-begin.ensures.rest in
      let begun = c.in_ok-begin.ensures.octets.goes h g start _ t in
      let framed = c.in_ok-body_framed.ensures.octets.goes h g start (rw (sym same) at begun) in
      c.end_run.ensures.octets.goes h g start (c.in_ok-drain_on.ensures.octets.goes h g start framed);
}
