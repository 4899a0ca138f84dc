use Rattle.flow_rules.specs.declared.ids.FlowId.{FlowId}
use Rattle.std.proofs.Common.{ap, refl, sym}
use Rattle.std.specs.Prelude.{List, ◌++◌}
use Rattle.wire_flows.specs.Writes.{watchers_on}
use Rattle.wire_out.proofs.drains.unit_framed.Goals as goal
use Rattle.wire_state.proofs.Goings.{told_at}
use Rattle.wire_state.specs.Noting.{risen_of}
use Rattle.wire_state.specs.declared.wire_core.WireCore.{WireCore}

pub returns-clause-octets : goal.returns-clause-octets
returns-clause-octets c = record {
  goes = λ h g start t.
      let n = c.args.conn in
      let same = ap (λ (w : WireCore). watchers_on n w.flows) c.in_ok-stir.ensures.rest in
      c.note_risen.ensures.octets.goes h g start _ _ _
      (told_at h g start _ _ _ _ _ (c.args.notes.now ++ risen_of c.args.rose n (watchers_on n c.stir.new.self.flows)) refl (ap (λ (fs : List FlowId). c.args.notes.now ++ risen_of c.args.rose n fs) (sym same))
      (c.in_ok-stir.ensures.octets.goes h g start _ t));
}
