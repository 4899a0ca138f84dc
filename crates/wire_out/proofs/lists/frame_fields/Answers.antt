use Rattle.std.proofs.Common.{ap, sym, ◌∙◌}
use Rattle.wire_flows.specs.Writes.{watchers_on}
use Rattle.wire_out.proofs.lists.frame_fields.Goals as goal
use Rattle.wire_state.specs.declared.wire_core.WireCore.{WireCore}

pub returns-clause-octets : goal.returns-clause-octets
returns-clause-octets c = record {
  goes = λ h g start t.
      let owed = rw c.in-Some.is at c.in_ok-octets.ensures.octets in
      let n = c.args.going.conn in
      let same = ap (λ (w : WireCore). watchers_on n w.flows) c.in_ok-touch.ensures.rest ∙ ap (λ (w : WireCore). watchers_on n w.flows) c.in_ok-stir_some.ensures.rest in
      let touched = c.in_ok-touch.ensures.octets.goes h g start _ (c.in_ok-stir_some.ensures.octets.goes h g start _ (owed.goes h g start c.args.notes.now t)) in
      c.end_where.ensures.octets.goes h g start (c.in_ok-unit_framed.ensures.octets.goes h g start (c.in_ok-note_head.ensures.paid.front h g start _ _ _ _ (rw (sym same) at touched)));
}

pub returns-in_default-clause-octets : goal.returns-in_default-clause-octets
returns-in_default-clause-octets c = record {
  goes = λ h g start t. c.unready.ensures.octets.goes h g start c.args.notes.now ((rw c.in_default.is at c.in_ok-octets.ensures.octets).goes h g start c.args.notes.now t);
}
