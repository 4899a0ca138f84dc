use Rattle.std.proofs.Common.{ap, sym, ◌∙◌}
use Rattle.wire_flows.specs.Writes.{watchers_on}
use Rattle.wire_out.proofs.units.body_framed.Goals as goal
use Rattle.wire_state.specs.declared.wire_core.WireCore.{WireCore}

pub returns-clause-octets : goal.returns-clause-octets
returns-clause-octets c = record {
  goes = λ h g start t.
      let n = c.args.going.conn in
      let same = ap (λ (w : WireCore). watchers_on n w.flows) c.in_ok-touch.ensures.rest ∙ ap (λ (w : WireCore). watchers_on n w.flows) c.in_ok-stir_course.ensures.rest in
      let touched = c.in_ok-touch.ensures.octets.goes h g start _ (c.in_ok-stir_course.ensures.octets.goes h g start _ t) in
      c.end_or_resume.ensures.octets.goes h g start (c.in_ok-note_risen.ensures.octets.front h g start _ _ _ _ (c.in_ok-note.ensures.paid.front h g start _ _ _ _ (rw (sym same) at touched)));
}
