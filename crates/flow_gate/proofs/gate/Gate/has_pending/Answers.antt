use Rattle.flow_gate.proofs.Parts.{lent_part}
use Rattle.flow_gate.proofs.Places.{first_none}
use Rattle.flow_gate.proofs.gate.Gate.has_pending.Goals as goal
use Rattle.flow_gate.specs.Line.{Places, between, live}
use Rattle.std.proofs.Common.{ap, sym, ◌∙◌}
use Rattle.std.specs.Prelude.{is_some, slice_get, ◌≡◌}

pub returns : goal.returns
returns c =
    let line : Places = live c.self.inside.line.items in
    let low : c.is_some.result ≡ is_some (slice_get (between c.self.inside.told c.self.inside.drained line) 0) =
    c.is_some.ensures ∙ ap is_some c.first.ensures
    ∙ ap (λ (es : Places). is_some (slice_get es 0))
    (lent_part c.self.inside.told c.self.inside.drained c.self.inside.line.items c.as_slice.result.now c.between.result.now c.as_slice.ensures.value c.between.ensures) in
    rw (← c.self.view_is) (
      λ h. first_none (between c.self.inside.told c.self.inside.drained line) (sym low ∙ h),
      λ h. low ∙ ap (λ (es : Places). is_some (slice_get es 0)) h,
    )
