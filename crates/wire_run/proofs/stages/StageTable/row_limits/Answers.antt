-- What was lent of the row, or nothing.
use Rattle.std.proofs.Common.{ap, ◌∙◌}
use Rattle.wire_run.proofs.Staging.{gives_lent_request, gives_lent_response, gives_nowhere}
use Rattle.wire_run.proofs.stages.StageTable.row_limits.Goals as goal
use Rattle.wire_run.proofs.stages.StageTable.row_limits.Goals.{else-back, then-back}

pub returns-in_default : goal.returns-in_default
returns-in_default c = gives_nowhere c.args.self.now.rows.items c.as_slice.result.now c.args.row c.args.back c.get.result _ c.as_slice.ensures.value c.get.ensures.lookup c.in_default.not-Some c.new.ensures.items

pub returns : goal.returns
returns c =
    let same = c.in_ok-from_slice.ensures.items ∙ c.as_slice-2.ensures.value in
    elim c.if-back.branch [
      | then-back w ↦ gives_lent_response c.args.self.now.rows.items c.as_slice.result.now c.args.row c.args.back c.in-Some.stages c.if-back.limits.now.items _ c.as_slice.ensures.value c.in-Some.ensures.lookup w.if-back.true (ap (λ v. v.now.items) w.limits-is) same
      | else-back w ↦ gives_lent_request c.args.self.now.rows.items c.as_slice.result.now c.args.row c.args.back c.in-Some.stages c.if-back.limits.now.items _ c.as_slice.ensures.value c.in-Some.ensures.lookup w.if-back.false (ap (λ v. v.now.items) w.limits-is) same
    ]
