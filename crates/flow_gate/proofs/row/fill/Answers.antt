use Rattle.flow_gate.proofs.SideBySide.{flow_copied, gap_passed}
use Rattle.flow_gate.proofs.row.fill.Goals as goal
use Rattle.flow_gate.proofs.row.fill.Goals.{in-Some+in_ok-push, in_default}
use Rattle.std.proofs.Common.{ap, ◌∙◌}
use Rattle.std.specs.Prelude.{[], ◌++◌, ◌∷◌}

pub loop-stand-preserved : goal.loop-stand-preserved
loop-stand-preserved c = elim c.match-stand.branch [
  | in-Some+in_ok-push w ↦ rw w.row-is
      (w.in_ok-push.ensures.items ∙ ap (λ fs. fs ++ w.in-Some.flow ∷ []) c.loop-stand.invariant
      ∙ flow_copied c.loop-stand.stand-index c.args.stands.now _ c.loop-stand-test.true w.in-Some.flow w.in-Some.is)
  | in_default w ↦ rw w.row-is (c.loop-stand.invariant ∙ gap_passed c.loop-stand.stand-index c.args.stands.now _ c.loop-stand-test.true w.in_default.is)
]
