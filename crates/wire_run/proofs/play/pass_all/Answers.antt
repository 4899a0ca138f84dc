-- Passage after passage.
use Rattle.std.proofs.Common.{[], ◌++◌}
use Rattle.tape_summary.proofs.Pausing.{all_left, no_passages, passage_more}
use Rattle.wire_run.proofs.Staging.{all_passed, passes_more, passes_none}
use Rattle.wire_run.proofs.play.pass_all.Goals as goal

pub loop-passage-init : goal.loop-passage-init
loop-passage-init c = record { passed = ([], all_left _ _ _ c.into_iter-passage-iterator.ensures.into_iter_gives c.passages-passage-items.ensures.notes, passes_none _ _ _) }

pub loop-passage-preserved : goal.loop-passage-preserved
loop-passage-preserved c =
    let k = c.loop-passage.invariant.passed in
    record { passed = (k.0 ++ _, passage_more _ k.0 _ _ _ k.1 c.in-Some.ensures.steps, passes_more _ _ k.0 _ _ _ _ k.2 c.in_ok-pass_row.ensures) }

pub returns : goal.returns
returns c =
    let k = c.loop-passage.invariant.passed in
    all_passed _ _ _ _ _ k.0 _ k.1 (no_passages _ c.in-None.ensures.steps.0) k.2
