-- Passage after passage is taken up.
use Rattle.std.proofs.Common.{◌++◌, []}
use Rattle.tape_summary.proofs.Pausing.{all_left, no_passages, passage_more}
use Rattle.wire_summary.proofs.Going.{all_gone, goes_more, goes_none}
use Rattle.wire_summary.proofs.levels.Levels.note_all.Goals as goal

pub loop-passage-init : goal.loop-passage-init
loop-passage-init c = record { taken = ([], all_left _ _ _ c.into_iter-passage-iterator.ensures.into_iter_gives c.passages-passage-items.ensures.notes, goes_none _) }

pub loop-passage-preserved : goal.loop-passage-preserved
loop-passage-preserved c =
    let k = c.loop-passage.invariant.taken in
    record { taken = (k.0 ++ _, passage_more _ k.0 _ _ _ k.1 c.in-Some.ensures.steps, goes_more _ _ _ k.0 _ k.2 c.in_ok-passage.ensures) }

pub returns : goal.returns
returns c =
    let k = c.loop-passage.invariant.taken in
    all_gone _ _ _ k.0 _ k.1 (no_passages _ c.in-None.ensures.steps.0) k.2
