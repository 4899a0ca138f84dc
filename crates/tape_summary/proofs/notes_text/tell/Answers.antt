-- Passage after passage is told.
use Rattle.tape_summary.proofs.Pausing.{all_left}
use Rattle.tape_summary.proofs.Telling.{after_spelled, all_spelled, first_spelled, told_all, told_more, told_none}
use Rattle.tape_summary.proofs.notes_text.tell.Goals as goal

pub loop-passage-init : goal.loop-passage-init
loop-passage-init c =
    let e = all_left c.args.notes.now c.into_iter-passage-iterator.result c.passages-passage-items.result c.into_iter-passage-iterator.ensures.into_iter_gives c.passages-passage-items.ensures.notes in
    record { spelled = all_spelled c.args.names.now c.args.notes.now c.into_iter-passage-iterator.result e c.requires; told = told_none c.args.names.now c.args.notes.now c.into_iter-passage-iterator.result c.args.into.now e }

pub tell_passage-requires : goal.tell_passage-requires
tell_passage-requires c = first_spelled c.args.names.now _ _ _ c.in-Some.ensures.steps c.loop-passage.invariant.spelled

pub loop-passage-preserved : goal.loop-passage-preserved
loop-passage-preserved c = record {
  spelled = after_spelled c.args.names.now _ _ _ c.in-Some.ensures.steps c.loop-passage.invariant.spelled;
  told = told_more c.args.names.now c.args.notes.now _ _ _ c.args.into.now c.loop-passage.into c.tell_passage.new.into c.in-Some.ensures.steps c.in_ok-tell_passage.ensures.ok c.loop-passage.invariant.told;
}

pub returns-clause-ok : goal.returns-clause-ok
returns-clause-ok c = told_all c.args.names.now c.args.notes.now _ c.args.into.now c.loop-passage.into c.in-None.ensures.steps.0 c.loop-passage.invariant.told
