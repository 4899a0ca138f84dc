-- Line after line is told.
use Rattle.flow_notes.specs.Flow.{flow_word}
use Rattle.tape_summary.proofs.Telling.{row_more, pause_spelled}
use Rattle.tape_summary.proofs.notes_text.tell_pauses.Goals as goal
use Rattle.std.proofs.Common.{List, [], ap, codes, ◌++◌, ◌∙◌, ℕ}
use Rattle.flow_notes.specs.declared.notes.Note.TheVariants as note

pub loop-flow-preserved : goal.loop-flow-preserved
loop-flow-preserved c = record {
  told = row_more [] (λ f. note.Pause f c.args.buffer) c.args.flows.now _ _ c.in-Some.flow.now _ c.args.into.now c.loop-flow.into c.put_crossing.new.into c.in-Some.ensures.cases.0
      (ap (λ (v : List ℕ). codes "pause " ++ (flow_word c.in-Some.flow.now ++ v)) c.of_buffer-end.ensures.text ∙ pause_spelled [] c.in-Some.flow.now c.args.buffer)
      c.in_ok-put_crossing.ensures.ok c.loop-flow.invariant.told;
}
