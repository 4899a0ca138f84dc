-- Flow after flow is taken up.
use Rattle.std.proofs.Common.{◌++◌, ◌∷◌, [], List, ap, map, refl, ◌∙◌}
use Rattle.flow_rules.specs.declared.ids.FlowId.{FlowId}
use Rattle.tape_summary.proofs.Pausing.{all_logged, logs_more, logs_none, none_left, one_more}
use Rattle.flow_notes.specs.declared.notes.Note.TheVariants as note
use Rattle.tape_summary.proofs.pauses.PauseLog.resume_all.Goals as goal

pub loop-flow-init : goal.loop-flow-init
loop-flow-init c = record { taken = ([], refl, logs_none _) }

pub loop-flow-preserved : goal.loop-flow-preserved
loop-flow-preserved c =
    let k = c.loop-flow.invariant.taken in
    record {
      taken = (
        k.0 ++ _ ∷ [],
        one_more _ k.0 _ _ (k.1 ∙ ap (λ (v : List FlowId). k.0 ++ map (λ f. note.Resume f c.args.buffer) v) c.in-Some.ensures.cases.0),
        logs_more _ _ _ k.0 _ k.2 c.in_ok-resume.ensures,
      );
    }

pub returns : goal.returns
returns c =
    let k = c.loop-flow.invariant.taken in
    all_logged _ _ _ k.0 _ k.1 (ap (λ (v : List FlowId). map (λ f. note.Resume f c.args.buffer) v) (none_left _ c.in_default.ensures.cases)) k.2
