-- Each small step keeps what the core stands for.
use Rattle.std.proofs.Common.{sym, ◌∙◌}
use Rattle.plain_core.proofs.Fronts.{cuts_keeps}
use Rattle.plain_core.proofs.Keeping.{cuts_more, keeps_more}
use Rattle.plain_core.proofs.StepLoops.{keeps_none, none_top}
use Rattle.plain_core.proofs.StepSweep.{good_kept}
use Rattle.plain_core.proofs.plain.PlainCore.settle.Goals as goal

pub loop-task-init : goal.loop-task-init
loop-task-init c = record { kept = keeps_none c.args.self.now c.args.notes.now }

pub step-requires-clause-good : goal.step-requires-clause-good
step-requires-clause-good c = good_kept c.args.self.now c.loop-task.self c.args.notes.now c.loop-task.notes c.requires c.loop-task.invariant.kept

pub returns-in_err-step-clause-cut : goal.returns-in_err-step-clause-cut
returns-in_err-step-clause-cut c =
    cuts_more c.args.self.now c.loop-task.self c.args.notes.now c.loop-task.notes c.step.new.notes c.loop-task.invariant.kept c.in_err-step.ensures.cut

pub loop-task-preserved : goal.loop-task-preserved
loop-task-preserved c = record {
  kept = keeps_more c.args.self.now c.loop-task.self c.step.new.self c.args.notes.now c.loop-task.notes c.step.new.notes c.loop-task.invariant.kept c.in_ok-step.ensures.ok;
}

pub returns-clause-cut : goal.returns-clause-cut
returns-clause-cut c = cuts_keeps c.args.self.now c.loop-task.self c.args.notes.now c.loop-task.notes c.loop-task.invariant.kept

pub returns-clause-idle : goal.returns-clause-idle
returns-clause-idle c = none_top c.loop-task.self.agenda (sym c.top.ensures ∙ c.in_default.is)
