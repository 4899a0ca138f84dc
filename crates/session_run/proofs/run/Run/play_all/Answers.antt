-- Steps are made until one of them ends.
use Rattle.session_run.proofs.Running.{at_most_self, at_most_more, no_step, step_more}
use Rattle.session_run.proofs.run.Run.play_all.Goals as goal

pub loop-status-init : goal.loop-status-init
loop-status-init g c = record { steps = no_step c.args.self.now _ _; session = at_most_self _; out = at_most_self _ }

pub step-requires : goal.step-requires
step-requires g c =
    let k = c.requires.run in let s = c.loop-status.invariant.steps in
    record { run = (_, _, _, s.goes k.0 k.1 k.2 k.3) }

pub loop-status-preserved : goal.loop-status-preserved
loop-status-preserved g c = record {
  steps = step_more c.args.self.now c.loop-status.self c.step.new.self _ _ _ _ _ _ _ c.loop-status.invariant.steps c.in_default.ensures.steps;
  session = at_most_more _ _ _ c.loop-status.invariant.session c.step.ensures.session;
  out = at_most_more _ _ _ c.loop-status.invariant.out c.step.ensures.out;
}

pub returns-in-Err-clause-steps : goal.returns-in-Err-clause-steps
returns-in-Err-clause-steps g c = step_more c.args.self.now c.loop-status.self c.step.new.self _ _ _ _ _ _ _ c.loop-status.invariant.steps c.in-Err.ensures.steps
