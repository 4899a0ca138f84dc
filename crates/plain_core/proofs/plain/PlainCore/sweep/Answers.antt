-- Each doomed stream is gone.
use Rattle.plain_core.proofs.Fronts.{cuts_keeps}
use Rattle.plain_core.proofs.StepLoops.{all_gone, cuts_same, fewer, gone_keeps, keeps_none, none_keeps}
use Rattle.plain_core.proofs.plain.PlainCore.sweep.Goals as goal

pub loop-exchange-init : goal.loop-exchange-init
loop-exchange-init c = record { kept = keeps_none c.args.self.now c.args.notes.now; idle = c.requires.idle }

pub returns-in_err-push-clause-cut : goal.returns-in_err-push-clause-cut
returns-in_err-push-clause-cut c =
    cuts_same c.args.self.now c.loop-exchange.self c.args.notes.now c.loop-exchange.notes c.push.new.self c.loop-exchange.invariant.kept c.in_err-push.ensures.err

pub loop-exchange-preserved : goal.loop-exchange-preserved
loop-exchange-preserved c = record {
  kept = gone_keeps c.args.self.now c.loop-exchange.self c.args.notes.now c.loop-exchange.notes c.push.new.self c.in-Some.exchange c.sweep.new.self c.sweep.result c.loop-exchange.invariant.kept
      c.in-Some.is c.loop-exchange.invariant.idle c.sweep.ensures c.in_ok-push.ensures.ok;
  idle = c.loop-exchange.invariant.idle;
}

pub loop-exchange-smaller : goal.loop-exchange-smaller
loop-exchange-smaller c = fewer c.in-Some.exchange c.sweep.result c.loop-exchange.self.flows c.sweep.new.self c.in-Some.is c.sweep.ensures

pub returns-clause-ok : goal.returns-clause-ok
returns-clause-ok c =
    none_keeps c.args.self.now c.loop-exchange.self c.args.notes.now c.loop-exchange.notes c.sweep.new.self c.sweep.result c.loop-exchange.invariant.kept c.in_default.is c.sweep.ensures

pub returns-clause-cut : goal.returns-clause-cut
returns-clause-cut c = cuts_keeps c.args.self.now c.loop-exchange.self c.args.notes.now c.loop-exchange.notes c.loop-exchange.invariant.kept

pub returns-clause-swept : goal.returns-clause-swept
returns-clause-swept c =
    all_gone c.args.self.now c.loop-exchange.self c.args.notes.now c.loop-exchange.notes c.sweep.new.self c.sweep.result c.requires.good c.loop-exchange.invariant.kept c.in_default.is c.sweep.ensures
