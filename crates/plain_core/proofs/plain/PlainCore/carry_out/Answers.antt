-- A dispatch: the event's effect, the small steps, and the sweep.
use Rattle.plain_core.proofs.Keeping.{cuts_more}
use Rattle.plain_core.proofs.StepLoops.{opened_good}
use Rattle.plain_core.proofs.StepSweep.{good_kept}
use Rattle.plain_core.proofs.WholeResults.{turns_result}
use Rattle.plain_core.proofs.Wholes.{cuts_of}
use Rattle.plain_core.proofs.plain.PlainCore.carry_out.Goals as goal

pub settle-requires : goal.settle-requires
settle-requires c = opened_good c.args.self.now c.take_event.new.self _ c.take_event.new.notes _ c.requires c.in_ok-take_event.ensures.ok

pub sweep-requires-clause-good : goal.sweep-requires-clause-good
sweep-requires-clause-good c =
    good_kept c.take_event.new.self c.settle.new.self c.take_event.new.notes c.settle.new.notes
    (opened_good c.args.self.now c.take_event.new.self _ c.take_event.new.notes _ c.requires c.in_ok-take_event.ensures.ok) c.in_ok-settle.ensures.ok

pub returns-in_err-settle-clause-cut : goal.returns-in_err-settle-clause-cut
returns-in_err-settle-clause-cut c = cuts_of c.args.self.now c.take_event.new.self _ c.take_event.new.notes _ _ c.in_ok-take_event.ensures.ok c.in_err-settle.ensures.cut

pub returns-clause-ok : goal.returns-clause-ok
returns-clause-ok c =
    turns_result c.args.self.now c.take_event.new.self c.settle.new.self c.sweep.new.self _ c.take_event.new.notes c.settle.new.notes _ _ c.sweep.result c.in_ok-take_event.ensures.ok c.in_ok-settle.ensures.ok
    c.sweep.ensures.ok c.sweep.ensures.idle c.sweep.ensures.swept

pub returns-clause-cut : goal.returns-clause-cut
returns-clause-cut c =
    cuts_of c.args.self.now c.take_event.new.self _ c.take_event.new.notes _ _ c.in_ok-take_event.ensures.ok
    (cuts_more c.take_event.new.self c.settle.new.self c.take_event.new.notes c.settle.new.notes _ c.in_ok-settle.ensures.ok c.sweep.ensures.cut)
