-- The line is written, and the core takes the event.
use Rattle.flow_notes.specs.declared.notes.Note.{Note}
use Rattle.std.proofs.Common.{arith, inr, refl, subst}
use Rattle.std.proofs.lemmas.Result.{err_from_is_err_and}
use Rattle.std.specs.Prelude.{List}
use Rattle.worker_core.specs.Sessions.{CarriesOut}
use Rattle.worker_loop.proofs.Dispatching.{line_err, may_take}
use Rattle.worker_loop.proofs.events.dispatch.Goals as goal

pub keep_line-requires : goal.keep_line-requires
keep_line-requires g c = c.requires.event

pub returns-in_err-keep_line-clause-dispatches : goal.returns-in_err-keep_line-clause-dispatches
returns-in_err-keep_line-clause-dispatches g c =
    let p = err_from_is_err_and c.from_residual.result c.from_residual.ensures.1 in
    rw (p.1, p.2) (line_err c.args.names.now c.args.event.now c.args.core.now.kind _ (g.J.Sink.contents c.args.journal.now) (g.J.Sink.contents c.keep_line.new.journal) _ c.in_err-keep_line.ensures.keeps)

pub returns-in_err-keep_line-clause-told : goal.returns-in_err-keep_line-clause-told
returns-in_err-keep_line-clause-told g c = c.keep_line.ensures.told

pub returns-in_err-keep_line-clause-cause : goal.returns-in_err-keep_line-clause-cause
returns-in_err-keep_line-clause-cause g c =
    let p = err_from_is_err_and c.from_residual.result c.from_residual.ensures.1 in
    rw (p.1, p.2) c.in_err-keep_line.ensures.cause

pub returns-in_err-keep_line-clause-no_fall : goal.returns-in_err-keep_line-clause-no_fall
returns-in_err-keep_line-clause-no_fall g c = c.keep_line.ensures.no_fall

pub dispatch-requires : goal.dispatch-requires
dispatch-requires g c = may_take c.args.core.now.kind _ c.args.event.now c.requires.core

pub returns-in-Ok-clause-dispatches : goal.returns-in-Ok-clause-dispatches
returns-in-Ok-clause-dispatches g c =
    (subst (λ (v : List Note). CarriesOut c.args.core.now.kind v c.args.event.now c.dispatch.new.self.kind c.dispatch.new.notes) c.clear.ensures c.in-Ok.ensures.ok, c.in_ok-keep_line.ensures.keeps)

pub returns-in-Ok-clause-told : goal.returns-in-Ok-clause-told
returns-in-Ok-clause-told g c = c.keep_line.ensures.told

pub returns-in-Ok-clause-cause : goal.returns-in-Ok-clause-cause
returns-in-Ok-clause-cause g c = λ e. cc

pub returns-in-Ok-clause-no_fall : goal.returns-in-Ok-clause-no_fall
returns-in-Ok-clause-no_fall g c = c.keep_line.ensures.no_fall

pub returns-in-Err-clause-dispatches : goal.returns-in-Err-clause-dispatches
returns-in-Err-clause-dispatches g c = inr c.in_ok-keep_line.ensures.keeps

pub returns-in-Err-clause-told : goal.returns-in-Err-clause-told
returns-in-Err-clause-told g c = c.keep_line.ensures.told

pub returns-in-Err-clause-cause : goal.returns-in-Err-clause-cause
returns-in-Err-clause-cause g c = λ e. cc

pub returns-in-Err-clause-no_fall : goal.returns-in-Err-clause-no_fall
returns-in-Err-clause-no_fall g c = c.keep_line.ensures.no_fall
