-- The line of an event is written, or a front of it, if lines are kept.
use Rattle.flow_notes.specs.Event.{event_spelling}
use Rattle.flow_notes.specs.Line.{newline}
use Rattle.std.proofs.Common.{ap, arith, refl, ◌∙◌}
use Rattle.std.specs.Prelude.{List, ℕ, ◌++◌}
use Rattle.worker_loop.proofs.Dispatching.{keeps_as, tick_as, tick_moment, unkept}
use Rattle.worker_loop.specs.Places.{event_line}
use Rattle.worker_loop.proofs.events.keep_line.Goals as goal

pub returns-then-not-is_kept-clause-keeps : goal.returns-then-not-is_kept-clause-keeps
returns-then-not-is_kept-clause-keeps g c = unkept (event_line c.args.names.now c.args.event.now) (g.J.Sink.contents c.args.journal.now) (c.is_kept.ensures c.if-not-is_kept.true)

pub returns-then-not-is_kept-clause-told : goal.returns-then-not-is_kept-clause-told
returns-then-not-is_kept-clause-told g c = refl

pub returns-then-not-is_kept-clause-cause : goal.returns-then-not-is_kept-clause-cause
returns-then-not-is_kept-clause-cause g c = λ e. cc

pub returns-then-not-is_kept-clause-no_fall : goal.returns-then-not-is_kept-clause-no_fall
returns-then-not-is_kept-clause-no_fall g c = omega arith

pub spell-requires : goal.spell-requires
spell-requires g c = omega (arith, tick_moment c.args.names.now c.args.event.now c.in-Tick.now c.in-Tick.is c.requires)

pub returns-in_default-spell-clause-keeps : goal.returns-in_default-spell-clause-keeps
returns-in_default-spell-clause-keeps g c = refl

pub returns-in_default-spell-clause-told : goal.returns-in_default-spell-clause-told
returns-in_default-spell-clause-told g c = refl

pub returns-in_default-spell-clause-cause : goal.returns-in_default-spell-clause-cause
returns-in_default-spell-clause-cause g c = λ e. cc

pub returns-in_default-spell-clause-no_fall : goal.returns-in_default-spell-clause-no_fall
returns-in_default-spell-clause-no_fall g c = omega arith

pub returns-in-Tick-clause-keeps : goal.returns-in-Tick-clause-keeps
returns-in-Tick-clause-keeps g c =
    keeps_as (event_line c.args.names.now c.args.event.now) c.as_slice.result.now (g.J.Sink.contents c.args.journal.now) (g.J.Sink.contents c.put.new.journal) c.put.result
    (c.as_slice.ensures ∙ c.in-Ok.ensures ∙ tick_as c.args.names.now c.args.event.now c.in-Tick.now c.in-Tick.is) c.put.ensures.keeps

pub returns-in-Tick-clause-told : goal.returns-in-Tick-clause-told
returns-in-Tick-clause-told g c = c.put.ensures.told

pub returns-in-Tick-clause-cause : goal.returns-in-Tick-clause-cause
returns-in-Tick-clause-cause g c = c.put.ensures.cause

pub returns-in-Tick-clause-no_fall : goal.returns-in-Tick-clause-no_fall
returns-in-Tick-clause-no_fall g c = c.put.ensures.no_fall

pub event_text-requires : goal.event_text-requires
event_text-requires g c = c.requires

pub returns-in_default-event_text : goal.returns-in_default-event_text
returns-in_default-event_text g c = record { keeps = refl; told = refl; cause = λ e. cc; no_fall = omega arith }

pub returns : goal.returns
returns g c = record {
  keeps = keeps_as (event_line c.args.names.now c.args.event.now) c.as_slice-2.result.now (g.J.Sink.contents c.args.journal.now) (g.J.Sink.contents c.put-2.new.journal) c.put-2.result
      (c.as_slice-2.ensures ∙ c.in-Ok-event_text.ensures.ok ∙ ap (λ (v : List ℕ). v ++ (event_spelling c.args.names.now c.args.event.now ++ newline)) c.clear.ensures) c.put-2.ensures.keeps;
  told = c.put-2.ensures.told;
  cause = c.put-2.ensures.cause;
  no_fall = c.put-2.ensures.no_fall;
}
