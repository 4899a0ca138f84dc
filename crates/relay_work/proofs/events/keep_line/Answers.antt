-- A line is written, if lines are kept.
use Rattle.flow_notes.specs.Event.{event_spelling}
use Rattle.flow_notes.specs.Line.{newline}
use Rattle.relay_work.proofs.Carried.{line_cut, unkept}
use Rattle.relay_work.specs.Dispatching.{line_of}
use Rattle.std.proofs.Common.{ap, subst, ◌∙◌}
use Rattle.std.specs.Io.KnownBytes.{Appends}
use Rattle.std.specs.Prelude.{List, ℕ, ◌++◌}
use Rattle.relay_work.proofs.events.keep_line.Goals as goal

pub returns-then-not-is_kept-clause-keeps : goal.returns-then-not-is_kept-clause-keeps
returns-then-not-is_kept-clause-keeps g c = unkept (g.J.Sink.contents c.args.journal.now) (line_of c.args.names.now c.args.event.now) (c.is_kept.ensures c.if-not-is_kept.true)

pub event_text-requires : goal.event_text-requires
event_text-requires g c = c.requires

pub returns-in-Err-clause-keeps : goal.returns-in-Err-clause-keeps
returns-in-Err-clause-keeps g c = line_cut (line_of c.args.names.now c.args.event.now) (g.J.Sink.contents c.args.journal.now) (g.J.Sink.contents c.write_all.new.out) c.as_slice.result.now
    (c.as_slice.ensures ∙ c.in-Ok.ensures.ok ∙ ap (λ (v : List ℕ). v ++ (event_spelling c.args.names.now c.args.event.now ++ newline)) c.clear.ensures) c.write_all.ensures.front

pub returns-in-Ok-write_all-clause-keeps : goal.returns-in-Ok-write_all-clause-keeps
returns-in-Ok-write_all-clause-keeps g c = subst (λ (v : List ℕ). Appends (g.J.Sink.contents c.args.journal.now) (g.J.Sink.contents c.write_all.new.out) v)
    (c.as_slice.ensures ∙ c.in-Ok.ensures.ok ∙ ap (λ (v : List ℕ). v ++ (event_spelling c.args.names.now c.args.event.now ++ newline)) c.clear.ensures) c.in-Ok-write_all.ensures.ok
