-- What was played and written is told.
use Rattle.io_ports.specs.Faults.{Rose}
use Rattle.session_run.proofs.Running.{not_usage, other_result, read_cause, replayed_by, write_cause}
use Rattle.std.specs.Prelude.{[]}
use Rattle.shed_run.proofs.Completing.{completes, completes_memory}
use Rattle.shed_run.proofs.Retelling.{runs_none, runs_of}
use Rattle.wire_run.proofs.Retelling.{not_config, other_config}
use Rattle.shed_run.proofs.run.run_shed.Goals as goal

pub play_all-status-requires : goal.play_all-status-requires
play_all-status-requires g c =
    let t = c.requires.configured in
    record { run = (t.0, [], [], c.new-run.ensures.run t.0 (c.in-Ok-new.ensures t.0 t.1)) }

pub returns-clause-usage : goal.returns-clause-usage
returns-clause-usage g c =
    let t = c.requires.configured in
    other_result c.play_all-status.result c.finish-status.result (not_usage _ _ t.0 _ _ _ _ c.play_all-status.result (c.new-run.ensures.run t.0 (c.in-Ok-new.ensures t.0 t.1)) c.play_all-status.ensures.steps) c.finish-status.ensures.same

pub returns-clause-refused : goal.returns-clause-refused
returns-clause-refused g c =
    let t = c.requires.configured in
    other_config c.play_all-status.result c.finish-status.result (not_config _ _ t.0 _ _ _ _ c.play_all-status.result (c.new-run.ensures.run t.0 (c.in-Ok-new.ensures t.0 t.1)) c.play_all-status.ensures.steps) c.finish-status.ensures.same

pub returns-clause-tape : goal.returns-clause-tape
returns-clause-tape g c = λ text e. runs_of text _ _ _ _ _ (replayed_by _ _ text _ _ _ _ _ _ _ (c.new-run.ensures.run text (c.in-Ok-new.ensures text e)) c.play_all-status.ensures.steps c.finish-status.ensures.finishes)

pub returns-clause-completes : goal.returns-clause-completes
returns-clause-completes g c = λ text e.
    let begun = c.new-run.ensures.run text (c.in-Ok-new.ensures text e) in
    completes c.args.config text _ _ _ _ _ e
    (other_result c.play_all-status.result c.finish-status.result (not_usage _ _ text _ _ _ _ c.play_all-status.result begun c.play_all-status.ensures.steps) c.finish-status.ensures.same)
    (other_config c.play_all-status.result c.finish-status.result (not_config _ _ text _ _ _ _ c.play_all-status.result begun c.play_all-status.ensures.steps) c.finish-status.ensures.same)
    (replayed_by _ _ text _ _ _ _ _ _ _ begun c.play_all-status.ensures.steps c.finish-status.ensures.finishes)

pub returns-clause-read_fault : goal.returns-clause-read_fault
returns-clause-read_fault g c = read_cause _ (Rose (g.K.Sink.faults c.args.out.now) (g.K.Sink.faults c.play_all-status.new.out)) c.play_all-status.result c.finish-status.result c.play_all-status.ensures.caused c.finish-status.ensures.same

pub returns-clause-write_fault : goal.returns-clause-write_fault
returns-clause-write_fault g c = write_cause (Rose (g.S.Source.faults c.args.session.now) (g.S.Source.faults c.play_all-status.new.session)) (g.K.Sink.faults c.args.out.now) (g.K.Sink.faults c.play_all-status.new.out)
    (g.K.Sink.faults c.finish-status.new.out) c.play_all-status.result c.finish-status.result c.play_all-status.ensures.caused c.play_all-status.ensures.out c.finish-status.ensures.out c.finish-status.ensures.cause

pub returns-in_default-clause-tape : goal.returns-in_default-clause-tape
returns-in_default-clause-tape g c = λ text e. runs_none c.args.config text _ _ _ c.out_of_memory.ensures e

pub returns-in_default-clause-completes : goal.returns-in_default-clause-completes
returns-in_default-clause-completes g c = λ text e. completes_memory c.args.config _ _ c.out_of_memory.ensures

pub returns-in_default-new-clause-tape : goal.returns-in_default-new-clause-tape
returns-in_default-new-clause-tape g c = λ text e. runs_none c.args.config text _ _ _ c.out_of_memory-in_default-new.ensures e

pub returns-in_default-new-clause-completes : goal.returns-in_default-new-clause-completes
returns-in_default-new-clause-completes g c = λ text e. completes_memory c.args.config _ _ c.out_of_memory-in_default-new.ensures
