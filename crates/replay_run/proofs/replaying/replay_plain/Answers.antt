-- What was played and written is told.
use Rattle.io_ports.specs.Faults.{Rose}
use Rattle.replay_run.proofs.Completing.{completes, completes_memory}
use Rattle.replay_run.proofs.Retelling.{replays_none, replays_of}
use Rattle.session_run.proofs.Running.{not_usage, other_result, read_cause, replayed_by, write_cause}
use Rattle.std.specs.Prelude.{[]}
use Rattle.replay_run.proofs.replaying.replay_plain.Goals as goal

pub returns-clause-tape : goal.returns-clause-tape
returns-clause-tape g c = replays_of [] _ _ _ _ _ (replayed_by _ _ [] _ _ _ _ _ _ _ (c.new-run.ensures.run [] c.in-Ok-new.ensures) c.play_all-status.ensures.steps c.finish-status.ensures.finishes)

pub returns-clause-completes : goal.returns-clause-completes
returns-clause-completes g c = completes _ _ _ _ _
    (other_result c.play_all-status.result c.finish-status.result
    (not_usage _ _ [] _ _ _ _ c.play_all-status.result (c.new-run.ensures.run [] c.in-Ok-new.ensures) c.play_all-status.ensures.steps) c.finish-status.ensures.same)
    (replays_of [] _ _ _ _ _ (replayed_by _ _ [] _ _ _ _ _ _ _ (c.new-run.ensures.run [] c.in-Ok-new.ensures) c.play_all-status.ensures.steps c.finish-status.ensures.finishes))

pub returns-in_default-clause-completes : goal.returns-in_default-clause-completes
returns-in_default-clause-completes g c = rw c.out_of_memory.ensures (completes_memory _)

pub returns-clause-some : goal.returns-clause-some
returns-clause-some g c = other_result c.play_all-status.result c.finish-status.result
    (not_usage _ _ [] _ _ _ _ c.play_all-status.result (c.new-run.ensures.run [] c.in-Ok-new.ensures) c.play_all-status.ensures.steps) c.finish-status.ensures.same

pub returns-in_default-clause-tape : goal.returns-in_default-clause-tape
returns-in_default-clause-tape g c = rw c.out_of_memory.ensures (replays_none _ _)

pub returns-clause-read_fault : goal.returns-clause-read_fault
returns-clause-read_fault g c = read_cause _ (Rose (g.K.Sink.faults c.args.out.now) (g.K.Sink.faults c.play_all-status.new.out)) c.play_all-status.result c.finish-status.result c.play_all-status.ensures.caused c.finish-status.ensures.same

pub returns-clause-write_fault : goal.returns-clause-write_fault
returns-clause-write_fault g c = write_cause (Rose (g.S.Source.faults c.args.session.now) (g.S.Source.faults c.play_all-status.new.session)) (g.K.Sink.faults c.args.out.now) (g.K.Sink.faults c.play_all-status.new.out)
    (g.K.Sink.faults c.finish-status.new.out) c.play_all-status.result c.finish-status.result c.play_all-status.ensures.caused c.play_all-status.ensures.out c.finish-status.ensures.out c.finish-status.ensures.cause

pub returns-in_default-new-clause-tape : goal.returns-in_default-new-clause-tape
returns-in_default-new-clause-tape g c = rw c.out_of_memory-in_default-new.ensures (replays_none _ _)

pub returns-in_default-new-clause-completes : goal.returns-in_default-new-clause-completes
returns-in_default-new-clause-completes g c = rw c.out_of_memory-in_default-new.ensures (completes_memory _)
