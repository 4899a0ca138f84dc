-- What was played and written is told.
use Rattle.io_ports.specs.Faults.{Rose}
use Rattle.relay_run.proofs.Telling.{replays_none, replays_of}
use Rattle.session_run.proofs.Running.{read_cause, replayed_by, write_cause}
use Rattle.std.proofs.Common.{[], refl}
use Rattle.tcp_relay.proofs.Promises.{keeps_promise}
use Rattle.tcp_relay.proofs.Tracked.{whole}
use Rattle.relay_run.proofs.run.run_relay.Goals as goal

pub play_all-status-requires : goal.play_all-status-requires
play_all-status-requires g c = record { run = (c.requires.0, [], [], c.new-run.ensures.run c.requires.0 (c.in-Ok-new.ensures c.requires.0 c.requires.1)) }

pub returns-clause-tape : goal.returns-clause-tape
returns-clause-tape g c = λ text configured. replays_of whole keeps_promise text _ _ _ _ _ (replayed_by _ _ text _ _ _ _ _ _ _ (c.new-run.ensures.run text (c.in-Ok-new.ensures text configured)) c.play_all-status.ensures.steps c.finish-status.ensures.finishes)

pub returns-clause-read_fault : goal.returns-clause-read_fault
returns-clause-read_fault g c = read_cause _ (Rose (g.K.Sink.faults c.args.out.now) (g.K.Sink.faults c.play_all-status.new.out)) c.play_all-status.result c.finish-status.result c.play_all-status.ensures.caused c.finish-status.ensures.same

pub returns-clause-write_fault : goal.returns-clause-write_fault
returns-clause-write_fault g c = write_cause (Rose (g.S.Source.faults c.args.session.now) (g.S.Source.faults c.play_all-status.new.session)) (g.K.Sink.faults c.args.out.now) (g.K.Sink.faults c.play_all-status.new.out)
    (g.K.Sink.faults c.finish-status.new.out) c.play_all-status.result c.finish-status.result c.play_all-status.ensures.caused c.play_all-status.ensures.out c.finish-status.ensures.out c.finish-status.ensures.cause

pub returns-in_default-clause-tape : goal.returns-in_default-clause-tape
returns-in_default-clause-tape g c = λ text configured. replays_none whole keeps_promise c.args.config.now text _ _ _ configured refl

pub returns-in_default-new-clause-tape : goal.returns-in_default-new-clause-tape
returns-in_default-new-clause-tape g c = λ text configured. replays_none whole keeps_promise c.args.config.now text _ _ _ configured refl
