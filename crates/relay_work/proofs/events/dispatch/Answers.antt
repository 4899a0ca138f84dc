-- The line is written, and the relay takes the event.
use Rattle.relay_work.proofs.Carried.{err_again, never_paused, takes_err, takes_memory, takes_ok, well}
use Rattle.relay_work.specs.declared.turns.RelayEnded.TheVariants as ended
use Rattle.std.proofs.Common.{ap, ◌∙◌}
use Rattle.std.proofs.lemmas.Result.{err_from_is_err_and}
use Rattle.std.specs.Prelude.{Err}
use Rattle.tcp_relay.specs.Turns.{turn_notes}
use Rattle.tcp_relay.specs.declared.fault.RelayFault.{RelayFault}
use Rattle.tcp_relay.specs.declared.interests.Interests.{Interests}
use Rattle.relay_work.proofs.events.dispatch.Goals as goal

pub keep_line-requires : goal.keep_line-requires
keep_line-requires g c = c.requires.takes.may.0

pub returns-in_err-keep_line-clause-takes : goal.returns-in_err-keep_line-clause-takes
returns-in_err-keep_line-clause-takes g c =
    let p = err_from_is_err_and c.from_residual.result c.from_residual.ensures.1 in
    rw (p.1, p.2) (takes_err _ _ _ _ _ _ c.in_err-keep_line.ensures.keeps)

pub returns-in_err-keep_line-clause-cause : goal.returns-in_err-keep_line-clause-cause
returns-in_err-keep_line-clause-cause g c =
    let p = err_from_is_err_and c.from_residual.result c.from_residual.ensures.1 in
    rw (p.1, p.2) (λ q. c.in_err-keep_line.ensures.cause (err_again {T = Interests} {U = Unit {0}} _ ended.JournalFault q))

pub returns-in_err-keep_line-clause-no_fall : goal.returns-in_err-keep_line-clause-no_fall
returns-in_err-keep_line-clause-no_fall g c = c.keep_line.ensures.no_fall

pub unreachable-requires : goal.unreachable-requires
unreachable-requires g c = never_paused c.args.names.now c.args.relay.now (g.J.Sink.contents c.args.journal.now) (g.J.Sink.contents c.keep_line.new.journal) c.args.event.now c.carry_out.new.self (turn_notes c.args.relay.now c.args.event.now) c.carry_out.result c.in-Err-Paused.field-0-0 c.requires c.carry_out.ensures.paused
    (c.in-Err-Paused.is ∙ ap (λ (x : RelayFault). Err x) c.in-Err-Paused.field-0-is)

pub unreachable-unreachable : goal.unreachable-unreachable
unreachable-unreachable g c = never_paused c.args.names.now c.args.relay.now (g.J.Sink.contents c.args.journal.now) (g.J.Sink.contents c.keep_line.new.journal) c.args.event.now c.carry_out.new.self (turn_notes c.args.relay.now c.args.event.now) c.carry_out.result c.in-Err-Paused.field-0-0 c.requires c.carry_out.ensures.paused
    (c.in-Err-Paused.is ∙ ap (λ (x : RelayFault). Err x) c.in-Err-Paused.field-0-is)

pub unreachable-requires-in-Err-Failed : goal.unreachable-requires-in-Err-Failed
unreachable-requires-in-Err-Failed g c = c.carry_out.ensures.well (well c.args.names.now c.args.relay.now c.args.event.now c.requires)
    (c.in-Err-Failed.is ∙ ap (λ (x : RelayFault). Err x) c.in-Err-Failed.field-0-is)

pub unreachable-unreachable-in-Err-Failed : goal.unreachable-unreachable-in-Err-Failed
unreachable-unreachable-in-Err-Failed g c = c.carry_out.ensures.well (well c.args.names.now c.args.relay.now c.args.event.now c.requires)
    (c.in-Err-Failed.is ∙ ap (λ (x : RelayFault). Err x) c.in-Err-Failed.field-0-is)

pub returns-in-Ok-clause-takes : goal.returns-in-Ok-clause-takes
returns-in-Ok-clause-takes g c = takes_ok c.args.names.now c.args.relay.now (g.J.Sink.contents c.args.journal.now) (g.J.Sink.contents c.keep_line.new.journal) c.args.event.now c.carry_out.new.self (turn_notes c.args.relay.now c.args.event.now) c.in-Ok.interests c.in-Ok.ensures.ok c.in-Ok.ensures.interests c.in_ok-keep_line.ensures.keeps

pub returns-in-Ok-clause-cause : goal.returns-in-Ok-clause-cause
returns-in-Ok-clause-cause g c = λ e. cc

pub returns-in-Ok-clause-no_fall : goal.returns-in-Ok-clause-no_fall
returns-in-Ok-clause-no_fall g c = c.keep_line.ensures.no_fall

pub returns-in-Err-NoMemory-clause-takes : goal.returns-in-Err-NoMemory-clause-takes
returns-in-Err-NoMemory-clause-takes g c = takes_memory c.args.names.now c.args.relay.now (g.J.Sink.contents c.args.journal.now) (g.J.Sink.contents c.keep_line.new.journal) c.args.event.now c.carry_out.new.self (turn_notes c.args.relay.now c.args.event.now) c.in_ok-keep_line.ensures.keeps

pub returns-in-Err-NoMemory-clause-cause : goal.returns-in-Err-NoMemory-clause-cause
returns-in-Err-NoMemory-clause-cause g c = λ e. cc

pub returns-in-Err-NoMemory-clause-no_fall : goal.returns-in-Err-NoMemory-clause-no_fall
returns-in-Err-NoMemory-clause-no_fall g c = c.keep_line.ensures.no_fall
