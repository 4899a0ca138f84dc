-- Whether a client's connection is taken.
use Rattle.shared_state.specs.PermitSeats.{view}
use Rattle.std.proofs.Common.{arith, inl, inr, refl, sym, ◌∙◌}
use Rattle.worker_loop.proofs.Keeping.{none_left}
use Rattle.worker_loop.proofs.Receiving.{asked_holds, asked_permitted, same_holds, same_permitted}
use Rattle.worker_loop.proofs.taking.admits.Goals as goal

pub returns-then-not-takes_accepts-clause-admits : goal.returns-then-not-takes_accepts-clause-admits
returns-then-not-takes_accepts-clause-admits c = inl (sym c.takes_accepts.ensures ∙ c.if-not-takes_accepts.true, (refl, refl, refl))

pub returns-then-not-takes_accepts-clause-holds : goal.returns-then-not-takes_accepts-clause-holds
returns-then-not-takes_accepts-clause-holds c = c.requires.holds

pub returns-then-not-takes_accepts-clause-permitted : goal.returns-then-not-takes_accepts-clause-permitted
returns-then-not-takes_accepts-clause-permitted c = none_left c.args.held.now (view c.args.seat.now)

pub returns-then-not-takes_accepts-clause-more : goal.returns-then-not-takes_accepts-clause-more
returns-then-not-takes_accepts-clause-more c = λ d there. inr there

pub returns-then-not-takes_accepts-clause-err : goal.returns-then-not-takes_accepts-clause-err
returns-then-not-takes_accepts-clause-err c = tt

pub enter-requires-clause-seat : goal.enter-requires-clause-seat
enter-requires-clause-seat c = c.requires.holds.is_seat

pub enter-requires-clause-none : goal.enter-requires-clause-none
enter-requires-clause-none c = c.requires.none

pub returns-in-Ok-clause-admits : goal.returns-in-Ok-clause-admits
returns-in-Ok-clause-admits c = inr (sym c.takes_accepts.ensures ∙ c.if-not-takes_accepts.false, c.in-Ok.ensures.asked)

pub returns-in-Ok-clause-holds : goal.returns-in-Ok-clause-holds
returns-in-Ok-clause-holds c = asked_holds c.args.permits.now c.args.seat.now c.enter.new.seat c.args.held.now c.enter.new.self c.enter.ensures.seat c.enter.ensures.balance c.requires.holds

pub returns-in-Ok-clause-permitted : goal.returns-in-Ok-clause-permitted
returns-in-Ok-clause-permitted c = asked_permitted c.args.conn c.args.permits.now (view c.args.seat.now) (view c.enter.new.seat) c.args.held.now c.enter.new.self c.in-Ok.taken c.enter.ensures.balance c.in-Ok.ensures.asked

pub returns-in-Ok-clause-more : goal.returns-in-Ok-clause-more
returns-in-Ok-clause-more c = c.enter.ensures.more

pub returns-in-Ok-clause-err : goal.returns-in-Ok-clause-err
returns-in-Ok-clause-err c = tt

pub returns-in-Err-clause-admits : goal.returns-in-Err-clause-admits
returns-in-Err-clause-admits c = tt

pub returns-in-Err-clause-holds : goal.returns-in-Err-clause-holds
returns-in-Err-clause-holds c = same_holds c.args.permits.now c.args.seat.now c.enter.new.seat c.args.held.now c.enter.new.self c.in-Err.ensures.err.0 c.in-Err.ensures.err.1 c.requires.holds

pub returns-in-Err-clause-permitted : goal.returns-in-Err-clause-permitted
returns-in-Err-clause-permitted c = same_permitted c.args.seat.now c.enter.new.seat c.args.held.now c.enter.new.self c.in-Err.ensures.err.0 c.in-Err.ensures.err.1

pub returns-in-Err-clause-more : goal.returns-in-Err-clause-more
returns-in-Err-clause-more c = c.enter.ensures.more

pub returns-in-Err-clause-err : goal.returns-in-Err-clause-err
returns-in-Err-clause-err c = (refl, c.in-Err.ensures.err.0, c.in-Err.ensures.err.1)
