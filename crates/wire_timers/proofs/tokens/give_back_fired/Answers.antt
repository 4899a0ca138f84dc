use Rattle.std.proofs.Common.{◌≡◌, ◌+◌, drop, get_or, sym, subst}
use Rattle.link_lists.specs.Lists.{without_id}
use Rattle.scaled_timer.specs.declared.fired.Fired.{Fired}
use Rattle.scaled_timer.specs.Timing.{Timing}
use Rattle.wire_timers.specs.Held.{find_in, Spent}
use Rattle.wire_timers.proofs.Changing.{spent_by}
use Rattle.wire_timers.proofs.Spending.{spent-at, found-then, fired-then, token-spent, next-spent, never_none, others-stay}
use Rattle.wire_timers.proofs.tokens.give_back_fired.Goals as goal
use Rattle.wire_timers.proofs.tokens.give_back_fired.Goals.{in-Some, in_default}

pub take-requires : goal.take-requires
take-requires c =
    let none : Fired = record { kind = 0; id = 0 } in
    let fired = c.args.fired.now in let i = c.loop-timer.timer-index in
    (spent-at (find_in c.loop-timer.tokens) c.loop-timer.timers fired i c.loop-timer.invariant.spent none c.loop-timer-test.true).known

pub give_back-requires : goal.give_back-requires
give_back-requires c =
    let none : Fired = record { kind = 0; id = 0 } in
    let find = find_in c.loop-timer.tokens in let t = c.loop-timer.timers in let fired = c.args.fired.now in let i = c.loop-timer.timer-index in
    let first = spent-at find t fired i c.loop-timer.invariant.spent none c.loop-timer-test.true in
    spent_by c.in-Some.token t (token-spent find t (get_or fired i none) (drop (i + 1) fired) first c.in-Some.token c.in-Some.ensures.old)

pub loop-timer-preserved : goal.loop-timer-preserved
loop-timer-preserved c =
    let none : Fired = record { kind = 0; id = 0 } in
    let find = find_in c.loop-timer.tokens in let t = c.loop-timer.timers in let fired = c.args.fired.now in let i = c.loop-timer.timer-index in
    let new = find_in c.take.new.self in let f = get_or fired i none in let rest = drop (i + 1) fired in
    let first = spent-at find t fired i c.loop-timer.invariant.spent none c.loop-timer-test.true in
    elim c.match-take.branch [
      | in-Some w ↦
          let p = w.in-Some.token in let e = w.in-Some.ensures.old in
          let back = w.give_back.ensures.fired (token-spent find t f rest first p e) in
          record {
            spent = subst (λ (s : Timing). Spent new s rest) (sym w.timers-is) (next-spent find t f rest first p e new w.give_back.new.timers w.in-Some.ensures.new back);
            others = subst (λ (s : Timing). s ≡ record c.args.timers.now { fired = s.fired }) (sym w.timers-is) (others-stay c.args.timers.now t w.give_back.new.timers (without_id p t.fired) c.loop-timer.invariant.others back);
          }
      | in_default w ↦ absurd (never_none find t f rest first w.in_default.ensures.old)
    ]

pub returns-clause-found : goal.returns-clause-found
returns-clause-found c = found-then (find_in c.loop-timer.tokens) c.loop-timer.timers c.args.fired.now c.loop-timer.timer-index c.loop-timer.invariant.spent c.loop-timer-test.false

pub returns-clause-timers : goal.returns-clause-timers
returns-clause-timers c = fired-then (find_in c.loop-timer.tokens) c.loop-timer.timers c.args.fired.now c.loop-timer.timer-index c.loop-timer.invariant.spent c.args.timers.now c.loop-timer-test.false c.loop-timer.invariant.others
