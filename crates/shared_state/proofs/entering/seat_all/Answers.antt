use Rattle.std.proofs.Common.{ap, ◌∙◌, arith, sym}
use Rattle.shared_state.proofs.PermitSteps.{splits}
use Rattle.shared_state.proofs.entering.seat_all.Goals as goal

pub split_seat-seat-requires : goal.split_seat-seat-requires
split_seat-seat-requires c =
    let w = c.args.permits.now.words in let lt = c.loop-test.true in let r = c.requires.seats in let is = ap (λ v. v.splits) c.loop.invariant.1 in
    (c.loop.invariant.0, omega arith, splits _ _ _ (omega arith) (ap (λ v. v.max) c.loop.invariant.1 ∙ sym c.args.permits.now.max_is))
