use Rattle.std.proofs.Common.{All, ap, arith, rules, subst, sym}
use Rattle.std.proofs.lemmas.List.Elements.{All-push}
use Rattle.shared_tokens.specs.Seats.{IsNewSeat}
use Rattle.shared_tokens.proofs.Moves.{one_dealt}
use Rattle.shared_tokens.proofs.dealing.deal.Goals as goal

pub deal_one-seat-requires-clause-left : goal.deal_one-seat-requires-clause-left
deal_one-seat-requires-clause-left c =
    let below = c.loop-test.true in let left = ap (λ v. v.splits) c.loop.invariant.known in omega arith

pub loop-preserved : goal.loop-preserved
loop-preserved c =
    let below = c.loop-test.true in
    let known = one_dealt _ _ _ _ _ below c.loop.invariant.known c.deal_one-seat.ensures.known in
    let each = subst (All (IsNewSeat c.args.bucket.now)) (sym c.push_reserved.ensures.items) (All-push (IsNewSeat c.args.bucket.now) _ _ c.loop.invariant.each c.deal_one-seat.ensures.new) in
    search rules
