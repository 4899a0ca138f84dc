use Rattle.std.proofs.Common.{◌∙◌, ap, arith, rules}
use Rattle.shared_tokens.proofs.Moves.{gives_back, sees_put, takes_one}
use Rattle.shared_tokens.proofs.seats.Bucket.take.Goals as goal

pub load-put-requires : goal.load-put-requires
load-put-requires c = let w = c.args.self.now.words in (c.requires.seat, omega arith, sees_put _ _ _ _ _ c.args.seat.now.takes.0)

pub fetch_add-found-requires : goal.fetch_add-found-requires
fetch_add-found-requires c =
    let w = c.args.self.now.words in let is = c.load-put.ensures.2.0 in let old = c.args.seat.now in (
      c.load-put.ensures.0 ∙ c.requires.seat,
      omega arith,
      takes_one _ _ _ _ _ (ap (λ v. v.puts) is ∙ old.takes.0) (ap (λ v. v.seats) is ∙ old.takes.1) (ap (λ v. v.owing) is ∙ old.paid),
    )

pub invariant_of-seat : goal.invariant_of-seat
invariant_of-seat c =
    let saw = c.load-put.ensures.2.0 in let seen = ap (λ v. v.seen) saw in let below = c.if-found-put.true in
    let is = c.fetch_add-found.ensures.2.0.1 (omega arith) in
    search rules

pub fetch_sub-requires : goal.fetch_sub-requires
fetch_sub-requires c =
    let w = c.args.self.now.words in let saw = c.load-put.ensures.2.0 in let seen = ap (λ v. v.seen) saw in let full = c.if-found-put.false in
    let is = c.fetch_add-found.ensures.2.0.2 (omega arith) in (
      c.fetch_add-found.ensures.0 ∙ c.load-put.ensures.0 ∙ c.requires.seat,
      omega arith,
      gives_back _ _ _ _ _ (ap (λ v. v.puts) is ∙ ap (λ v. v.puts) saw ∙ c.args.seat.now.takes.0) (ap (λ v. v.owing) is),
    )
