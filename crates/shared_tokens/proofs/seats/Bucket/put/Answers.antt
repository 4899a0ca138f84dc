use Rattle.std.proofs.Common.{◌∙◌, ap, arith}
use Rattle.shared_tokens.proofs.Moves.{puts, sees_taken}
use Rattle.shared_tokens.proofs.seats.Bucket.put.Goals as goal

pub load-found-requires : goal.load-found-requires
load-found-requires c = let w = c.args.self.now.words in (c.requires.seat, omega arith, sees_taken _ _ _ _ _ c.args.seat.now.puts)

pub fetch_add-seat-requires : goal.fetch_add-seat-requires
fetch_add-seat-requires c =
    let w = c.args.self.now.words in let burst = c.args.self.now.burst_is in let old = c.args.seat.now in let put_is = old.total_is in let small = old.small in
    let saw = c.load-found.ensures.2.0 in let total = ap (λ v. v.total) saw in let seen = ap (λ v. v.seen) saw in
    let room = c.saturating_sub-room.ensures in let most = c.min.ensures in let more = c.min-more.ensures in (
      c.load-found.ensures.0 ∙ c.requires.seat,
      omega arith,
      puts _ _ _ _ _ _ (ap (λ v. v.puts) saw ∙ old.puts) (omega arith) (λ some_put. omega arith),
    )
