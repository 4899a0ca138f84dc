use Rattle.std.proofs.Common.{◌∙◌, ap, arith}
use Rattle.shared_tokens.proofs.Moves.{sees_taken, settles}
use Rattle.shared_tokens.proofs.seats.Bucket.settle.Goals as goal

pub join_seat-requires : goal.join_seat-requires
join_seat-requires c =
    let w = c.args.self.now.words in let seat = c.args.seat in
    (c.requires.put, c.requires.seat, seat.no_slots, omega arith, settles _ _ _ _ _ _ c.args.put.now.puts seat.takes.0 seat.paid)

pub load-requires : goal.load-requires
load-requires c =
    let w = c.args.self.now.words in
    (c.join_seat.ensures.0 ∙ c.requires.put, omega arith, sees_taken _ _ _ _ _ (ap (λ m. m.0.puts) c.join_seat.ensures.2 ∙ c.args.put.now.puts))
