use Rattle.std.proofs.Common.{arith}
use Rattle.shared_tokens.proofs.Moves.{deals}
use Rattle.shared_tokens.proofs.dealing.deal_one.Goals as goal

pub split_seat-seat-requires : goal.split_seat-seat-requires
split_seat-seat-requires c =
    let w = c.args.bucket.now.words in (c.requires.put, omega arith, deals _ _ _ _ c.args.put.now.puts c.requires.left)
