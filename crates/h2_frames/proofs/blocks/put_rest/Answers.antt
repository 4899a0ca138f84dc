use Rattle.std.proofs.Common.{arith, length, ◌<◌}
use Rattle.h2_frames.specs.Blocks.{continued, pieces, spellings}
use Rattle.h2_frames.proofs.Pieces.{behind_is, piece_is, piece_written}
use Rattle.h2_frames.proofs.blocks.put_rest.Goals as goal

pub loop-rest-preserved : goal.loop-rest-preserved
loop-rest-preserved c =
    let octets = c.args.octets.now in
    let rest = c.loop-rest.rest.now in
    let some : 0 < length rest = grind arith in
    let all = spellings (continued (pieces octets) c.args.stream octets) in
    piece_written c.args.stream rest c.split_at.result.0.now c.split_at.result.1.now c.loop-rest.into c.write_frame.new.into c.args.into.now all c.is_empty-in-loop-rest.result some
    (piece_is c.min.result rest c.split_at.result.0.now c.min.ensures c.split_at.ensures.front)
    (behind_is c.min.result rest c.split_at.result.1.now c.min.ensures c.split_at.ensures.back)
    c.is_empty-in-loop-rest.ensures c.loop-rest.invariant (c.in_ok-write_frame.ensures {u = tt}).ok
