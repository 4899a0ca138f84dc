use Rattle.std.proofs.lemmas.Result.{on_err_weaker, on_ok_weaker}
use Rattle.h2_frames.specs.Spelling.{spelling}
use Rattle.h2_frames.specs.Frame.{Headers}
use Rattle.std.proofs.Common.{None}
use Rattle.h2_frames.proofs.Pieces.{behind_is, block_written, kept, piece_is}
use Rattle.h2_frames.proofs.blocks.put_block.Goals as goal

pub returns-clause-ok : goal.returns-clause-ok
returns-clause-ok c =
    let block = c.args.block.now in
    let front = c.split_at.result.0.now in
    let behind = c.split_at.result.1.now in
    on_ok_weaker c.put_rest.result
    (block_written c.args.stream c.args.last c.is_empty.result block front behind c.args.into.now c.write_frame.new.into c.put_rest.new.into
    (piece_is c.min.result block front c.min.ensures c.split_at.ensures.front) (behind_is c.min.result block behind c.min.ensures c.split_at.ensures.back)
    c.is_empty.ensures (c.in_ok-write_frame.ensures {u = tt}).ok) c.put_rest.ensures.ok

pub returns-clause-err : goal.returns-clause-err
returns-clause-err c =
    on_err_weaker c.put_rest.result
    (kept c.args.into.now c.write_frame.new.into c.put_rest.new.into (spelling (Headers c.args.stream c.args.last c.is_empty.result 0 None c.split_at.result.0.now)) (c.in_ok-write_frame.ensures {u = tt}).ok)
    c.put_rest.ensures.err
