use Rattle.hpack_codec.specs.Encoding.{encode_block}
use Rattle.hpack_codec.specs.Sections.{list_size}
use Rattle.h2_frames.specs.Blocks.{block_frames}
use Rattle.std.proofs.Common.{length, subst, sym, ◌≤◌}
use Rattle.wire_outlet.proofs.HeadSizes.{frame_count, greatest, within_most}
use Rattle.wire_outlet.proofs.laws.heads_fit.Goals as goal
use Rattle.wire_outlet.specs.Heads.{head_most}

pub returns-clause-most : goal.returns-clause-most
returns-clause-most c anew last stream fields =
    let block = encode_block anew fields in
    subst (λ n. n ≤ head_most (list_size fields)) (sym (c.blocks_are_whole.ensures.len stream last block))
    (within_most (length block) (length (block_frames stream last block)) (list_size fields) (frame_count stream last block) (c.block_fits.ensures anew fields))

pub returns-clause-unit : goal.returns-clause-unit
returns-clause-unit c = greatest
