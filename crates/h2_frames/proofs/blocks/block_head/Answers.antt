use Rattle.std.proofs.Common.{ap, length, ◌++◌, ◌∙◌}
use Rattle.h2_frames.specs.Head.{frame_head}
use Rattle.h2_frames.proofs.WholeBlocks.{whole_block}
use Rattle.h2_frames.proofs.blocks.block_head.Goals as goal

pub returns-clause-len : goal.returns-clause-len
returns-clause-len c = ap length c.frame_head.ensures

pub returns-clause-frame : goal.returns-clause-frame
returns-clause-frame c = λ block long.
    ap (λ head. head ++ block) (c.frame_head.ensures ∙ ap (λ flags. frame_head c.args.n 1 flags c.args.stream) c.flags_of_whole.ensures)
    ∙ whole_block c.args.stream c.args.n c.args.last block c.requires.few long
