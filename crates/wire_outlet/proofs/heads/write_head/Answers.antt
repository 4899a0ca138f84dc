use Rattle.std.proofs.Common.{ap, arith, drop, length, length-append, ◌++◌, ◌∙◌}
use Rattle.std.proofs.lemmas.List.{length-drop}
use Rattle.wire_outlet.proofs.heads.write_head.Goals as goal

pub write_front-requires : goal.write_front-requires
write_front-requires c = omega (arith, c.block_head-head.ensures.len, c.requires.head)

pub returns-clause-len : goal.returns-clause-len
returns-clause-len c =
    let octets = c.args.octets.now in
    let head = c.block_head-head.result in
    omega (arith, ap length c.write_front.ensures, length-append head (drop (length head) octets), length-drop (length head) octets, c.block_head-head.ensures.len, c.requires.head)

pub returns-clause-frame : goal.returns-clause-frame
returns-clause-frame c =
    let octets = c.args.octets.now in
    let head = c.block_head-head.result in
    c.write_front.ensures
    ∙ ap (λ n. head ++ drop n octets) c.block_head-head.ensures.len
    ∙ c.block_head-head.ensures.frame (drop 9 octets) (omega (arith, length-drop 9 octets))
