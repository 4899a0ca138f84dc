use Rattle.number_set.proofs.Searching.{last_gone}
use Rattle.number_set.proofs.set.take_out.Goals as goal
use Rattle.std.proofs.Common.{ap, arith, take, ◌∙◌}
use Rattle.std.specs.Prelude.{◌-◌, ◌≡◌}
use Rattle.std.specs.Vec.{vec_len}

pub returns-then-index-len-clause-items : goal.returns-then-index-len-clause-items
returns-then-index-len-clause-items c =
    let before : vec_len c.args.items.now - 1 ≡ c.args.index = omega (arith, c.if-index-len.true, c.len.ensures) in
    c.pop.ensures.rest ∙ ap (λ n. take n c.args.items.now.items) before
    ∙ last_gone c.args.items.now.items c.args.index (omega (arith, c.if-index-len.true, c.len.ensures, c.requires, c.args.items.now.ok.0))
