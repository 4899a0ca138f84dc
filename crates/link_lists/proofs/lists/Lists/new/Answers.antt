use Rattle.std.proofs.Common.{◌≡◌, [], ◌∙◌, arith}
use Rattle.std.specs.Prelude.{replicate}
use Rattle.link_lists.proofs.Stored.{shows, steady, empty-stored}
use Rattle.link_lists.proofs.lists.Lists.new.Goals as goal

pub invariant_of-result : goal.invariant_of-result
invariant_of-result g c =
    let all : c.loop.counter ≡ c.args.k = omega arith in
    steady c.loop.rings (record { lists = replicate c.args.k []; retired = [] }) (c.loop.invariant ∙ empty-stored _ c.args.k c.loop.counter all)

pub returns : goal.returns
returns g c =
    let all : c.loop.counter ≡ c.args.k = omega arith in
    shows c.loop.rings (record { lists = replicate c.args.k []; retired = [] }) (c.loop.invariant ∙ empty-stored _ c.args.k c.loop.counter all)
