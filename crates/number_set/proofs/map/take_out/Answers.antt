use Rattle.number_set.proofs.Entries.{first_gone}
use Rattle.number_set.proofs.map.take_out.Goals as goal
use Rattle.std.proofs.Common.{ap, sym, ◌∙◌}
use Rattle.std.specs.List.{remove}

pub returns-then-place-eq0 : goal.returns-then-place-eq0
returns-then-place-eq0 g c = c.pop_front.ensures.rest ∙ first_gone c.args.items.now.items ∙ ap (remove c.args.items.now.items) (sym c.if-place-eq0.true)
