use Rattle.std.proofs.Common.{ap, ◌∙◌}
use Rattle.std.specs.Prelude.{slice_get}
use Rattle.wire_links.proofs.Calls.{next_first}
use Rattle.wire_links.proofs.Reading.{next_in}
use Rattle.number_set.specs.NumberSet.{first_above}
use Rattle.wire_links.proofs.links.Links.next_client.Goals as goal

pub returns : goal.returns
returns c = rw (← c.self.view_is) (c.copied.ensures ∙ next_first c.next.result c.range.result c.next.new.self c.next.ensures.steps ∙ ap (λ l. slice_get l 0) (c.range.ensures.between tt)
    ∙ next_in c.args.after c.self.inside.clients.keys ∙ ap (first_above c.args.after) c.self.invariant.clients)
