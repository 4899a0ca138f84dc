use Rattle.std.proofs.Common.{ap, arith, sym, ◌∙◌}
use Rattle.std.specs.Option.{option_map_or}
use Rattle.std.specs.Prelude.{Some, [], ◌≡◌}
use Rattle.wire_links.proofs.Reading.{chosen_found, chosen_member, chosen_small, chosen_takes, links_at}
use Rattle.wire_links.proofs.links.Links.choose.Goals.{In_ok-earliest}
use Rattle.wire_links.specs.Links.{chosen}
use Rattle.number_set.specs.NumberSet.{NumberSet, first}
use Rattle.wire_links.proofs.links.Links.choose.Goals as goal

found : (c : In_ok-earliest) → chosen c.args.cluster (links_at c.self.inside.seats.entries c.self.inside.exchanges.entries) ≡ Some c.in_ok-earliest.earliest
found c = sym (chosen_found c.self.inside.seats.entries c.self.inside.exchanges.entries c.self.inside.offers.entries c.self.inside.clients.keys c.self.invariant c.args.cluster)
    ∙ sym (ap (λ o. first (option_map_or (λ (n : NumberSet). n.items) o [])) c.in_ok-get.ensures.value) ∙ sym c.first.ensures ∙ c.in_ok-earliest.was

pub overflow_cast-result : goal.overflow_cast-result
overflow_cast-result c = omega (arith, chosen_small c.self.inside.seats.entries c.self.inside.exchanges.entries c.self.inside.offers.entries c.self.inside.clients.keys c.self.invariant c.args.cluster c.in_ok-earliest.earliest (found c))

pub returns-clause-takes : goal.returns-clause-takes
returns-clause-takes c = rw (← c.self.view_is) (chosen_takes c.self.inside.seats.entries c.self.inside.exchanges.entries c.self.inside.offers.entries c.self.inside.clients.keys c.self.invariant c.args.cluster c.in_ok-earliest.earliest (found c))

pub returns-clause-member : goal.returns-clause-member
returns-clause-member c = rw (← c.self.view_is) (chosen_member c.self.inside.seats.entries c.self.inside.exchanges.entries c.self.inside.offers.entries c.self.inside.clients.keys c.self.invariant c.args.cluster c.in_ok-earliest.earliest (found c))
