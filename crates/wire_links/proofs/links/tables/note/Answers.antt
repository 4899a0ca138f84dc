use Rattle.std.proofs.Common.{ap, sym, ◌∙◌}
use Rattle.wire_links.proofs.Written.{nothing, room_of, same_numbers, written}
use Rattle.wire_links.specs.Kept.{noted}
use Rattle.number_set.specs.NumberSet.{has, marked}
use Rattle.wire_links.proofs.links.tables.note.Goals as goal

pub returns-in-Some : goal.returns-in-Some
returns-in-Some c = written c.args.cluster c.args.offers.now.entries _ (noted c.args.conn c.args.takes) c.in-Some.numbers.now c.mark.new.self c.in-Some.ensures.value (same_numbers c.mark.new.self (noted c.args.conn c.args.takes c.in-Some.numbers.now) (c.mark.ensures.items ∙ ap (λ n. marked n c.args.takes c.in-Some.numbers.now.items) c.from.ensures) c.mark.ensures.room) (c.get_mut.follows.holds c.mark.new.self).0

pub returns-in_default : goal.returns-in_default
returns-in_default c = nothing c.args.cluster c.args.offers.now.entries _ (noted c.args.conn c.args.takes) c.in_default.ensures.value (λ i. (c.get_mut.follows.holds-at-none i).entries)

pub mark-requires : goal.mark-requires
mark-requires c = λ _ absent. room_of c.args.cluster c.args.conn c.args.offers.now.entries c.in-Some.numbers.now c.in-Some.ensures.value c.requires (ap (has c.in-Some.numbers.now.items) (sym c.from.ensures) ∙ absent)
