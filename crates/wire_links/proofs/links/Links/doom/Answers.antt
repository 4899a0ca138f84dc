use Rattle.std.proofs.Common.{refl, sym, ◌∙◌}
use Rattle.wire_links.proofs.Calls.{doom_kept, doom_seen, kept_same, rooms}
use Rattle.wire_links.proofs.Under.{remove_absent}
use Rattle.wire_links.proofs.links.Links.doom.Goals as goal

pub invariant_of-self : goal.invariant_of-self
invariant_of-self c = kept_same c.self.inside.seats.entries c.self.inside.seats.entries c.self.inside.exchanges.entries c.remove.new.self.entries c.self.inside.offers.entries c.self.inside.offers.entries c.self.inside.clients.keys refl
    (c.in_err-ends.ensures.entries ∙ remove_absent c.self.inside.exchanges.entries c.args.exchange (sym c.in_err-ends.ensures.value)) refl c.self.invariant

pub disconnect-requires : goal.disconnect-requires
disconnect-requires c = rooms c.self.inside.seats.entries c.self.inside.exchanges.entries c.self.inside.offers.entries c.self.inside.clients.keys c.self.invariant c.in_ok-ends.ends.cluster

pub invariant_of-self-2 : goal.invariant_of-self-2
invariant_of-self-2 c = doom_kept c.self.inside.seats.entries c.self.inside.exchanges.entries c.self.inside.offers.entries c.self.inside.clients.keys c.args.exchange c.in_ok-ends.ends c.self.invariant (sym c.in_ok-ends.ensures.value) c.disconnect.new.seats.entries c.leave.new.seats.entries c.disconnect.new.offers.entries c.remove.new.self.entries
    c.disconnect.ensures.seats c.disconnect.ensures.offers c.leave.ensures c.in_ok-ends.ensures.entries

pub returns-clause-gone : goal.returns-clause-gone
returns-clause-gone c = rw (← c.self.view_is) (doom_seen c.self.inside.seats.entries c.self.inside.exchanges.entries c.self.inside.offers.entries c.self.inside.clients.keys c.args.exchange c.in_ok-ends.ends c.self.invariant (sym c.in_ok-ends.ensures.value) c.disconnect.new.seats.entries c.leave.new.seats.entries c.remove.new.self.entries
    c.disconnect.ensures.seats c.leave.ensures c.in_ok-ends.ensures.entries)
