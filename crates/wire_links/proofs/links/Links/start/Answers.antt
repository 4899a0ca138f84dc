use Rattle.std.proofs.Common.{refl, ◌∙◌}
use Rattle.std.specs.Prelude.{◌≡◌}
use Rattle.wire_links.proofs.Calls.{err_of, kept_same, links_same, start_kept, start_rooms, start_seen, start_undone, undone}
use Rattle.wire_links.proofs.links.Links.start.Goals.{After-remove, After-remove-in_default-connect}
use Rattle.wire_links.proofs.links.Links.start.Goals as goal

-- ---- there was no memory for the stream
same_exchanges : (c : After-remove) → c.remove.new.self.entries ≡ c.self.inside.exchanges.entries
same_exchanges c = undone c.self.inside.exchanges.entries c.insert.new.self.entries c.remove.new.self.entries c.args.exchange _ (rw (← c.self.view_is) at c.requires.new_one) c.in_ok-insert.ensures.entries c.remove.ensures.entries

pub invariant_of-self-in_default : goal.invariant_of-self-in_default
invariant_of-self-in_default c = kept_same c.self.inside.seats.entries c.open.new.seats.entries c.self.inside.exchanges.entries c.remove.new.self.entries c.self.inside.offers.entries c.self.inside.offers.entries c.self.inside.clients.keys
    (err_of c.open.result c.in_default.not-Ok c.open.ensures.err) (same_exchanges c) refl c.self.invariant

pub returns-in_default-clause-err : goal.returns-in_default-clause-err
returns-in_default-clause-err c = links_same c.self.inside.seats.entries c.open.new.seats.entries c.self.inside.exchanges.entries c.remove.new.self.entries (err_of c.open.result c.in_default.not-Ok c.open.ensures.err) (same_exchanges c) ∙ c.self.view_is

-- ---- nor for the connection of the cluster
pub connect-requires : goal.connect-requires
connect-requires c = start_rooms c.self.inside.seats.entries c.self.inside.exchanges.entries c.self.inside.offers.entries c.self.inside.clients.keys c.args.exchange c.args.conn c.args.stream c.self.invariant (rw (← c.self.view_is) at c.requires.new_one) (rw (← c.self.view_is) at c.requires.client) (rw (← c.self.view_is) at c.requires.unused) c.open.new.seats.entries c.in-Ok.ensures.ok c.args.to

same_after : (c : After-remove-in_default-connect) → c.remove-in_default-connect.new.self.entries ≡ c.self.inside.exchanges.entries
same_after c = undone c.self.inside.exchanges.entries c.insert.new.self.entries c.remove-in_default-connect.new.self.entries c.args.exchange _ (rw (← c.self.view_is) at c.requires.new_one) c.in_ok-insert.ensures.entries c.remove-in_default-connect.ensures.entries

same_seats : (c : After-remove-in_default-connect) → c.leave.new.seats.entries ≡ c.self.inside.seats.entries
same_seats c = start_undone c.self.inside.seats.entries c.self.inside.exchanges.entries c.self.inside.offers.entries c.self.inside.clients.keys c.args.exchange c.args.conn c.args.stream c.self.invariant (rw (← c.self.view_is) at c.requires.new_one) (rw (← c.self.view_is) at c.requires.client) (rw (← c.self.view_is) at c.requires.unused) c.open.new.seats.entries c.connect.new.seats.entries c.leave.new.seats.entries c.in-Ok.ensures.ok (err_of c.connect.result c.in_default-connect.not-Ok c.connect.ensures.err) c.leave.ensures

pub invariant_of-self-in_default-connect : goal.invariant_of-self-in_default-connect
invariant_of-self-in_default-connect c = kept_same c.self.inside.seats.entries c.leave.new.seats.entries c.self.inside.exchanges.entries c.remove-in_default-connect.new.self.entries c.self.inside.offers.entries c.connect.new.offers.entries c.self.inside.clients.keys
    (same_seats c) (same_after c) (err_of c.connect.result c.in_default-connect.not-Ok c.connect.ensures.untold) c.self.invariant

pub returns-in_default-connect-clause-err : goal.returns-in_default-connect-clause-err
returns-in_default-connect-clause-err c = links_same c.self.inside.seats.entries c.leave.new.seats.entries c.self.inside.exchanges.entries c.remove-in_default-connect.new.self.entries (same_seats c) (same_after c) ∙ c.self.view_is

-- ---- it began
pub invariant_of-self-in-Ok-connect : goal.invariant_of-self-in-Ok-connect
invariant_of-self-in-Ok-connect c = start_kept c.self.inside.seats.entries c.self.inside.exchanges.entries c.self.inside.offers.entries c.self.inside.clients.keys c.args.exchange c.args.conn c.args.stream c.self.invariant (rw (← c.self.view_is) at c.requires.new_one) (rw (← c.self.view_is) at c.requires.client) (rw (← c.self.view_is) at c.requires.unused) c.args.to (rw (← c.self.view_is) at c.requires.cluster) c.open.new.seats.entries c.connect.new.seats.entries c.connect.new.offers.entries c.insert.new.self.entries
    c.in-Ok.ensures.ok c.in-Ok-connect.ensures.seats c.in-Ok-connect.ensures.offers c.in_ok-insert.ensures.entries

pub returns-clause-ok : goal.returns-clause-ok
returns-clause-ok c = rw (← c.self.view_is) (start_seen c.self.inside.seats.entries c.self.inside.exchanges.entries c.self.inside.offers.entries c.self.inside.clients.keys c.args.exchange c.args.conn c.args.stream c.self.invariant (rw (← c.self.view_is) at c.requires.new_one) (rw (← c.self.view_is) at c.requires.client) (rw (← c.self.view_is) at c.requires.unused) c.args.to c.open.new.seats.entries c.connect.new.seats.entries c.insert.new.self.entries c.in-Ok.ensures.ok c.in-Ok-connect.ensures.seats c.in_ok-insert.ensures.entries)
