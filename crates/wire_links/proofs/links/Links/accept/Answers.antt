use Rattle.std.proofs.Common.{refl, subst, sym, ◌∙◌}
use Rattle.std.specs.Prelude.{None, ◌≡◌}
use Rattle.wire_links.proofs.Calls.{absent_is, accept_kept, come_links, come_new, kept_same, links_same, undone}
use Rattle.wire_links.proofs.links.Links.accept.Goals.{After-drop-in_default}
use Rattle.wire_links.specs.Kept.{AreKept}
use Rattle.wire_links.proofs.links.Links.accept.Goals as goal

-- there was no memory for the second step
seats_same : (c : After-drop-in_default) → c.remove.new.self.entries ≡ c.self.inside.seats.entries
seats_same c = undone c.self.inside.seats.entries c.insert.new.self.entries c.remove.new.self.entries c.args.conn c.new-seat.result (absent_is c.self.inside.seats.entries c.args.conn (rw (← c.self.view_is) at c.requires)) c.in_ok-insert.ensures.entries c.remove.ensures.entries

pub invariant_of-self-in_default : goal.invariant_of-self-in_default
invariant_of-self-in_default c = subst (AreKept c.remove.new.self.entries c.self.inside.exchanges.entries c.self.inside.offers.entries) (sym c.in_default.ensures.err)
    (kept_same c.self.inside.seats.entries c.remove.new.self.entries c.self.inside.exchanges.entries c.self.inside.exchanges.entries c.self.inside.offers.entries c.self.inside.offers.entries c.self.inside.clients.keys (seats_same c) refl refl c.self.invariant)

pub returns-in_default-clause-err : goal.returns-in_default-clause-err
returns-in_default-clause-err c = links_same c.self.inside.seats.entries c.remove.new.self.entries c.self.inside.exchanges.entries c.self.inside.exchanges.entries (seats_same c) refl ∙ c.self.view_is

pub invariant_of-self-in-Ok : goal.invariant_of-self-in-Ok
invariant_of-self-in-Ok c = accept_kept c.self.inside.seats.entries c.self.inside.exchanges.entries c.self.inside.offers.entries c.self.inside.clients.keys c.args.conn (record { kept = c.self.invariant; absent = absent_is c.self.inside.seats.entries c.args.conn (rw (← c.self.view_is) at c.requires); small = c.ranges.conn.fits }) c.insert.new.self.entries c.insert-2.new.self.keys (come_new c.self.inside.seats.entries c.insert.new.self.entries c.args.conn None c.new.result c.new-seat.result c.new.ensures c.new-seat.ensures c.in_ok-insert.ensures.entries) c.in-Ok.ensures.keys

pub returns-clause-ok : goal.returns-clause-ok
returns-clause-ok c = rw (← c.self.view_is) (come_links c.self.inside.seats.entries c.insert.new.self.entries c.self.inside.exchanges.entries c.args.conn None (come_new c.self.inside.seats.entries c.insert.new.self.entries c.args.conn None c.new.result c.new-seat.result c.new.ensures c.new-seat.ensures c.in_ok-insert.ensures.entries))
