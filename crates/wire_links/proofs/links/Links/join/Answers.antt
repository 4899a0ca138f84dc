use Rattle.std.proofs.Common.{subst}
use Rattle.std.specs.Prelude.{Some, ◌+◌, ◌≤◌}
use Rattle.wire_links.proofs.Calls.{absent_is, come_links, come_new, join_kept, join_rooms}
use Rattle.wire_links.specs.Kept.{room_at}
use Rattle.wire_links.proofs.links.Links.join.Goals as goal

pub tell-requires : goal.tell-requires
tell-requires c = join_rooms c.self.inside.seats.entries c.self.inside.exchanges.entries c.self.inside.offers.entries c.make_room.new.offers.entries c.self.inside.clients.keys c.args.conn c.args.cluster c.self.invariant (absent_is c.self.inside.seats.entries c.args.conn (rw (← c.self.view_is) at c.requires)) c.ranges.conn.fits c.make_room.ensures.items c.make_room.ensures.more (subst (λ n. n + 1 ≤ room_at c.args.cluster c.make_room.new.offers.entries) c.len.ensures.len c.in_ok-make_room.ensures.room) c.insert.new.self.entries (come_new c.self.inside.seats.entries c.insert.new.self.entries c.args.conn (Some c.args.cluster) c.new.result c.new-seat.result c.new.ensures c.new-seat.ensures c.in_ok-insert.ensures.entries)

pub invariant_of-self-2 : goal.invariant_of-self-2
invariant_of-self-2 c = join_kept c.self.inside.seats.entries c.self.inside.exchanges.entries c.self.inside.offers.entries c.make_room.new.offers.entries c.self.inside.clients.keys c.args.conn c.args.cluster c.self.invariant (absent_is c.self.inside.seats.entries c.args.conn (rw (← c.self.view_is) at c.requires)) c.ranges.conn.fits c.make_room.ensures.items c.make_room.ensures.more (subst (λ n. n + 1 ≤ room_at c.args.cluster c.make_room.new.offers.entries) c.len.ensures.len c.in_ok-make_room.ensures.room) c.insert.new.self.entries (come_new c.self.inside.seats.entries c.insert.new.self.entries c.args.conn (Some c.args.cluster) c.new.result c.new-seat.result c.new.ensures c.new-seat.ensures c.in_ok-insert.ensures.entries) c.tell.new.offers.entries c.tell.ensures

pub returns-clause-ok : goal.returns-clause-ok
returns-clause-ok c = rw (← c.self.view_is) (come_links c.self.inside.seats.entries c.insert.new.self.entries c.self.inside.exchanges.entries c.args.conn (Some c.args.cluster) (come_new c.self.inside.seats.entries c.insert.new.self.entries c.args.conn (Some c.args.cluster) c.new.result c.new-seat.result c.new.ensures c.new-seat.ensures c.in_ok-insert.ensures.entries))
