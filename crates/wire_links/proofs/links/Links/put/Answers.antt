use Rattle.std.proofs.Common.{ap, sym, ◌∙◌}
use Rattle.std.specs.BTreeMap.{is_at}
use Rattle.std.specs.Ordering.{nat_cmp}
use Rattle.std.specs.Prelude.{if◌then◌else◌}
use Rattle.std.specs.Set.{remove_key}
use Rattle.wire_links.proofs.Calls.{can_put, put_kept, put_room, put_seen, was_dead, was_live}
use Rattle.wire_links.proofs.links.Links.put.Goals as goal

pub tell-requires : goal.tell-requires
tell-requires c = put_room c.self.inside.seats.entries c.self.inside.exchanges.entries c.self.inside.offers.entries c.self.inside.clients.keys c.args.conn c.args.state (can_put c.self.inside.seats.entries c.self.inside.exchanges.entries c.self.inside.offers.entries c.self.inside.clients.keys c.self.invariant c.args.conn c.args.state (rw (← c.self.view_is) at c.requires)) c.set_conn.new.seats.entries c.set_conn.ensures

pub invariant_of-self : goal.invariant_of-self
invariant_of-self c = put_kept c.self.inside.seats.entries c.self.inside.exchanges.entries c.self.inside.offers.entries c.self.inside.clients.keys c.args.conn c.args.state (can_put c.self.inside.seats.entries c.self.inside.exchanges.entries c.self.inside.offers.entries c.self.inside.clients.keys c.self.invariant c.args.conn c.args.state (rw (← c.self.view_is) at c.requires)) c.set_conn.new.seats.entries c.tell.new.offers.entries c.remove.new.self.keys c.set_conn.ensures c.tell.ensures
    (c.remove.ensures.keys ∙ sym (ap (λ b. if b then c.self.inside.clients.keys else remove_key (is_at (nat_cmp c.args.conn)) c.self.inside.clients.keys) (was_dead c.args.state.live c.if-not-state.true)))

pub invariant_of-self-else-not-state : goal.invariant_of-self-else-not-state
invariant_of-self-else-not-state c = put_kept c.self.inside.seats.entries c.self.inside.exchanges.entries c.self.inside.offers.entries c.self.inside.clients.keys c.args.conn c.args.state (can_put c.self.inside.seats.entries c.self.inside.exchanges.entries c.self.inside.offers.entries c.self.inside.clients.keys c.self.invariant c.args.conn c.args.state (rw (← c.self.view_is) at c.requires)) c.set_conn.new.seats.entries c.tell.new.offers.entries c.self.inside.clients.keys c.set_conn.ensures c.tell.ensures
    (sym (ap (λ b. if b then c.self.inside.clients.keys else remove_key (is_at (nat_cmp c.args.conn)) c.self.inside.clients.keys) (was_live c.args.state.live c.if-not-state.false)))

pub returns-then-not-state : goal.returns-then-not-state
returns-then-not-state c = rw (← c.self.view_is) (put_seen c.self.inside.seats.entries c.set_conn.new.seats.entries c.self.inside.exchanges.entries c.args.conn c.args.state c.set_conn.ensures)

pub returns-else-not-state : goal.returns-else-not-state
returns-else-not-state c = rw (← c.self.view_is) (put_seen c.self.inside.seats.entries c.set_conn.new.seats.entries c.self.inside.exchanges.entries c.args.conn c.args.state c.set_conn.ensures)
