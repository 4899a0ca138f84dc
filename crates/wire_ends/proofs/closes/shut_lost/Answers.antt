use Rattle.std.proofs.Common.{ap, refl, subst, sym, ◌∙◌}
use Rattle.std.specs.Option.{option_map_or}
use Rattle.std.specs.Prelude.{Option, false, is_some, true, ◌≡◌}
use Rattle.wire_ends.proofs.closes.shut_lost.Goals as goal
use Rattle.wire_links.specs.Links.{Links, closed, ends_of}
use Rattle.wire_state.proofs.Closes.{lost_eases}
use Rattle.wire_state.proofs.Keeping.{kept_changed}
use Rattle.wire_state.proofs.Linked.{conn_changed_known}
use Rattle.wire_state.proofs.Soundness.{conns_sound, gates_sound, links_sound}
use Rattle.wire_state.proofs.Wrote.{limit_of}
use Rattle.wire_state.specs.declared.conn.Conn.{Conn}

pub returns-in-Some-clause-sound : goal.returns-in-Some-clause-sound
returns-in-Some-clause-sound c =
    let k = c.args.core.now in
    let new = c.get_mut.follows.lender c.shut_conn.new.conn in
    let linked = links_sound k.config k.now k.links k.conns k.flows k.timers c.requires.sound c.close.new.self (λ x. ap (λ (l : Links). is_some (ends_of x l)) c.close.ensures) in
    let gated = gates_sound k.config k.now c.close.new.self k.conns k.flows k.timers linked c.shut_conn.new.flows c.shut_conn.ensures.frees.rest in
    conns_sound k.config k.now c.close.new.self k.conns c.shut_conn.new.flows k.timers gated new
    (kept_changed k.config.limits c.args.number k.conns new c.in-Some.conn.now c.shut_conn.new.conn (sym c.in-Some.ensures.value) (c.get_mut.follows.holds c.shut_conn.new.conn) c.requires.sound.kept (c.shut_conn.ensures.kept k.config.limits))

pub returns-in-Some-clause-octets : goal.returns-in-Some-clause-octets
returns-in-Some-clause-octets c =
    let k = c.args.core.now in
    lost_eases c.args.number k _ c.in-Some.conn.now c.shut_conn.new.conn (sym c.in-Some.ensures.value) (c.get_mut.follows.holds c.shut_conn.new.conn) c.shut_conn.ensures.empty (limit_of c.args.number k.config.limits k.conns c.in-Some.conn.now (sym c.in-Some.ensures.value) c.requires.sound.kept)
    c.shut_conn.ensures.frees refl c.shut_conn.ensures.closed (λ x. ap (λ (l : Links). ends_of x l) c.close.ensures) (conn_changed_known c.args.number closed k.links c.close.new.self c.close.ensures)

pub returns-in-None-clause-octets : goal.returns-in-None-clause-octets
returns-in-None-clause-octets c =
    absurd (cc (subst (λ (v : Option Conn). option_map_or (λ x. x.open) v false ≡ true) (sym c.in-None.ensures.value) c.requires.open))
