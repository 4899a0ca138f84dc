use Rattle.paged_map.specs.PagedMap.{PagedMap}
use Rattle.std.proofs.Common.{ap, refl, subst, sym}
use Rattle.std.specs.Option.{option_map_or}
use Rattle.std.specs.Prelude.{Option, false, ◌≡◌}
use Rattle.wire_ends.proofs.closes.lose_rest.Goals as goal
use Rattle.wire_state.proofs.Closes.{gone_eases, rest_eases}
use Rattle.wire_state.proofs.Goings.{told_at}
use Rattle.wire_state.proofs.Keeping.{kept_changed}
use Rattle.wire_state.proofs.Soundness.{conns_sound, gates_sound}
use Rattle.wire_state.proofs.Wrote.{limit_of}
use Rattle.wire_state.specs.declared.conn.Conn.{Conn}

pub returns-in-Some-clause-sound : goal.returns-in-Some-clause-sound
returns-in-Some-clause-sound c =
    let k = c.args.core.now in
    let new = c.get_mut.follows.lender c.drop_octets.new.self in
    let gated = gates_sound k.config k.now k.links k.conns k.flows k.timers c.requires.sound c.drop_octets.new.flows c.drop_octets.ensures.frees.rest in
    conns_sound k.config k.now k.links k.conns c.drop_octets.new.flows k.timers gated new
    (kept_changed k.config.limits c.args.number k.conns new c.in-Some.conn.now c.drop_octets.new.self (sym c.in-Some.ensures.value) (c.get_mut.follows.holds c.drop_octets.new.self) c.requires.sound.kept (c.drop_octets.ensures.kept k.config.limits))

pub returns-in-Some-clause-octets : goal.returns-in-Some-clause-octets
returns-in-Some-clause-octets c = λ t.
    let k = c.args.core.now in
    let shut : c.in-Some.conn.now.open ≡ false = subst (λ (v : Option Conn). option_map_or (λ x. x.open) v false ≡ false) (sym c.in-Some.ensures.value) c.requires.closed in
    rest_eases c.args.number k _ c.in-Some.conn.now c.drop_octets.new.self (sym c.in-Some.ensures.value) (c.get_mut.follows.holds c.drop_octets.new.self) c.drop_octets.ensures.empty (limit_of c.args.number k.config.limits k.conns c.in-Some.conn.now (sym c.in-Some.ensures.value) c.requires.sound.kept)
    c.drop_octets.ensures.frees refl t shut (ap (λ (v : Conn). v.open) c.drop_octets.ensures.rest) refl

pub returns-in-None-clause-octets : goal.returns-in-None-clause-octets
returns-in-None-clause-octets c = λ t. record {
  goes = λ h g start notes told.
      let k = c.args.core.now in
      told_at h g start k.conns c.get_mut.follows.lender-at-none k.flows k.links _ _ (sym c.get_mut.follows.holds-at-none) refl ((gone_eases c.args.number t k (sym c.in-None.ensures.value)).goes h g start notes told);
}
