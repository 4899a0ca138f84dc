use Rattle.std.proofs.Common.{ap, arith, refl, subst, sym, ◌∙◌}
use Rattle.std.specs.Option.{option_map_or}
use Rattle.std.specs.Prelude.{Option, [], false, is_some, true, ◌∷◌, ◌≡◌}
use Rattle.wire_ends.proofs.closes.shut.Goals as goal
use Rattle.wire_links.specs.Links.{Links, closed, ends_of}
use Rattle.wire_state.proofs.Closes.{shut_owes}
use Rattle.wire_state.proofs.Keeping.{kept_changed}
use Rattle.wire_state.proofs.Linked.{conn_changed_known}
use Rattle.wire_state.proofs.Weights.{conn_changed}
use Rattle.wire_state.specs.Progress.{to_go}
use Rattle.wire_state.specs.declared.conn.Conn.{Conn}

pub returns-in-Some-clause-sound : goal.returns-in-Some-clause-sound
returns-in-Some-clause-sound c = record {
  range = c.requires.sound.range;
  moment = c.requires.sound.moment;
  armed = c.requires.sound.armed;
  metered = c.requires.sound.metered;
  live = λ x. ap (λ (l : Links). is_some (ends_of x l)) c.close.ensures ∙ c.requires.sound.live x;
  kept = kept_changed c.args.core.now.config.limits c.args.number c.args.core.now.conns (c.get_mut.follows.lender c.shut.new.self) c.in-Some.conn.now c.shut.new.self (sym c.in-Some.ensures.value) (c.get_mut.follows.holds c.shut.new.self) c.requires.sound.kept (c.shut.ensures.kept c.args.core.now.config.limits);
}

pub returns-in-Some-clause-go : goal.returns-in-Some-clause-go
unfolding to_go
returns-in-Some-clause-go c =
    let o : c.in-Some.conn.now.open ≡ true = subst (λ (v : Option Conn). option_map_or (λ x. x.open) v false ≡ true) (sym c.in-Some.ensures.value) c.requires.open in
    omega (arith, conn_changed c.args.number c.args.core.now.conns.entries (c.get_mut.follows.lender c.shut.new.self).entries c.in-Some.conn.now c.shut.new.self c.in-Some.ensures.value (c.get_mut.follows.holds c.shut.new.self).0, c.shut.ensures.less o)

pub returns-in-None-clause-go : goal.returns-in-None-clause-go
returns-in-None-clause-go c =
    absurd (cc (subst (λ (v : Option Conn). option_map_or (λ x. x.open) v false ≡ true) (sym c.in-None.ensures.value) c.requires.open))

pub returns-in-Some-clause-octets : goal.returns-in-Some-clause-octets
returns-in-Some-clause-octets c = λ code.
    let k = c.args.core.now in
    shut_owes c.args.number code c.args.cause c.requires.cause k _ c.in-Some.conn.now c.shut.new.self (sym c.in-Some.ensures.value) (c.get_mut.follows.holds c.shut.new.self) c.shut.ensures.write (ap (λ (v : Conn). v.open) c.shut.ensures.rest) refl refl
    (λ x. ap (λ (l : Links). ends_of x l) c.close.ensures) (conn_changed_known c.args.number closed k.links c.close.new.self c.close.ensures)

pub returns-in-None-clause-octets : goal.returns-in-None-clause-octets
returns-in-None-clause-octets c =
    absurd (cc (subst (λ (v : Option Conn). option_map_or (λ x. x.open) v false ≡ true) (sym c.in-None.ensures.value) c.requires.open))
