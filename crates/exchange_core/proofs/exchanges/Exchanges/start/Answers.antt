use Rattle.exchange_core.proofs.Keeping.{room_made}
use Rattle.exchange_core.proofs.Seeing.{seen_sound}
use Rattle.exchange_core.proofs.Starting.{number_rises, one_more, start_kept, starts}
use Rattle.exchange_core.proofs.exchanges.Exchanges.start.Goals as goal
use Rattle.exchange_core.specs.Exchange.{IsSoundExchange, begun}
use Rattle.exchange_core.specs.View.{exchanges_of}
use Rattle.std.proofs.Common.{ap, arith, refl, subst, ◌∙◌, ◌≡◌, ◌<◌}
use Rattle.std.specs.BTreeMap.{insert_entry, is_at}
use Rattle.std.specs.Map.{lookup}
use Rattle.std.specs.Ordering.{nat_cmp}
use Rattle.std.specs.Prelude.{Some, cond, ℕ}
use Rattle.exchange_core.specs.declared.exchanges.Exchanges.TheInside.{Inside}

pub returns-in_err-number-clause-sound : goal.returns-in_err-number-clause-sound
returns-in_err-number-clause-sound c = rw (← c.self.view_is) (seen_sound c.self.inside c.self.invariant)

pub returns-in_err-reserve-clause-sound : goal.returns-in_err-reserve-clause-sound
returns-in_err-reserve-clause-sound c = seen_sound (record c.self.inside { doomed = c.reserve.new.self })
    (room_made c.self.inside (record c.self.inside { doomed = c.reserve.new.self }) c.self.invariant refl c.reserve.ensures.items refl refl refl refl c.reserve.ensures.len c.reserve.ensures.capacity (omega arith)).1

pub returns-in_err-reserve-2-clause-sound : goal.returns-in_err-reserve-2-clause-sound
returns-in_err-reserve-2-clause-sound c = seen_sound (record c.self.inside { doomed = c.reserve.new.self; metered = c.reserve-2.new.self })
    (room_made c.self.inside (record c.self.inside { doomed = c.reserve.new.self; metered = c.reserve-2.new.self }) c.self.invariant refl c.reserve.ensures.items refl refl refl c.reserve-2.ensures.items c.reserve.ensures.len c.reserve.ensures.capacity c.reserve-2.ensures.more).1

pub returns-in_err-ready-clause-sound : goal.returns-in_err-ready-clause-sound
returns-in_err-ready-clause-sound c = seen_sound (record c.self.inside { spares = c.ready.new.self; doomed = c.reserve.new.self; metered = c.reserve-2.new.self })
    (room_made c.self.inside (record c.self.inside { spares = c.ready.new.self; doomed = c.reserve.new.self; metered = c.reserve-2.new.self }) c.self.invariant refl c.reserve.ensures.items refl refl refl c.reserve-2.ensures.items c.reserve.ensures.len c.reserve.ensures.capacity c.reserve-2.ensures.more).1

pub returns-in_err-exchange-clause-sound : goal.returns-in_err-exchange-clause-sound
returns-in_err-exchange-clause-sound c = seen_sound (record c.self.inside { spares = c.new.new.spares; doomed = c.reserve.new.self; metered = c.reserve-2.new.self })
    (room_made c.self.inside (record c.self.inside { spares = c.new.new.spares; doomed = c.reserve.new.self; metered = c.reserve-2.new.self }) c.self.invariant refl c.reserve.ensures.items refl refl refl c.reserve-2.ensures.items c.reserve.ensures.len c.reserve.ensures.capacity c.reserve-2.ensures.more).1

pub returns-in_err-insert-clause-sound : goal.returns-in_err-insert-clause-sound
returns-in_err-insert-clause-sound c = seen_sound (record c.self.inside { spares = c.new.new.spares; live = c.insert.new.self; doomed = c.reserve.new.self; metered = c.reserve-2.new.self })
    (room_made c.self.inside (record c.self.inside { spares = c.new.new.spares; live = c.insert.new.self; doomed = c.reserve.new.self; metered = c.reserve-2.new.self }) c.self.invariant (λ i. (c.in_err-insert.ensures.err i).entries) c.reserve.ensures.items refl refl refl c.reserve-2.ensures.items c.reserve.ensures.len c.reserve.ensures.capacity c.reserve-2.ensures.more).1

abbrev after : goal.After-self-2-1 → Inside
after c = record c.self.inside { spares = c.new.new.spares; live = c.insert.new.self; doomed = c.reserve.new.self; metered = c.reserve-2.new.self; last = c.in_ok-number.number; time = c.args.spec.now.now }

rises : (c : goal.After-self-2-1) → c.self.inside.last < c.in_ok-number.number
rises c = number_rises c.in_ok-number.number c.args.spec.now (exchanges_of c.self.inside) c.in_ok-number.ensures (rw (← c.self.view_is) at c.requires.rises)

updates : (c : goal.After-self-2-1) (y : ℕ) → lookup (is_at (nat_cmp y)) (after c).live.entries ≡ cond (is_at (nat_cmp c.in_ok-number.number) y) (Some (begun c.in_ok-number.number c.args.spec.now c.args.config.now)) (lookup (is_at (nat_cmp y)) c.self.inside.live.entries)
updates c y = cc (c.in_ok-insert.ensures.updates.0 y, c.in_ok-exchange.ensures.begun)

pub invariant_of-self-2 : goal.invariant_of-self-2
invariant_of-self-2 c = start_kept c.self.inside (after c) c.in_ok-number.number c.args.spec.now c.args.config.now c.self.invariant
    (rises c) (rw (← c.self.view_is) at c.requires.clock)
    (updates c)
    (subst (IsSoundExchange c.in_ok-number.number c.args.spec.now.now) c.in_ok-exchange.ensures.begun c.in_ok-exchange.ensures.sound)
    c.insert.ensures.ordered (c.in_ok-insert.ensures.entries ∙ ap (insert_entry nat_cmp c.self.inside.live.entries c.in_ok-number.number) c.in_ok-exchange.ensures.begun)
    (one_more _ _ _ c.in_ok-insert.ensures.len) refl c.reserve.ensures.items refl refl c.reserve-2.ensures.items
    (omega (arith, c.in_ok-reserve.ensures.ok, c.len.ensures.len)) (omega (arith, c.in_ok-reserve-2.ensures.room, c.len-2.ensures.len))

pub returns-clause-starts : goal.returns-clause-starts
returns-clause-starts c = rw (← c.self.view_is) (starts c.self.inside (after c) c.in_ok-number.number c.args.spec.now c.args.config.now c.self.invariant
    (rises c) (rw (← c.self.view_is) at c.requires.clock)
    (updates c)
    refl c.reserve.ensures.items refl refl)

pub returns-clause-sound : goal.returns-clause-sound
returns-clause-sound c = seen_sound _ (invariant_of-self-2 c)
