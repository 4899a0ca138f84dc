use Rattle.std.proofs.Common.{refl}
use Rattle.wire_turns.proofs.events.set_clock.Goals as goal
use Rattle.wire_state.proofs.Goings.{keeps_by}
use Rattle.wire_state.proofs.Lives.{ticks, ticks_counts}

pub returns-clause-octets : goal.returns-clause-octets
returns-clause-octets c =
    let k = c.args.core.now in
    keeps_by k _ refl (λ h s. ticks _ k.flows c.tick.new.self c.tick.ensures.ticks k.conns k.links h s)
    (λ t u h s counts. ticks_counts _ k.flows c.tick.new.self c.tick.ensures.ticks c.tick.ensures.live c.tick.ensures.rest c.tick.ensures.sound k.conns h counts)
