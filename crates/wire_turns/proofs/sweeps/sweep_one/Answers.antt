use Rattle.wire_turns.proofs.sweeps.sweep_one.Goals as goal
use Rattle.wire_state.proofs.Lives.{swept_told}

pub returns-clause-octets : goal.returns-clause-octets
returns-clause-octets c = record {
  goes = λ h g start notes t.
      let k = c.args.core.now in
      swept_told c.sweep.result k.flows c.sweep.new.self c.sweep.ensures.sweeps c.sweep.ensures.keeps.live c.sweep.ensures.rest c.sweep.ensures.sound k.conns k.links h g start notes t;
}
