use Rattle.wire_turns.proofs.Opening.{kept_more}
use Rattle.wire_turns.proofs.events.open.Goals as goal
use Rattle.wire_state.proofs.Coming.{comes_counts, put_there}
use Rattle.wire_state.proofs.Goings.{gates_stand}
use Rattle.wire_state.proofs.Linked.{comes, comes_new}
use Rattle.wire_state.proofs.Results.{on_ok}
use Rattle.wire_state.proofs.Soundness.{conns_sound, gates_sound}
use Rattle.wire_state.specs.Ways.{after}

pub stir-requires : goal.stir-requires
stir-requires c =
    let k = c.args.core.now in
    record {
      sound = conns_sound k.config k.now k.links k.conns c.open_write.new.self k.timers (gates_sound k.config k.now k.links k.conns k.flows k.timers c.requires.sound c.open_write.new.self c.open_write.ensures.rest) c.insert.new.self
          (kept_more k.config.limits c.args.number k.conns c.insert.new.self c.in_ok-conn.conn c.in_ok-insert.ensures.updates.0 c.requires.sound.kept c.in_ok-conn.ensures.kept);
    }

pub returns-clause-octets : goal.returns-clause-octets
returns-clause-octets c = λ known none. record {
  goes = λ h g start notes t came fresh.
      let k = c.args.core.now in
      let n = c.args.number in
      let past = after t.steps h in
      let new = comes_new n k.conns c.insert.new.self c.in_ok-conn.conn none c.in_ok-insert.ensures.updates c.in_ok-conn.ensures.empty c.in_ok-conn.ensures.opened in
      let here = put_there n k.conns c.insert.new.self c.in_ok-conn.conn c.in_ok-insert.ensures.updates in
      on_ok c.stir.result (c.stir.ensures.octets.goes h g start notes (record {
        steps = t.steps;
        is = t.is;
        stands = gates_stand k.flows c.open_write.new.self c.open_write.ensures.rest c.insert.new.self k.links past (comes n k.conns c.insert.new.self new k.flows k.links past known came fresh t.stands);
        counts = comes_counts n k.conns c.insert.new.self c.in_ok-conn.conn none here new.others c.in_ok-conn.ensures.low k.flows c.open_write.new.self c.open_write.ensures.rest c.open_write.ensures.sound c.in_ok-open_write.ensures.ok c.open_write.ensures.known c.open_write.ensures.lows past t.counts;
        left = t.left;
        under = t.under;
        ways = t.ways;
        rows = t.rows;
        since = t.since;
      }));
}
