use Rattle.wire_state.proofs.CountsKept.{finished_places}
use Rattle.std.proofs.Common.{arith}
use Rattle.exchange_core.specs.Effects.{finished}
use Rattle.wire_in.proofs.heads.finish.Goals as goal
use Rattle.wire_state.proofs.Goings.{changed_told}
use Rattle.wire_state.proofs.Held.{finished_keeps}
use Rattle.wire_state.proofs.Results.{on_ok}
use Rattle.wire_state.specs.Progress.{to_go}

pub returns-clause-go : goal.returns-clause-go
unfolding to_go
returns-clause-go c = on_ok c.finish.result (omega (arith, c.finish.ensures.go))

pub returns-clause-octets : goal.returns-clause-octets
returns-clause-octets c = record {
  goes = changed_told c.finish.result c.args.flow (finished c.args.fields) c.args.core.now.flows c.finish.new.self (finished_keeps c.args.fields) (finished_places c.args.fields) c.finish.ensures.rest c.finish.ensures.sound c.finish.ensures.ok c.args.core.now.conns c.args.core.now.links;
}
