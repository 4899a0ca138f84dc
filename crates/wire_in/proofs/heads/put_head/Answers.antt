use Rattle.wire_state.proofs.CountsKept.{headed_places}
use Rattle.std.proofs.Common.{arith}
use Rattle.exchange_core.specs.Effects.{headed}
use Rattle.wire_in.proofs.heads.put_head.Goals as goal
use Rattle.wire_state.proofs.Goings.{changed_told}
use Rattle.wire_state.proofs.Held.{headed_keeps}
use Rattle.wire_state.proofs.Results.{on_ok}
use Rattle.wire_state.specs.Progress.{to_go}

pub returns-in-Some-clause-go : goal.returns-in-Some-clause-go
unfolding to_go
returns-in-Some-clause-go c = on_ok c.head.result (omega (arith, c.head.ensures.go))

pub returns-in-Some-clause-octets : goal.returns-in-Some-clause-octets
returns-in-Some-clause-octets c = record {
  goes = changed_told c.head.result c.args.flow (headed c.in-Some.fields c.args.last) c.args.core.now.flows c.head.new.self (headed_keeps c.in-Some.fields c.args.last) (headed_places c.in-Some.fields c.args.last) c.head.ensures.rest c.head.ensures.sound c.head.ensures.ok c.args.core.now.conns c.args.core.now.links;
}
