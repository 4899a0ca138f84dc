use Rattle.std.proofs.Common.{◌≡◌, ◌≤◌, ◌+◌, ◌*◌, length}
use Rattle.exchange_core.proofs.Held.{held_in_first}
use Rattle.exchange_core.proofs.flow.Flow.held.Given as goal
use Rattle.exchange_core.specs.Flow.{last_place}

abbrev pub invariant-loop-index : goal.invariant-loop-index
invariant-loop-index l = record {
  within : l.index ≤ l.index-end;
  last : l.index-end ≡ last_place l.self;
  few : l.index-end ≤ 9;
  sum : l.held ≡ length l.self.recv + held_in_first l.index l.self.chain.places;
  bound : l.held ≤ 4294967296 * l.index + 4294967296;
}
