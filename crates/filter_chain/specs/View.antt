-- The fields of a chain as the value that contracts see.
use Rattle.std.specs.Prelude.{All}
use Rattle.filter_chain.specs.Chain.{Chain, IsSound}
use Rattle.filter_chain.specs.Stage.{IsReady, places_of}
use Rattle.filter_chain.specs.declared.chain.Chain.TheInside.{Inside}

abbrev pub chain_of : Inside → Chain
chain_of c = record {
  flow = c.flow;
  quantum = c.quantum;
  started = c.clock.started;
  time = c.clock.time;
  ended = c.ended;
  recv_empty = c.recv_empty;
  places = places_of c.stages.items;
}

-- each buffer with a limit is ready
pub record IsKept (c : Inside) : Type 0 where
  pub sound : IsSound (chain_of c)
  pub ready : All (IsReady c.quantum) c.stages.items
