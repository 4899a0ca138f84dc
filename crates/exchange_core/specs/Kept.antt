-- A flow as it is kept, with the room that was made in its receive buffer.
use Rattle.exchange_core.specs.Flow.{Flow, IsSound}
use Rattle.exchange_core.specs.declared.flow.Flow.TheInside.{Inside}
use Rattle.std.specs.Prelude.{false, length, ◌+◌, ◌≡◌, ◌≤◌}

abbrev pub flow_of : Inside → Flow
flow_of c = record {
  window = c.window;
  recv = c.recv.octets;
  chain = c.chain;
  message = c.message;
  multiple = c.multiple;
}

-- The receive buffer has no limit of its own, and room for its window. The quantum is that of the chain.
pub record IsKeptFlow (c : Inside) : Type 0 where
  pub sound : IsSound (flow_of c)
  pub ready : c.window ≤ length c.recv.octets + c.recv.spare
  pub limit : c.recv.limit ≡ 0
  pub low : c.recv.above ≡ false
  pub quantum : c.quantum ≡ c.chain.quantum
