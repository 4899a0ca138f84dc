-- Flows and buffers by name.
use Rattle.flow_rules.specs.declared.ids.FlowId.{FlowId}
use Rattle.std.specs.Prelude.{false, true, ℕ}
pub use Rattle.flow_gate.specs.Ids.{same_buffer, same_flow}

-- the request flow of an exchange
abbrev pub request : ℕ → FlowId
request x = record { exchange = x; back = false }

-- the response flow of an exchange
abbrev pub response : ℕ → FlowId
response x = record { exchange = x; back = true }
