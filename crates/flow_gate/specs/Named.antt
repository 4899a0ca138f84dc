-- Values by name, and how those of flows and of buffers lie side by side.
use Rattle.flow_rules.specs.declared.ids.BufferId.{BufferId}
use Rattle.flow_rules.specs.declared.ids.BufferId.TheVariants as buffer
use Rattle.flow_rules.specs.declared.ids.FlowId.{FlowId}
use Rattle.flow_gate.specs.declared.buffers.StageId.{StageId}
use Rattle.std.specs.Map.{lookup, set_value}
use Rattle.std.specs.Option.{IsSome}
use Rattle.std.specs.Prelude.{Bool, List, Option, Some, cond, false, map, true, ℕ, ◌++◌, ◌≡◌}

-- the same values under other names
abbrev pub named : {J K X : Type 0} → (J → K) → List (J × X) → List (K × X)
named name = map (λ e. (name e.0, e.1))

-- ---- of flows
abbrev pub ByFlow : Type 0 → Type 0
ByFlow X = List (FlowId × X)

abbrev pub request_of : ℕ → FlowId
request_of exchange = record { exchange = exchange; back = false }

abbrev pub response_of : ℕ → FlowId
response_of exchange = record { exchange = exchange; back = true }

-- what the requests of exchanges have, and what their responses have
abbrev pub both : {X : Type 0} → List (ℕ × X) → List (ℕ × X) → ByFlow X
both requests responses = named request_of requests ++ named response_of responses

-- ---- of buffers
abbrev pub ByBuffer : Type 0 → Type 0
ByBuffer X = List (BufferId × X)

abbrev pub as_buffer : StageId → BufferId
as_buffer s = buffer.Stage s.flow s.stage

-- what write buffers have, receive buffers, stages and send buffers
abbrev pub all_of : {X : Type 0} → List (ℕ × X) → ByFlow X → List (StageId × X) → ByFlow X → ByBuffer X
all_of writes recvs stages sends = named buffer.Write writes ++ (named buffer.Recv recvs ++ (named as_buffer stages ++ named buffer.Send sends))

-- ---- what changes
module _ {K X : Type 0} (same : K → K → Bool) where
  -- this name has this or nothing, and each other one what it had
  abbrev pub Updates : K → Option X → List (K × X) → List (K × X) → Type 0
  Updates k w old new = (q : K) → lookup (same q) new ≡ cond (same k q) w (lookup (same q) old)

  -- new is old after w was written through what was lent for a name
  abbrev pub WritesThrough : K → X → List (K × X) → List (K × X) → Type 0
  WritesThrough k w old new = (new ≡ set_value (same k) old w) × (IsSome (lookup (same k) old) → Updates k (Some w) old new)
