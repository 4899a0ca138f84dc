-- The next unit of a flow that is kept, and whether its receive buffer is empty.
use Rattle.exchange_core.specs.Exchanges.{flow_at}
use Rattle.exchange_core.specs.Flow.{Flow}
use Rattle.exchange_core.specs.Units.{next_unit}
use Rattle.flow_rules.specs.declared.unit.Unit.{Unit as NextUnit}
use Rattle.std.specs.Option.{option_and_then, option_map_or}
use Rattle.std.specs.Prelude.{Bool, Option, false, length, option_map, pos, ℕ, ◌==◌}
use Rattle.tape_laws.specs.Flows.{request}
use Rattle.exchange_core.specs.declared.step.Piece.{Piece}
use Rattle.plain_core.specs.Flows.{piece_of}
use Rattle.plain_core.specs.declared.flows.Flows.{Flows}

abbrev pub unit_at : Flows → ℕ → Option NextUnit
unit_at flows x = option_map (next_unit (pos flows.limits.quantum) flows.limits.quantum) (flow_at flows.exchanges (request x))

abbrev pub piece_at : Flows → ℕ → Option Piece
piece_at flows x = option_and_then piece_of (unit_at flows x)

abbrev pub is_emptied : Flows → ℕ → Bool
is_emptied flows x = option_map_or (λ (f : Flow). length f.recv == 0) (flow_at flows.exchanges (request x)) false
