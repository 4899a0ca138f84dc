-- The stages that a configuration gives the bodies of a session.
use Rattle.flow_rules.specs.declared.ids.FlowId.{FlowId}
use Rattle.proxy_config.specs.declared.config.Config.{Config}
use Rattle.proxy_config.specs.declared.routes.Filter.{Filter}
use Rattle.proxy_config.specs.declared.routes.Route.{Route}
use Rattle.std.specs.Prelude.{Bool, List, None, Option, Some, [], if◌then◌else◌, slice_get, ℕ, ◌∷◌}
use Rattle.tape_laws.specs.Units.{Hold, Meter, StageKind}
use Rattle.wire_summary.specs.declared.levels.BufferLimits.{BufferLimits}
use Rattle.proxy_config.specs.declared.routes.Filter.TheVariants as filter

-- the limits of the buffers that every exchange and every connection has; that of a receive buffer is its window
abbrev pub limits_of : Config → BufferLimits
limits_of config = record { recv = config.limits.stream_window; send = config.limits.send_buffer; write = config.limits.write_buffer }

-- a Pass keeps nothing, so it is no stage
abbrev pub stages_of : List Filter → List StageKind
stages_of [] = []
stages_of (filter.Pass ∷ fs) = stages_of fs
stages_of (filter.Hold limit ∷ fs) = Hold limit ∷ stages_of fs
stages_of (filter.Meter limit rate ∷ fs) = Meter limit rate ∷ stages_of fs

-- those of a route's requests, or of its responses
abbrev pub route_stages : Option Route → Bool → List StageKind
route_stages None back = []
route_stages (Some route) back = if back then stages_of route.response else stages_of route.request

abbrev pub row_at : List Route → Option ℕ → Option Route
row_at routes None = None
row_at routes (Some i) = slice_get routes i

-- the stages that a flow passes, by the route row of its exchange, if it has one
abbrev pub passes : List Route → (ℕ → Option ℕ) → FlowId → List StageKind
passes routes rows f = route_stages (row_at routes (rows f.exchange)) f.back
