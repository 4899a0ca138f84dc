-- The sources of a flow: the buffers that pause it while they are above.
use Rattle.flow_rules.specs.declared.ids.BufferId.{BufferId}
use Rattle.flow_rules.specs.declared.ids.FlowId.{FlowId}
use Rattle.flow_rules.specs.Kinds.{Kind, Send}
use Rattle.flow_rules.specs.Sources.{SourceAt, sources_from, write_source}
use Rattle.std.specs.List.{AllByRecursion, list_any}
use Rattle.std.specs.Prelude.{Bool, List, [], count_by, filter, flat_map, map, ℕ, ◌++◌, ◌+◌, ◌∷◌}
use Rattle.tape_laws.specs.Dispatches.{live}
use Rattle.tape_laws.specs.Flows.{same_buffer, same_flow}
use Rattle.tape_laws.specs.History.{History}
use Rattle.tape_laws.specs.Setup.{Setup}
use Rattle.tape_laws.specs.Units.{kind_of}
use Rattle.tape_laws.specs.Watermark.{above}
use Rattle.tape_laws.specs.World.{last_place}

-- what its places do: its stages, and behind them its send buffer
abbrev pub kinds : {Mark : Type 0} → Setup Mark → FlowId → History Mark → List Kind
kinds setup f past = map kind_of (setup.stages f past) ++ Send ∷ []

-- its own buffers: its Meters and its send buffer
abbrev pub body_sources : {Mark : Type 0} → Setup Mark → FlowId → History Mark → List SourceAt
body_sources setup f past = sources_from f 1 (kinds setup f past)

-- its own, and the write buffer that it goes to, each later than every place before it
abbrev pub sources : {Mark : Type 0} → Setup Mark → FlowId → History Mark → List SourceAt
sources setup f past =
    body_sources setup f past ++ write_source (last_place setup f past + 1) (setup.goes_to f past)

abbrev pub source_buffers : {Mark : Type 0} → Setup Mark → FlowId → History Mark → List BufferId
source_buffers setup f past = map (λ s. s.buffer) (sources setup f past)

-- how many sources of the flow are above
abbrev pub disabled : {Mark : Type 0} → Setup Mark → FlowId → History Mark → ℕ
disabled setup f past = count_by (λ b. above setup b past) (source_buffers setup f past)

-- the live flows, in the order of their starts, request before response
abbrev pub live_flows : {Mark : Type 0} → Setup Mark → History Mark → List FlowId
live_flows setup past = flat_map setup.flows (live past)

abbrev pub is_live : {Mark : Type 0} → Setup Mark → FlowId → History Mark → Bool
is_live setup f past = list_any (same_flow f) (live_flows setup past)

-- P holds of each live flow
abbrev pub EachLive : {Mark : Type 0} → Setup Mark → (FlowId → Type 0) → History Mark → Type 0
EachLive setup P past = AllByRecursion P (live_flows setup past)

-- the live flows that a buffer pauses, in the order in which they began to watch
abbrev pub watchers : {Mark : Type 0} → Setup Mark → BufferId → History Mark → List FlowId
watchers setup b past = filter (λ f. list_any (same_buffer b) (source_buffers setup f past)) (live_flows setup past)
