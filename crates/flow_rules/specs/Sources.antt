-- The sources of a flow: the buffers that pause it while they are above, in the order of its way.
use Rattle.flow_rules.specs.declared.ids.BufferId.{BufferId}
use Rattle.flow_rules.specs.declared.ids.FlowId.{FlowId}
use Rattle.flow_rules.specs.Kinds.{Hold, Kind, Meter, Send}
use Rattle.std.specs.Prelude.{List, None, Option, Some, [], ℕ, ◌++◌, ◌+◌, ◌∷◌}
use Rattle.flow_rules.specs.declared.ids.BufferId.TheVariants as buffer

-- a source and the place where it stands on the flow's way
pub record SourceAt : Type 0 where
  pub place : ℕ
  pub buffer : BufferId

abbrev pub source_of : FlowId → ℕ → Kind → List SourceAt
source_of f p Hold = []
source_of f p Meter = record { place = p; buffer = buffer.Stage f p } ∷ []
source_of f p Send = record { place = p; buffer = buffer.Send f } ∷ []

-- its Meters and its send buffer, counted from the place p
abbrev pub sources_from : FlowId → ℕ → List Kind → List SourceAt
sources_from f p [] = []
sources_from f p (kind ∷ kinds) = source_of f p kind ++ sources_from f (p + 1) kinds

-- the write buffer of the connection that it goes to, if any
abbrev pub write_source : ℕ → Option ℕ → List SourceAt
write_source p None = []
write_source p (Some c) = record { place = p; buffer = buffer.Write c } ∷ []
