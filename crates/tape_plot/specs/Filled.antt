-- The buffers that ever held an octet, of what is kept of a tape: in order, each with its height.
use Rattle.flow_rules.specs.declared.ids.FlowId.{FlowId}
use Rattle.std.specs.BTreeMap.{BTreeMap, IsOrdered, get}
use Rattle.std.specs.Ordering.{nat_cmp}
use Rattle.std.specs.Prelude.{All, List, Option, Some, [], false, if◌then◌else◌, length, true, ℕ, ◌+◌, ◌++◌, ◌==◌, ◌∷◌, ◌≡◌}
use Rattle.tape_plot.specs.Highest.{against}
use Rattle.tape_plot.specs.Lanes.{most_of}
use Rattle.tape_plot.specs.Limits.{known, limit_at, place_limit_at}
use Rattle.tape_plot.specs.Subjects.{flow_id}
use Rattle.tape_plot.specs.declared.highest.Buffer.{Buffer}
use Rattle.tape_plot.specs.declared.connection.Connection.{Connection}
use Rattle.tape_plot.specs.declared.exchange.Exchange.{Exchange}
use Rattle.tape_plot.specs.declared.flow.Flow.{Flow}
use Rattle.tape_plot.specs.declared.flow.Place.{Place}
use Rattle.tape_plot.specs.declared.highest.Ranked.{Ranked}
use Rattle.tape_plot.specs.declared.limits.Limits.{Limits}
use Rattle.flow_rules.specs.declared.ids.BufferId.TheVariants as id
use Rattle.tape_plot.specs.declared.highest.Buffer.TheVariants as buffer

-- a buffer with this limit, if it was ever above 0
abbrev pub of_lane : Buffer → Option ℕ → Place → List Ranked
of_lane b limit place =
    let most = most_of place.lane.base place.lane.points.items in
    let one : Ranked = record { buffer = b; height = against (known limit) most } in
    if most == 0 then [] else one ∷ []

-- the places of a flow with so many, from the p-th on
abbrev pub of_places : Limits → FlowId → ℕ → ℕ → List Place → List Ranked
of_places limits f count p [] = []
of_places limits f count p (place ∷ rest) = of_lane (buffer.Place f p) (place_limit_at limits f count p) place ++ of_places limits f count (p + 1) rest

abbrev pub of_flow : Limits → FlowId → Flow → List Ranked
of_flow limits f flow = of_places limits f (length flow.places.items) 0 flow.places.items

abbrev pub of_exchange : Limits → ℕ → Exchange → List Ranked
of_exchange limits x e = of_flow limits (flow_id x false) e.request ++ of_flow limits (flow_id x true) e.response

abbrev pub of_exchanges : Limits → List (ℕ × Exchange) → List Ranked
of_exchanges limits [] = []
of_exchanges limits (e ∷ rest) = of_exchange limits e.0 e.1 ++ of_exchanges limits rest

abbrev pub of_connection : Limits → ℕ → Connection → List Ranked
of_connection limits c k = of_lane (buffer.Write c) (limit_at limits (id.Write c)) k.write

abbrev pub of_connections : Limits → List (ℕ × Connection) → List Ranked
of_connections limits [] = []
of_connections limits (k ∷ rest) = of_connection limits k.0 k.1 ++ of_connections limits rest

-- the numbers of a map rise, and each entry is what is found at its number
abbrev pub IsRead : {A : Type 0} → BTreeMap ℕ A → Type 0
IsRead m = IsOrdered nat_cmp m × All (λ e. get nat_cmp m e.0 ≡ Some e.1) m.entries
