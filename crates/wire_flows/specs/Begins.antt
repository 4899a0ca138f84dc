-- How a flow begins to watch its buffers, and what is left where memory is refused on the way.
use Rattle.exchange_core.specs.Exchange.{flow_id}
use Rattle.flow_gate.specs.Board.{Board, IsSound as AreSoundGates, is_known, is_marked, is_open, pending_on, watched_by, watchers_of}
use Rattle.flow_gate.specs.Changes.{Rises, Same, without}
use Rattle.flow_gate.specs.Ids.{is_own, same_buffer, same_flow}
use Rattle.flow_rules.specs.declared.ids.BufferId.{BufferId}
use Rattle.flow_rules.specs.declared.ids.FlowId.{FlowId}
use Rattle.proxy_config.specs.declared.routes.Filter.{Filter}
use Rattle.proxy_config.specs.declared.routes.Filter.TheVariants.{Hold, Meter, Pass}
use Rattle.std.specs.List.{list_any}
use Rattle.std.specs.Option.{option_map_or}
use Rattle.std.specs.Prelude.{Bool, List, None, Option, Some, [], drop, false, if◌then◌else◌, not, true, ℕ, ◌&&◌, ◌++◌, ◌+◌, ◌==◌, ◌||◌, ◌∷◌, ◌≡◌}
use Rattle.flow_rules.specs.declared.ids.BufferId.TheVariants as buffer

-- the buffers of the Meters among the stages of these filters, counted from the place p
abbrev pub meters : FlowId → ℕ → List Filter → List BufferId
meters f p [] = []
meters f p (Pass ∷ filters) = meters f p filters
meters f p (Hold limit ∷ filters) = meters f (p + 1) filters
meters f p (Meter limit rate ∷ filters) = buffer.Stage f p ∷ meters f (p + 1) filters

-- the write buffer of the connection that a flow goes to, if any
abbrev pub write_of : Option ℕ → List BufferId
write_of None = []
write_of (Some c) = buffer.Write c ∷ []

-- all that a flow watches from its start
abbrev pub watches_from : FlowId → List Filter → Option ℕ → List BufferId
watches_from f filters to = meters f 1 filters ++ buffer.Send f ∷ write_of to

abbrev pub is_in : BufferId → List BufferId → Bool
is_in b bs = list_any (same_buffer b) bs

abbrev pub is_target : ℕ → Option ℕ → Bool
is_target c to = option_map_or (λ d. d == c) to false

-- its write buffer is above
abbrev pub is_held_by : Option ℕ → Board → Bool
is_held_by to board = option_map_or (λ c. is_marked board (buffer.Write c)) to false

-- none of its own buffers is known
pub record IsFresh (f : FlowId) (board : Board) : Type 0 where
  pub unknown : (b : BufferId) → is_own f b ≡ true → is_known board b ≡ false

-- at most this flow and its own buffers were touched
pub record Grows (f : FlowId) (old new : Board) : Type 0 where
  pub flows : Same is_open old new
  pub watched : (g : FlowId) → same_flow f g ≡ false → watched_by new g ≡ watched_by old g
  pub buffers : (b : BufferId) → is_own f b ≡ false → is_known new b ≡ is_known old b
  pub marks : Same is_marked old new
  pub watchers : (b : BufferId) → without f (watchers_of new b) ≡ without f (watchers_of old b)
  pub pending : Same pending_on old new

-- it watches these buffers of its own too
pub record WatchesOwn (f : FlowId) (bs : List BufferId) (old new : Board) : Type 0 where
  pub watched : watched_by new f ≡ watched_by old f ++ bs
  pub known : (b : BufferId) → is_own f b ≡ true → is_known new b ≡ (is_known old b || is_in b bs)
  pub writes : (c : ℕ) → watchers_of new (buffer.Write c) ≡ watchers_of old (buffer.Write c)

-- it watches these buffers, the last of them the write buffer of the connection that it goes to, if any
pub record WatchesAll (f : FlowId) (bs : List BufferId) (to : Option ℕ) (old new : Board) : Type 0 where
  pub watched : watched_by new f ≡ watched_by old f ++ bs
  pub writes : (c : ℕ) → watchers_of new (buffer.Write c) ≡ watchers_of old (buffer.Write c) ++ (if is_target c to then f ∷ [] else [])

-- the flow is there, and watches these buffers
pub record BeginsFlow (f : FlowId) (bs : List BufferId) (to : Option ℕ) (old new : Board) : Type 0 where
  pub flows : (g : FlowId) → is_open new g ≡ (same_flow f g || is_open old g)
  pub watched : (g : FlowId) → watched_by new g ≡ (if same_flow f g then bs else watched_by old g)
  pub buffers : (b : BufferId) → is_own f b ≡ false → is_known new b ≡ is_known old b
  pub marks : Same is_marked old new
  pub writes : (c : ℕ) → watchers_of new (buffer.Write c) ≡ watchers_of old (buffer.Write c) ++ (if is_target c to then f ∷ [] else [])
  pub watchers : (b : BufferId) → without f (watchers_of new b) ≡ without f (watchers_of old b)
  pub pending : Same pending_on old new

-- the request is there, and then the response
pub record BeginsBoth (x : ℕ) (request response : List BufferId) (to : Option ℕ) (from : ℕ) (old new : Board) : Type 0 where
  pub between : Board
  pub sound : AreSoundGates between
  pub request_begins : BeginsFlow (flow_id x false) request to old between
  pub response_begins : BeginsFlow (flow_id x true) response (Some from) between new

-- they are seen as before
pub record IsSame (old new : Board) : Type 0 where
  pub flows : Same is_open old new
  pub watched : Same watched_by old new
  pub buffers : Same is_known old new
  pub marks : Same is_marked old new
  pub watchers : Same watchers_of old new
  pub pending : Same pending_on old new

-- ---- crossings
-- a buffer rose, or it didn't
abbrev pub RisesIf : Bool → BufferId → Board → Board → Type 0
RisesIf true b old new = Rises b old new
RisesIf false b old new = new ≡ old

-- a buffer drained, and these of its watchers are still to be told
pub record DrainsTo (b : BufferId) (lows : List FlowId) (old new : Board) : Type 0 where
  pub flows : Same is_open old new
  pub watched : Same watched_by old new
  pub buffers : Same is_known old new
  pub marks : (c : BufferId) → is_marked new c ≡ (not (same_buffer b c) && is_marked old c)
  pub watchers : Same watchers_of old new
  pub pending : (c : BufferId) → pending_on new c ≡ (if same_buffer b c then lows else pending_on old c)

abbrev pub DrainsIf : Bool → BufferId → List FlowId → Board → Board → Type 0
DrainsIf true b lows old new = DrainsTo b lows old new
DrainsIf false b lows old new = new ≡ old

-- a watcher is told at once, but not where the move overflowed
abbrev pub lows_left : Bool → List FlowId → List FlowId
lows_left overflow watchers = if overflow then watchers else drop 1 watchers

-- ---- a rise and a drain together
-- what stays, and what is marked and pending then
pub record Crosses (rose : Bool) (b : BufferId) (drained : Bool) (c : BufferId) (lows : List FlowId) (old new : Board) : Type 0 where
  pub flows : Same is_open old new
  pub watched : Same watched_by old new
  pub buffers : Same is_known old new
  pub watchers : Same watchers_of old new
  pub marks : (d : BufferId) → is_marked new d ≡ (not (drained && same_buffer c d) && ((rose && same_buffer b d) || is_marked old d))
  pub pending : (d : BufferId) → pending_on new d ≡ (if drained && same_buffer c d then lows else pending_on old d)
