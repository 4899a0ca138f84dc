-- What a table of stages stands for, and the rows of which exchanges pass stages.
use Rattle.proxy_config.specs.declared.routes.Route.{Route}
use Rattle.std.specs.Prelude.{Bool, IfSome, IsSome, List, None, Option, [], false, length, map, true, ℕ, ◌<◌, ◌∷◌, ◌≡◌, ◌≤◌}
use Rattle.tape_laws.specs.Dispatches.{started}
use Rattle.tape_laws.specs.Watermark.{kind_limit}
use Rattle.wire_run.specs.Rows.{route_stages, row_at, stages_of}
use Rattle.wire_run.specs.declared.stages.RouteStages.{RouteStages}
use Rattle.wire_state.specs.Marks.{row_in}
use Rattle.wire_state.specs.Ways.{WayHistory}
use Rattle.wire_summary.specs.Levels.{StageLimits, known_limits}
use Rattle.wire_summary.specs.declared.levels.Levels.{Levels}

-- the limits of one row's stages
pub record IsStages (stages : RouteStages) (route : Route) : Type 0 where
  pub request_is : stages.request.items ≡ map kind_limit (stages_of route.request)
  pub response_is : stages.response.items ≡ map kind_limit (stages_of route.response)

-- row by row
abbrev pub AreStages : List RouteStages → List Route → Type 0
AreStages [] [] = Unit {0}
AreStages (s ∷ ss) (r ∷ rs) = IsStages s r × AreStages ss rs
AreStages ss rs = ⊥

-- the limits of a row's stages, or of no row's
abbrev pub row_limits : List Route → Option ℕ → Bool → List ℕ
row_limits routes row back = map kind_limit (route_stages (row_at routes row) back)

-- these are those of the routes that the table stands for
pub record Gives (rows : List RouteStages) (row : Option ℕ) (back : Bool) (limits : List ℕ) : Type 0 where
  pub goes : (routes : List Route) → AreStages rows routes → limits ≡ row_limits routes row back

-- an exchange passes the stages of this row, or none
pub record IsRow (routes : List Route) (row : Option ℕ) (limits : StageLimits) : Type 0 where
  pub request_is : limits.request ≡ row_limits routes row false
  pub response_is : limits.response ≡ row_limits routes row true

-- Each exchange of which stages are known passes those of the row that its mark names. They are known of each that began, and of none
-- with a later number.
pub record HaveRows (routes : List Route) (levels : Levels) (marked : WayHistory) : Type 0 where
  pub each : (x : ℕ) → IfSome (known_limits levels x) (IsRow routes (row_in x marked))
  pub all : (x : ℕ) → 0 < x → x ≤ length (started marked) → IsSome (known_limits levels x)
  pub none : (x : ℕ) → length (started marked) < x → known_limits levels x ≡ None
