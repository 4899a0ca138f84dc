-- What is drawn on a sheet.
use Rattle.flow_rules.specs.declared.ids.FlowId.{FlowId}
use Rattle.std.specs.List.{Contains}
use Rattle.std.specs.Prelude.{Bool, List, length, ℕ, ◌<◌, ◌≡◌}
use Rattle.tape_plot.specs.Flows.{lane_at, lanes_of}
use Rattle.tape_plot.specs.Lanes.{Drawn, Fits, drawn_of}
use Rattle.tape_plot.specs.Limits.{known, limit_at, place_limit_at}
use Rattle.tape_plot.specs.Picks.{IsPicked, RankedIn, lane_of, limit_kept}
use Rattle.tape_plot.specs.Shown.{IsDrawn, Within}
use Rattle.tape_plot.specs.Standing.{flow_of}
use Rattle.tape_plot.specs.Subjects.{flow_id}
use Rattle.tape_plot.specs.declared.highest.Buffer.{Buffer}
use Rattle.tape_plot.specs.declared.choice.Lanes.{Lanes}
use Rattle.tape_plot.specs.declared.connection.Connection.{Connection}
use Rattle.tape_plot.specs.declared.draw.pick.Pick.{Pick}
use Rattle.tape_plot.specs.declared.draw.sheet.Sheet.{Sheet}
use Rattle.tape_plot.specs.declared.exchange.Exchange.{Exchange}
use Rattle.tape_plot.specs.declared.flow.Place.{Place}
use Rattle.tape_plot.specs.declared.levels.Levels.{Levels}
use Rattle.tape_plot.specs.declared.limits.Limits.{Limits}
use Rattle.flow_rules.specs.declared.ids.BufferId.TheVariants as id
use Rattle.tape_plot.specs.declared.highest.Buffer.TheVariants as buffer

-- what is put stays
pub record Grows (old new : Sheet) : Type 0 where
  pub frame : new.frame ≡ old.frame
  pub keeps : (piece : List ℕ) → Contains old.pieces.items piece → Contains new.pieces.items piece

-- a lane is drawn against a limit, in columns that it was fitted to
pub record LaneDrawn (There : List ℕ → Type 0) (first end limit : ℕ) (d : Drawn) : Type 0 where
  pub fitted : Drawn
  pub fits : Fits d fitted
  pub drawn : IsDrawn There first end limit fitted

pub record Has (sheet : Sheet) (limit : ℕ) (d : Drawn) : Type 0 where
  pub lane : LaneDrawn (Contains sheet.pieces.items) sheet.frame.first sheet.frame.end limit d

-- those of the first places of a flow that are picked
abbrev pub PlacesDrawn : Sheet → Limits → Pick → FlowId → List Place → ℕ → Type 0
PlacesDrawn sheet limits pick f ps n =
    (p : ℕ) → p < n → IsPicked pick (buffer.Place f p) → Has sheet (known (place_limit_at limits f (length ps) p)) (lane_at (lanes_of ps) p)

-- those of all its places, of both flows of an exchange, and of a connection
pub record FlowDrawn (sheet : Sheet) (limits : Limits) (pick : Pick) (f : FlowId) (e : Exchange) : Type 0 where
  pub places : PlacesDrawn sheet limits pick f (flow_of e f.back).places.items (length (flow_of e f.back).places.items)

pub record ExchangeDrawn (sheet : Sheet) (limits : Limits) (pick : Pick) (x : ℕ) (e : Exchange) : Type 0 where
  pub flows : (back : Bool) → FlowDrawn sheet limits pick (flow_id x back) e

pub record WriteDrawn (sheet : Sheet) (limits : Limits) (pick : Pick) (c : ℕ) (k : Connection) : Type 0 where
  pub lane : IsPicked pick (buffer.Write c) → Has sheet (known (limit_at limits (id.Write c))) (drawn_of k.write.lane)

-- and of all that is kept
pub record LevelsDrawn (There : List ℕ → Type 0) (first end : ℕ) (limits : Limits) (pick : Pick) (levels : Levels) : Type 0 where
  pub lanes : (b : Buffer) → IsPicked pick b → LaneDrawn There first end (known (limit_kept b levels limits)) (lane_of b levels)

-- a text shows what is picked by a choice
pub record TextDrawn (text : List ℕ) (first end : ℕ) (limits : Limits) (lanes : Lanes) (levels : Levels) : Type 0 where
  pub pick : Pick
  pub by : pick.lanes ≡ lanes
  pub ranked : RankedIn levels limits pick
  pub drawn : LevelsDrawn (Within text) first end limits pick levels
