-- Which buffers are picked of what is kept of a tape.
use Rattle.std.specs.BTreeMap.{get}
use Rattle.std.specs.List.{Contains}
use Rattle.std.specs.Ordering.{nat_cmp}
use Rattle.std.specs.Prelude.{List, Option, map, ℕ, ◌<◌, ◌≡◌, ◌⊎◌}
use Rattle.tape_plot.specs.Highest.{ArePicked, against}
use Rattle.tape_plot.specs.Lanes.{Drawn, most_of}
use Rattle.tape_plot.specs.Limits.{known, limit_at, place_limit_at}
use Rattle.tape_plot.specs.Ranking.{ranked_in}
use Rattle.tape_plot.specs.Shown.{AsksFor}
use Rattle.tape_plot.specs.Standing.{place_lane, places_in, write_lane}
use Rattle.tape_plot.specs.declared.highest.Buffer.{Buffer}
use Rattle.tape_plot.specs.declared.draw.pick.Pick.{Pick}
use Rattle.tape_plot.specs.declared.height.Height.{Height}
use Rattle.tape_plot.specs.declared.levels.Levels.{Levels}
use Rattle.tape_plot.specs.declared.limits.Limits.{Limits}
use Rattle.flow_rules.specs.declared.ids.BufferId.TheVariants as id
use Rattle.tape_plot.specs.declared.highest.Buffer.TheVariants as buffer
use Rattle.tape_plot.specs.declared.choice.Lanes.TheVariants as lanes

-- ---- what is kept of a buffer

abbrev pub lane_of : Buffer → Levels → Drawn
lane_of (buffer.Place f p) levels = place_lane (get nat_cmp levels.exchanges.items f.exchange) f.back p
lane_of (buffer.Write c) levels = write_lane (get nat_cmp levels.connections.items c)

abbrev pub top_in : Buffer → Levels → ℕ
top_in b levels = let d = lane_of b levels in most_of d.base d.points

abbrev pub limit_kept : Buffer → Levels → Limits → Option ℕ
limit_kept (buffer.Place f p) levels limits = place_limit_at limits f (places_in (get nat_cmp levels.exchanges.items f.exchange) f.back) p
limit_kept (buffer.Write c) levels limits = limit_at limits (id.Write c)

abbrev pub height_kept : Levels → Limits → Buffer → Height
height_kept levels limits b = against (known (limit_kept b levels limits)) (top_in b levels)

-- ---- the highest

abbrev pub buffers_of : Pick → List Buffer
buffers_of pick = map (λ r. r.buffer) (ranked_in pick.highest)

-- where none are named, the highest of what is kept are picked
abbrev pub RankedIn : Levels → Limits → Pick → Type 0
RankedIn levels limits pick = pick.lanes ≡ lanes.Highest → ArePicked (height_kept levels limits) (λ b. 0 < top_in b levels) (buffers_of pick)

-- what a pick takes: what the choice asks for, or the highest
abbrev pub IsPicked : Pick → Buffer → Type 0
IsPicked pick b = AsksFor pick.lanes b ⊎ ((pick.lanes ≡ lanes.Highest) × Contains (buffers_of pick) b)
