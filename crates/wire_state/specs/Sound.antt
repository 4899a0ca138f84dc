-- What holds of a core between any two calls.
use Rattle.paged_map.specs.PagedMap.{PagedMap, value_at}
use Rattle.proxy_config.specs.Ranges.{IsInRange}
use Rattle.proxy_config.specs.declared.config.Config.{Config}
use Rattle.proxy_config.specs.declared.config.LimitKeys.{LimitKeys}
use Rattle.std.specs.Option.{option_map_or}
use Rattle.std.specs.Prelude.{Bool, IfSome, false, is_some, length, max, ℕ, ◌+◌, ◌<◌, ◌^◌, ◌≡◌, ◌≤◌}
use Rattle.wire_flows.specs.Flows.{Flows, is_live_in, time_of}
use Rattle.wire_links.specs.Links.{Links, ends_of}
use Rattle.wire_outlet.specs.Outgoing.{IsReady, Outgoing}
use Rattle.wire_state.specs.declared.conn.Conn.{Conn}
use Rattle.wire_state.specs.declared.wire_core.WireCore.{WireCore}
use Rattle.wire_timers.specs.Armed.{Timeouts}

-- the most octets of a framed unit: those of a head, and of a DATA frame
abbrev pub unit_of : LimitKeys → ℕ
unit_of limits = max 65536 (limits.quantum + 9)

-- The write buffer holds at most its limit and one unit, and while it isn't above at most its limit. At most so many units of
-- control wait as the configuration allows.
pub record IsKept (limits : LimitKeys) (outlet : Outgoing) : Type 0 where
  pub limit : outlet.write.limit ≡ limits.write_buffer
  pub write : IsReady (unit_of limits) outlet.write
  pub waiting : length outlet.waiting ≤ limits.control_frames

abbrev pub AreKept : LimitKeys → PagedMap Conn → Type 0
AreKept limits conns = (c : ℕ) → IfSome (value_at c conns) (λ conn. IsKept limits conn.outlet)

pub record AreSound (config : Config) (now : ℕ) (links : Links) (conns : PagedMap Conn) (flows : Flows) (timers : Timeouts) : Type 0 where
  pub range : IsInRange config
  -- no timer and no Meter was told of a later moment
  pub moment : now < 2 ^ 60
  pub armed : timers.latest ≤ now
  pub metered : time_of flows ≤ now
  -- the exchanges that are linked are those that are live
  pub live : (x : ℕ) → is_some (ends_of x links) ≡ is_live_in flows x
  pub kept : AreKept config.limits conns

abbrev pub IsSound : WireCore → Type 0
IsSound core = AreSound core.config core.now core.links core.conns core.flows core.timers

-- the connection is there, and hasn't been closed
abbrev pub is_open_at : ℕ → WireCore → Bool
is_open_at c core = option_map_or (λ conn. conn.open) (value_at c core.conns) false
