-- The ranges in which the numbers of a configuration are.
use Rattle.std.specs.Prelude.{ℕ, ◌<◌, ◌≤◌, All, List, length}
use Rattle.proxy_config.specs.Clusters.{IsListed}
use Rattle.proxy_config.specs.declared.config.Config.{Config}
use Rattle.proxy_config.specs.declared.config.LimitKeys.{LimitKeys}
use Rattle.proxy_config.specs.declared.config.ProxyKeys.{ProxyKeys}
use Rattle.proxy_config.specs.declared.config.TimeoutKeys.{TimeoutKeys}
use Rattle.proxy_config.specs.declared.overload.Form.{Form}
use Rattle.proxy_config.specs.declared.overload.Form.TheVariants.{Threshold, Scaled}
use Rattle.proxy_config.specs.declared.overload.OverloadKeys.{OverloadKeys}
use Rattle.proxy_config.specs.declared.overload.ShedRow.{ShedRow}
use Rattle.proxy_config.specs.declared.overload.Trigger.{Trigger}
use Rattle.proxy_config.specs.declared.routes.Filter.{Filter}
use Rattle.proxy_config.specs.declared.routes.Filter.TheVariants.{Pass, Hold, Meter}
use Rattle.proxy_config.specs.declared.routes.Route.{Route}

-- the most octets of a buffer or a window, the last millisecond of a timeout, and the whole in parts per million
abbrev pub most_octets : ℕ
most_octets = 16777216

abbrev pub day : ℕ
day = 86400000

abbrev pub million : ℕ
million = 1000000

abbrev pub IsBetween : ℕ → ℕ → ℕ → Type 0
IsBetween least most n = (least ≤ n) × (n ≤ most)

pub record AreLimits (l : LimitKeys) : Type 0 where
  pub write_buffer : l.write_buffer ≤ most_octets
  pub send_buffer : l.send_buffer ≤ most_octets
  pub stream_window : IsBetween 65535 most_octets l.stream_window
  pub connection_window : IsBetween 65535 most_octets l.connection_window
  pub max_streams : IsBetween 1 1000 l.max_streams
  pub field_list : IsBetween 1024 61440 l.field_list
  pub control_frames : IsBetween 1 10000 l.control_frames
  pub empty_frames : IsBetween 1 10000 l.empty_frames
  pub peer_resets : IsBetween 1 1000000 l.peer_resets
  pub quantum : IsBetween 16384 1048576 l.quantum
  pub frame_size : IsBetween 16384 1048576 l.frame_size
  pub overflow_multiple : l.overflow_multiple ≤ 1000

pub record AreTimeouts (t : TimeoutKeys) : Type 0 where
  pub route : t.route ≤ day
  pub stream_idle : t.stream_idle ≤ day
  pub connection_idle : t.connection_idle ≤ day
  pub stream_idle_min : t.stream_idle_min ≤ t.stream_idle
  pub connection_idle_min : t.connection_idle_min ≤ t.connection_idle

abbrev pub IsFilter : Filter → Type 0
IsFilter Pass = Unit {0}
IsFilter (Hold limit) = IsBetween 1 most_octets limit
IsFilter (Meter limit rate) = IsBetween 1 most_octets limit × IsBetween 1 most_octets rate

-- the filters of one flow
pub record AreFilters (filters : List Filter) : Type 0 where
  pub few : length filters ≤ 8
  pub each : All IsFilter filters

pub record IsRoute (r : Route) : Type 0 where
  pub request : AreFilters r.request
  pub response : AreFilters r.response
  pub hold_limit : IsBetween 1 most_octets r.hold_limit
  pub meter_limit : IsBetween 1 most_octets r.meter_limit
  pub meter_rate : IsBetween 1 most_octets r.meter_rate

abbrev pub IsForm : Form → Type 0
IsForm (Threshold value) = value ≤ million
IsForm (Scaled scaling saturation) = (scaling < saturation) × (saturation ≤ million)

-- a trigger and a shed row over so many resources
pub record IsTrigger (resources : ℕ) (t : Trigger) : Type 0 where
  pub action : t.action < 6
  pub resource : t.resource < resources
  pub form : IsForm t.form

pub record IsShedRow (resources : ℕ) (s : ShedRow) : Type 0 where
  pub resource : s.resource < resources
  pub form : IsForm s.form

pub record IsOverload (o : OverloadKeys) : Type 0 where
  pub resources : length o.resources ≤ 16
  pub class_start : IsBetween 10 40 o.class_start
  pub few_triggers : length o.triggers ≤ 64
  pub triggers : All (IsTrigger (length o.resources)) o.triggers
  pub few_shed : length o.shed ≤ 16
  pub shed : All (IsShedRow (length o.resources)) o.shed

pub record IsProxy (p : ProxyKeys) : Type 0 where
  pub workers : IsBetween 1 16 p.workers
  pub connections : IsBetween 1 16 p.connections
  pub max_connections : IsBetween 1 1000000 p.max_connections
  pub accept_rate : p.accept_rate ≤ 1000000
  pub accept_burst : IsBetween 1 1000000 p.accept_burst

-- each number is in its range, and each route goes to a cluster of the list
pub record IsInRange (c : Config) : Type 0 where
  pub limits : AreLimits c.limits
  pub timeouts : AreTimeouts c.timeouts
  pub routes : All IsRoute c.routes
  pub listed : All (IsListed c.clusters) c.routes
  pub overload : IsOverload c.overload
  pub proxy : IsProxy c.proxy
