-- The keys of each table, and what the configuration has of them.
use Rattle.std.specs.Prelude.{ℕ, ◌+◌, Bool, true, false, ◌&&◌, ◌||◌, not, nat_le, List, [], ◌∷◌, Option, map, codes, if◌then◌else◌, position, unwrap_or}
use Rattle.std.specs.Str.{bytes_eq}
use Rattle.toml.specs.Data.{Members}
pub use Rattle.proxy_config.specs.Clusters.{is_taken}
use Rattle.proxy_config.specs.Defaults.{default_limits, default_timeouts, default_proxy}
use Rattle.config_tables.specs.Keys.{Key, Kind, number, text, tables, texts, any_text, are_names_up_to, words_up_to, number_at}
use Rattle.proxy_config.specs.Ranges.{most_octets, day, million}
use Rattle.config_tables.specs.Texts.{is_name, is_among}
use Rattle.config_tables.specs.Values.{has_key, text_at, strings_at}
use Rattle.proxy_config.specs.declared.config.Cluster.{Cluster}
use Rattle.proxy_config.specs.declared.config.LimitKeys.{LimitKeys}
use Rattle.proxy_config.specs.declared.config.ProxyKeys.{ProxyKeys}
use Rattle.proxy_config.specs.declared.config.TimeoutKeys.{TimeoutKeys}
use Rattle.proxy_config.specs.declared.overload.Form.{Form}
use Rattle.proxy_config.specs.declared.overload.Form.TheVariants.{Threshold, Scaled}
use Rattle.proxy_config.specs.declared.overload.Point.{Point}
use Rattle.proxy_config.specs.declared.overload.Point.TheVariants.{Accept, Read, Drain}
use Rattle.proxy_config.specs.declared.overload.ShedRow.{ShedRow}
use Rattle.proxy_config.specs.declared.overload.Trigger.{Trigger}
use Rattle.proxy_config.specs.declared.routes.Filter.{Filter}
use Rattle.proxy_config.specs.declared.routes.Filter.TheVariants.{Pass, Hold, Meter}
use Rattle.proxy_config.specs.declared.routes.Route.{Route}

-- a key that may be absent, and one that must be there
abbrev pub optional : List ℕ → Kind → Key
optional name kind = record { name = name; needed = false; kind = kind }

abbrev pub needed : List ℕ → Kind → Key
needed name kind = record { name = name; needed = true; kind = kind }

-- the numbers of the keys of a table
abbrev pub numbers_at : List Key → Members → List ℕ
numbers_at keys ms = map (λ key. number_at key ms) keys

-- limits: each with its least, its most, and what stands for it
abbrev pub limit_keys : List Key
limit_keys =
    optional (codes "write_buffer") (number 0 most_octets 1048576)
    ∷ optional (codes "send_buffer") (number 0 most_octets 65536)
    ∷ optional (codes "stream_window") (number 65535 most_octets 65535)
    ∷ optional (codes "connection_window") (number 65535 most_octets 1048576)
    ∷ optional (codes "max_streams") (number 1 1000 100)
    ∷ optional (codes "field_list") (number 1024 61440 61440)
    ∷ optional (codes "control_frames") (number 1 10000 1000)
    ∷ optional (codes "empty_frames") (number 1 10000 100)
    ∷ optional (codes "peer_resets") (number 1 1000000 1000)
    ∷ optional (codes "quantum") (number 16384 1048576 16384)
    ∷ optional (codes "frame_size") (number 16384 1048576 16384)
    ∷ optional (codes "overflow_multiple") (number 0 1000 0)
    ∷ []

-- the numbers in the order of the keys
abbrev pub limits_made : List ℕ → LimitKeys
limits_made (a ∷ b ∷ c ∷ d ∷ e ∷ f ∷ g ∷ h ∷ i ∷ j ∷ k ∷ l ∷ []) = record {
  write_buffer = a;
  send_buffer = b;
  stream_window = c;
  connection_window = d;
  max_streams = e;
  field_list = f;
  control_frames = g;
  empty_frames = h;
  peer_resets = i;
  quantum = j;
  frame_size = k;
  overflow_multiple = l;
}
limits_made _ = default_limits

abbrev pub limits_of : Members → LimitKeys
limits_of ms = limits_made (numbers_at limit_keys ms)

-- timeouts: a least timeout is at most its greatest, which stands for it
abbrev pub stream_idle : Key
stream_idle = optional (codes "stream_idle") (number 0 day 300000)

abbrev pub connection_idle : Key
connection_idle = optional (codes "connection_idle") (number 0 day 3600000)

abbrev pub stream_idle_min : ℕ → Key
stream_idle_min greatest = optional (codes "stream_idle_min") (number 0 greatest greatest)

abbrev pub connection_idle_min : ℕ → Key
connection_idle_min greatest = optional (codes "connection_idle_min") (number 0 greatest greatest)

abbrev pub timeout_keys : Members → List Key
timeout_keys ms =
    optional (codes "route") (number 0 day 15000)
    ∷ stream_idle
    ∷ connection_idle
    ∷ stream_idle_min (number_at stream_idle ms)
    ∷ connection_idle_min (number_at connection_idle ms)
    ∷ []

abbrev pub timeouts_made : List ℕ → TimeoutKeys
timeouts_made (a ∷ b ∷ c ∷ d ∷ e ∷ []) = record { route = a; stream_idle = b; connection_idle = c; stream_idle_min = d; connection_idle_min = e }
timeouts_made _ = default_timeouts

abbrev pub timeouts_of : Members → TimeoutKeys
timeouts_of ms = timeouts_made (numbers_at (timeout_keys ms) ms)

-- a row of clusters, after these clusters
abbrev pub cluster_name : List Cluster → Key
cluster_name before = needed (codes "name") (text (λ t. is_name t && not (is_taken before t)))

abbrev pub cluster_keys : List Cluster → List Key
cluster_keys before = cluster_name before ∷ optional (codes "address") any_text ∷ []

abbrev pub cluster_of : Members → Cluster
cluster_of ms = record { name = unwrap_or (text_at (codes "name") ms) []; address = text_at (codes "address") ms }

-- a row of routes: with a path, or else with a prefix
abbrev pub filter_words : List (List ℕ)
filter_words = codes "pass" ∷ codes "hold" ∷ codes "meter" ∷ []

abbrev pub target_key : Members → Key
target_key ms = if has_key (codes "path") ms then optional (codes "path") any_text else needed (codes "prefix") any_text

abbrev pub hold_limit : Key
hold_limit = optional (codes "hold_limit") (number 1 most_octets 1048576)

abbrev pub meter_limit : Key
meter_limit = optional (codes "meter_limit") (number 1 most_octets 1048576)

abbrev pub meter_rate : Key
meter_rate = optional (codes "meter_rate") (number 1 most_octets 65536)

abbrev pub route_keys : Members → List Key
route_keys ms =
    optional (codes "authority") any_text
    ∷ target_key ms
    ∷ needed (codes "cluster") (text is_name)
    ∷ optional (codes "request") (words_up_to 8 filter_words)
    ∷ optional (codes "response") (words_up_to 8 filter_words)
    ∷ hold_limit
    ∷ meter_limit
    ∷ meter_rate
    ∷ []

-- the filter of a word, with the limits and the rate of its row
abbrev pub filter_of : Members → List ℕ → Filter
filter_of ms word =
    if bytes_eq word (codes "hold") then Hold (number_at hold_limit ms)
    else if bytes_eq word (codes "meter") then Meter (number_at meter_limit ms) (number_at meter_rate ms)
    else Pass

abbrev pub route_of : Members → Route
route_of ms = record {
  authority = text_at (codes "authority") ms;
  path = text_at (codes "path") ms;
  prefix = text_at (codes "prefix") ms;
  cluster = unwrap_or (text_at (codes "cluster") ms) [];
  request = map (filter_of ms) (strings_at (codes "request") ms);
  response = map (filter_of ms) (strings_at (codes "response") ms);
  hold_limit = number_at hold_limit ms;
  meter_limit = number_at meter_limit ms;
  meter_rate = number_at meter_rate ms;
}

-- the form of a trigger or a shed row: scaled where one of its two keys is there, else with a threshold
abbrev pub value : Key
value = needed (codes "value") (number 0 million 0)

abbrev pub scaling : Key
scaling = needed (codes "scaling") (number 0 million 0)

abbrev pub saturation : ℕ → Key
saturation scaled_from = needed (codes "saturation") (number (scaled_from + 1) million 0)

abbrev pub is_scaled : Members → Bool
is_scaled ms = has_key (codes "scaling") ms || has_key (codes "saturation") ms

abbrev pub form_keys : Members → List Key
form_keys ms = if is_scaled ms then scaling ∷ saturation (number_at scaling ms) ∷ [] else value ∷ []

abbrev pub form_of : Members → Form
form_of ms = if is_scaled ms then Scaled (number_at scaling ms) (number_at (saturation (number_at scaling ms)) ms) else Threshold (number_at value ms)

-- the number of the first of these words that stands at a key, from 0
abbrev pub place_at : List (List ℕ) → List ℕ → Members → ℕ
place_at words name ms = unwrap_or (position (bytes_eq (unwrap_or (text_at name ms) [])) words) 0

abbrev pub resource : List (List ℕ) → Key
resource names = needed (codes "resource") (text (is_among names))

-- a row of triggers over these resources
abbrev pub actions : List (List ℕ)
actions =
    codes "stop_requests"
    ∷ codes "stop_accepting"
    ∷ codes "reject_incoming"
    ∷ codes "no_keepalive"
    ∷ codes "reduce_timeouts"
    ∷ codes "reset_streams"
    ∷ []

abbrev pub trigger_keys : List (List ℕ) → Members → List Key
trigger_keys names ms = needed (codes "action") (text (is_among actions)) ∷ resource names ∷ form_keys ms

abbrev pub trigger_of : List (List ℕ) → Members → Trigger
trigger_of names ms = record {
  action = place_at actions (codes "action") ms;
  resource = place_at names (codes "resource") ms;
  form = form_of ms;
}

-- a row of shed points over these resources
abbrev pub points : List (List ℕ)
points = codes "accept" ∷ codes "read" ∷ codes "drain" ∷ []

abbrev pub shed_keys : List (List ℕ) → Members → List Key
shed_keys names ms = needed (codes "point") (text (is_among points)) ∷ resource names ∷ form_keys ms

abbrev pub point_of : List ℕ → Point
point_of word = if bytes_eq word (codes "read") then Read else if bytes_eq word (codes "drain") then Drain else Accept

abbrev pub shed_row_of : List (List ℕ) → Members → ShedRow
shed_row_of names ms = record {
  point = point_of (unwrap_or (text_at (codes "point") ms) []);
  resource = place_at names (codes "resource") ms;
  form = form_of ms;
}

-- overload
abbrev pub resources : Key
resources = optional (codes "resources") (texts (are_names_up_to 16))

abbrev pub class_start : Key
class_start = optional (codes "class_start") (number 10 40 20)

abbrev pub triggers : Key
triggers = optional (codes "triggers") (tables (λ n. nat_le n 64))

abbrev pub shed : Key
shed = optional (codes "shed") (tables (λ n. nat_le n 16))

-- proxy
abbrev pub proxy_numbers : List Key
proxy_numbers =
    optional (codes "workers") (number 1 16 2)
    ∷ optional (codes "connections") (number 1 16 1)
    ∷ optional (codes "max_connections") (number 1 1000000 1000)
    ∷ optional (codes "accept_rate") (number 0 1000000 0)
    ∷ optional (codes "accept_burst") (number 1 1000000 1000)
    ∷ []

abbrev pub proxy_keys : List Key
proxy_keys = optional (codes "listen") any_text ∷ optional (codes "journal") any_text ∷ proxy_numbers

abbrev pub proxy_made : List ℕ → Option (List ℕ) → List ℕ → ProxyKeys
proxy_made listen journal (a ∷ b ∷ c ∷ d ∷ e ∷ []) = record {
  listen = listen;
  journal = journal;
  workers = a;
  connections = b;
  max_connections = c;
  accept_rate = d;
  accept_burst = e;
}
proxy_made listen journal _ = default_proxy

abbrev pub proxy_of : Members → ProxyKeys
proxy_of ms = proxy_made (unwrap_or (text_at (codes "listen") ms) (codes "127.0.0.1:0")) (text_at (codes "journal") ms) (numbers_at proxy_numbers ms)
