-- The numbers of a configuration without faults are in their ranges.
use Rattle.std.proofs.Common.{◌≡◌, ◌+◌, ◌<◌, ◌≤◌, ℕ, Bool, true, false, ◌&&◌, nat_le, nat_lt, List, [], ◌∷◌, ◌++◌, length, Option, Some, None, refl, inl, inr, Result, Ok, Err, arith, map, codes, position, unwrap_or, IfOk, if◌then◌else◌, lit≤, lit<}
use Rattle.std.proofs.lemmas.Bool.{and_parts, cases_Bool, leb-true, false≢true}
use Rattle.std.proofs.lemmas.List.Elements.{All-from_recursion}
use Rattle.std.specs.List.{AllByRecursion, list_all, position_or_len}
use Rattle.std.specs.Option.{option_and_then}
use Rattle.std.specs.Str.{bytes_eq}
use Rattle.toml.specs.Data.{Data, Members, no_members, as_table, as_str, as_integer, get_member}
use Rattle.config_tables.specs.Answers.{Checks}
use Rattle.proxy_config.specs.Clusters.{is_taken, IsListed}
use Rattle.proxy_config.specs.declared.config.Cluster.{Cluster}
use Rattle.proxy_config.specs.declared.config.Config.{Config}
use Rattle.config_tables.specs.Keys.{Key, number, text, texts, key_faults, keys_faults, unknown_faults, number_at, are_names_up_to, any_text, words_up_to}
use Rattle.proxy_config.specs.Ranges.{IsBetween, AreLimits, AreTimeouts, IsFilter, AreFilters, IsRoute, IsForm, IsTrigger, IsShedRow, IsOverload, IsProxy, IsInRange, most_octets, day, million}
use Rattle.config_tables.specs.Reading.{made_row, rows_of, row_place, table_row_faults, row_faults, rows_faults, overload_faults, overload_of, config_faults, config_made, limits_faults, timeouts_faults, clusters_key, clusters_faults, routes_key, routes_faults, overload_key, resource_names, triggers_faults, shed_faults, stray_fault, stray_faults, tables_faults, top_keys}
use Rattle.config_tables.specs.Tables.{limits_of, timeouts_of, proxy_of, stream_idle, connection_idle, route_keys, route_of, filter_of, filter_words, is_scaled, scaling, saturation, value, trigger_keys, trigger_of, shed_keys, shed_row_of, actions, needed, optional, target_key, resource, resources, class_start, triggers, shed, place_at, points}
use Rattle.config_tables.specs.Texts.{is_among, is_name}
use Rattle.config_tables.specs.Values.{strings_at, list_at, table_at, text_at}
use Rattle.proxy_config.specs.declared.overload.Form.TheVariants.{Threshold, Scaled}
use Rattle.config_tables.specs.declared.fault.ConfigFault.{ConfigFault}
use Rattle.config_tables.specs.declared.fault.ConfigFault.TheVariants.{UnknownCluster}
use Rattle.proxy_config.specs.declared.routes.Route.{Route}
use Rattle.config_tables.proofs.Fits.{no_parts, number_between, fits_between, needed_fits, judged_some, strings_pass, rows_pass}
use Rattle.config_tables.proofs.Lists.{length-map}

-- the number at a key is in the key's range
key_between : (name : List ℕ) (least most other : ℕ) (ms : Members) → least ≤ other → other ≤ most → IsBetween least most (number_at (optional name (number least most other)) ms)
key_between name least most other ms low high = number_between least most other (option_and_then as_integer (get_member name ms)) low high

limits_in_range : (ms : Members) → AreLimits (limits_of ms)
limits_in_range ms = record {
  write_buffer = (key_between (codes "write_buffer") 0 most_octets 1048576 ms (lit≤ tt) (lit≤ tt)).1;
  send_buffer = (key_between (codes "send_buffer") 0 most_octets 65536 ms (lit≤ tt) (lit≤ tt)).1;
  stream_window = key_between (codes "stream_window") 65535 most_octets 65535 ms (lit≤ tt) (lit≤ tt);
  connection_window = key_between (codes "connection_window") 65535 most_octets 1048576 ms (lit≤ tt) (lit≤ tt);
  max_streams = key_between (codes "max_streams") 1 1000 100 ms (lit≤ tt) (lit≤ tt);
  field_list = key_between (codes "field_list") 1024 61440 61440 ms (lit≤ tt) (lit≤ tt);
  control_frames = key_between (codes "control_frames") 1 10000 1000 ms (lit≤ tt) (lit≤ tt);
  empty_frames = key_between (codes "empty_frames") 1 10000 100 ms (lit≤ tt) (lit≤ tt);
  peer_resets = key_between (codes "peer_resets") 1 1000000 1000 ms (lit≤ tt) (lit≤ tt);
  quantum = key_between (codes "quantum") 16384 1048576 16384 ms (lit≤ tt) (lit≤ tt);
  frame_size = key_between (codes "frame_size") 16384 1048576 16384 ms (lit≤ tt) (lit≤ tt);
  overflow_multiple = (key_between (codes "overflow_multiple") 0 1000 0 ms (lit≤ tt) (lit≤ tt)).1;
}

timeouts_in_range : (ms : Members) → AreTimeouts (timeouts_of ms)
timeouts_in_range ms =
    let idle = number_at stream_idle ms in
    let alone = number_at connection_idle ms in
    record {
      route = (key_between (codes "route") 0 day 15000 ms (lit≤ tt) (lit≤ tt)).1;
      stream_idle = (key_between (codes "stream_idle") 0 day 300000 ms (lit≤ tt) (lit≤ tt)).1;
      connection_idle = (key_between (codes "connection_idle") 0 day 3600000 ms (lit≤ tt) (lit≤ tt)).1;
      stream_idle_min = (key_between (codes "stream_idle_min") 0 idle idle ms (omega arith) (omega arith)).1;
      connection_idle_min = (key_between (codes "connection_idle_min") 0 alone alone ms (omega arith) (omega arith)).1;
    }

proxy_in_range : (ms : Members) → IsProxy (proxy_of ms)
proxy_in_range ms = record {
  workers = key_between (codes "workers") 1 16 2 ms (lit≤ tt) (lit≤ tt);
  connections = key_between (codes "connections") 1 16 1 ms (lit≤ tt) (lit≤ tt);
  max_connections = key_between (codes "max_connections") 1 1000000 1000 ms (lit≤ tt) (lit≤ tt);
  accept_rate = (key_between (codes "accept_rate") 0 1000000 0 ms (lit≤ tt) (lit≤ tt)).1;
  accept_burst = key_between (codes "accept_burst") 1 1000000 1000 ms (lit≤ tt) (lit≤ tt);
}

-- filters: any word gives one with its row's limits
filter_in_range : (ms : Members) (word : List ℕ) → IsFilter (filter_of ms word)
filter_in_range ms word =
    elim (cases_Bool (bytes_eq word (codes "hold"))) [
      | inl holds ↦ rw holds (key_between (codes "hold_limit") 1 most_octets 1048576 ms (lit≤ tt) (lit≤ tt))
      | inr other ↦ rw other (elim (cases_Bool (bytes_eq word (codes "meter"))) [
        | inl meters ↦ rw meters (key_between (codes "meter_limit") 1 most_octets 1048576 ms (lit≤ tt) (lit≤ tt), key_between (codes "meter_rate") 1 most_octets 65536 ms (lit≤ tt) (lit≤ tt))
        | inr passes ↦ rw passes tt
      ])
    ]

filters_in_range : (ms : Members) (words : List (List ℕ)) → AllByRecursion IsFilter (map (filter_of ms) words)
filters_in_range ms [] = tt
filters_in_range ms (w ∷ ws) = (filter_in_range ms w, filters_in_range ms ws)

few_filters : (place : List ℕ) (ms : Members) (name : List ℕ) → key_faults place ms (optional name (texts (λ ts. nat_le (length ts) 8 && list_all (is_among filter_words) ts))) ≡ []
    → AreFilters (map (filter_of ms) (strings_at name ms))
few_filters place ms name h =
    let words = strings_at name ms in
    let pass = strings_pass place ms name (λ ts. nat_le (length ts) 8 && list_all (is_among filter_words) ts) h refl in
    let few : length words ≤ 8 = leb-true _ _ (and_parts _ _ pass).0 in
    record {
      few = rw (length-map (filter_of ms) words) few;
      each = All-from_recursion IsFilter (map (filter_of ms) words) (filters_in_range ms words);
    }

route_in_range : (place : List ℕ) (ms : Members) → keys_faults place ms (route_keys ms) ≡ [] → IsRoute (route_of ms)
route_in_range place ms h =
    let after_authority = (no_parts (key_faults place ms (optional (codes "authority") any_text)) _ h).1 in
    let after_target = (no_parts (key_faults place ms (target_key ms)) _ after_authority).1 in
    let after_cluster = (no_parts (key_faults place ms (needed (codes "cluster") (text is_name))) _ after_target).1 in
    let request = no_parts (key_faults place ms (optional (codes "request") (words_up_to 8 filter_words))) _ after_cluster in
    let response = no_parts (key_faults place ms (optional (codes "response") (words_up_to 8 filter_words))) _ request.1 in
    record {
      request = few_filters place ms (codes "request") request.0;
      response = few_filters place ms (codes "response") response.0;
      hold_limit = key_between (codes "hold_limit") 1 most_octets 1048576 ms (lit≤ tt) (lit≤ tt);
      meter_limit = key_between (codes "meter_limit") 1 most_octets 1048576 ms (lit≤ tt) (lit≤ tt);
      meter_rate = key_between (codes "meter_rate") 1 most_octets 65536 ms (lit≤ tt) (lit≤ tt);
    }

row_in_range : {T : Type 0} (P : T → Type 0) (list : List ℕ) (row_keys : Members → List Key) (row_of : Members → T)
    → ((place : List ℕ) (ms : Members) → keys_faults place ms (row_keys ms) ≡ [] → P (row_of ms))
    → (before : List T) (o : Option Members) → table_row_faults list (λ before ms. row_keys ms) before o ≡ [] → P (row_of (unwrap_or o no_members))
row_in_range P list row_keys row_of each before None h = absurd (cc)
row_in_range P list row_keys row_of each before (Some ms) h =
    let place = row_place list (length before) in
    each place ms (no_parts (keys_faults place ms (row_keys ms)) _ h).0

-- rows without faults: each is in range where each table without faults is
rows_in_range : {T : Type 0} (P : T → Type 0) (list : List ℕ) (row_keys : Members → List Key) (row_of : Members → T)
    → ((place : List ℕ) (ms : Members) → keys_faults place ms (row_keys ms) ≡ [] → P (row_of ms))
    → (before : List T) (ds : List Data) → rows_faults (row_faults list (λ before ms. row_keys ms)) row_of before ds ≡ [] → AllByRecursion P (rows_of row_of ds)
rows_in_range P list row_keys row_of each before [] h = tt
rows_in_range P list row_keys row_of each before (d ∷ ds) h =
    let parts = no_parts (row_faults list (λ before ms. row_keys ms) before d) _ h in
    (row_in_range P list row_keys row_of each before (as_table d) parts.0, rows_in_range P list row_keys row_of each (before ++ made_row row_of d ∷ []) ds parts.1)

-- a trigger's and a shed row's resource and form
some_below : (p : List ℕ → Bool) (xs : List (List ℕ)) → 0 < length xs → unwrap_or (position p xs) 0 < length xs
some_below p xs some =
    elim (cases_Bool (nat_lt (position_or_len p xs) (length xs))) [
      | inl below ↦ rw below (leb-true _ _ below)
      | inr none ↦ rw none some
    ]

some_among : (names : List (List ℕ)) (t : List ℕ) → is_among names t ≡ true → 0 < length names
some_among [] t h = absurd (false≢true h)
some_among (n ∷ ns) t h = omega arith

resource_in_range : (place : List ℕ) (names : List (List ℕ)) (ms : Members) → key_faults place ms (resource names) ≡ [] → place_at names (codes "resource") ms < length names
resource_in_range place names ms h =
    let (d, there, fits) = needed_fits place ms (codes "resource") (text (is_among names)) h in
    let (t, string, among) = judged_some (as_str d) (is_among names) fits in
    some_below _ names (some_among names t among)

form_in_range : (scaled : Bool) (place : List ℕ) (ms : Members)
    → keys_faults place ms (if scaled then scaling ∷ saturation (number_at scaling ms) ∷ [] else value ∷ []) ≡ []
    → IsForm (if scaled then Scaled (number_at scaling ms) (number_at (saturation (number_at scaling ms)) ms) else Threshold (number_at value ms))
form_in_range false place ms h = (number_between 0 million 0 (option_and_then as_integer (get_member (codes "value") ms)) (lit≤ tt) (lit≤ tt)).1
form_in_range true place ms h =
    let from = number_at scaling ms in
    let after = (no_parts (key_faults place ms scaling) _ h).1 in
    let key = (no_parts (key_faults place ms (saturation from)) _ after).0 in
    let (d, there, fits) = needed_fits place ms (codes "saturation") (number (from + 1) million 0) key in
    let inside = fits_between (from + 1) million 0 (as_integer d) fits in
    rw there (omega arith, inside.1)

trigger_in_range : (names : List (List ℕ)) (place : List ℕ) (ms : Members) → keys_faults place ms (trigger_keys names ms) ≡ [] → IsTrigger (length names) (trigger_of names ms)
trigger_in_range names place ms h =
    let after_action = (no_parts (key_faults place ms (needed (codes "action") (text (is_among actions)))) _ h).1 in
    let parts = no_parts (key_faults place ms (resource names)) _ after_action in
    record {
      action = some_below (bytes_eq (unwrap_or (text_at (codes "action") ms) [])) actions (lit< tt);
      resource = resource_in_range place names ms parts.0;
      form = form_in_range (is_scaled ms) place ms parts.1;
    }

shed_row_in_range : (names : List (List ℕ)) (place : List ℕ) (ms : Members) → keys_faults place ms (shed_keys names ms) ≡ [] → IsShedRow (length names) (shed_row_of names ms)
shed_row_in_range names place ms h =
    let after_point = (no_parts (key_faults place ms (needed (codes "point") (text (is_among points)))) _ h).1 in
    let parts = no_parts (key_faults place ms (resource names)) _ after_point in
    record {
      resource = resource_in_range place names ms parts.0;
      form = form_in_range (is_scaled ms) place ms parts.1;
    }

overload_in_range : (place : List ℕ) (ms : Members) → overload_faults place ms ≡ [] → IsOverload (overload_of ms)
overload_in_range place ms h =
    let names = resource_names ms in
    let keys = no_parts (keys_faults place ms (resources ∷ class_start ∷ triggers ∷ [])) _ h in
    let first_key = no_parts (key_faults place ms resources) _ keys.0 in
    let second_key = no_parts (key_faults place ms class_start) _ first_key.1 in
    let third_key = no_parts (key_faults place ms triggers) _ second_key.1 in
    let trigger_rows = no_parts (triggers_faults names (list_at (codes "triggers") ms)) _ keys.1 in
    let last_key = no_parts (keys_faults place ms (shed ∷ [])) _ trigger_rows.1 in
    let shed_key = no_parts (key_faults place ms shed) _ last_key.0 in
    let shed_rows = no_parts (shed_faults names (list_at (codes "shed") ms)) _ last_key.1 in
    let named = strings_pass place ms (codes "resources") (are_names_up_to 16) first_key.0 refl in
    record {
      resources = leb-true _ _ (and_parts _ _ (and_parts _ _ named).0).0;
      class_start = key_between (codes "class_start") 10 40 20 ms (lit≤ tt) (lit≤ tt);
      few_triggers = rw (length-map (made_row (trigger_of names)) (list_at (codes "triggers") ms)) (leb-true _ _ (rows_pass place ms (codes "triggers") (λ n. nat_le n 64) third_key.0 refl));
      triggers = All-from_recursion (IsTrigger (length names)) _
          (rows_in_range (IsTrigger (length names)) (codes "overload.triggers") (trigger_keys names) (trigger_of names) (trigger_in_range names) [] (list_at (codes "triggers") ms) trigger_rows.0);
      few_shed = rw (length-map (made_row (shed_row_of names)) (list_at (codes "shed") ms)) (leb-true _ _ (rows_pass place ms (codes "shed") (λ n. nat_le n 16) shed_key.0 refl));
      shed = All-from_recursion (IsShedRow (length names)) _
          (rows_in_range (IsShedRow (length names)) (codes "overload.shed") (shed_keys names) (shed_row_of names) (shed_row_in_range names) [] (list_at (codes "shed") ms) shed_rows.0);
    }

-- the cluster of each route, where none is a stray
listed_one : (clusters : List Cluster) (i : ℕ) (name : List ℕ) → stray_fault clusters i name ≡ [] → is_taken clusters name ≡ true
listed_one clusters i name h =
    elim (cases_Bool (is_taken clusters name)) [
      | inl taken ↦ taken
      | inr stray ↦ absurd (let fault : UnknownCluster (row_place (codes "routes") i ++ codes "cluster") ∷ [] ≡ [] = rw stray at h in cc)
    ]

all_listed : (clusters : List Cluster) (i : ℕ) (routes : List Route) → stray_faults clusters i routes ≡ [] → AllByRecursion (IsListed clusters) routes
all_listed clusters i [] h = tt
all_listed clusters i (r ∷ rs) h =
    let parts = no_parts (stray_fault clusters i r.cluster) _ h in
    (listed_one clusters i r.cluster parts.0, all_listed clusters (i + 1) rs parts.1)

-- the configuration of a document without faults
pub config_in_range : (top : Members) → config_faults top ≡ [] → IsInRange (config_made top)
config_in_range top h =
    let both = no_parts (tables_faults top) _ h in
    let after_limits = (no_parts (limits_faults top) _ both.0).1 in
    let after_timeouts = (no_parts (timeouts_faults top) _ after_limits).1 in
    let clusters = no_parts (keys_faults [] top (clusters_key ∷ []) ++ clusters_faults (list_at (codes "clusters") top)) _ after_timeouts in
    let routes = no_parts (keys_faults [] top (routes_key ∷ []) ++ routes_faults (list_at (codes "routes") top)) _ clusters.1 in
    let overload = no_parts (keys_faults [] top (overload_key ∷ []) ++ overload_faults (codes "overload.") (table_at (codes "overload") top)) _ routes.1 in
    let route_rows = (no_parts (keys_faults [] top (routes_key ∷ [])) _ routes.0).1 in
    let overload_keys = (no_parts (keys_faults [] top (overload_key ∷ [])) _ overload.0).1 in
    let rest = no_parts (unknown_faults [] top top_keys) _ both.1 in
    let made = config_made top in
    record {
      limits = limits_in_range (table_at (codes "limits") top);
      timeouts = timeouts_in_range (table_at (codes "timeouts") top);
      routes = All-from_recursion IsRoute _ (rows_in_range IsRoute (codes "routes") route_keys route_of route_in_range [] (list_at (codes "routes") top) route_rows);
      listed = All-from_recursion (IsListed made.clusters) _ (all_listed made.clusters 0 made.routes rest.1);
      overload = overload_in_range (codes "overload.") (table_at (codes "overload") top) overload_keys;
      proxy = proxy_in_range (table_at (codes "proxy") top);
    }

-- and so for what the reader answers
pub result_in_range : (top : Members) (r : Result Config ConfigFault) → Checks (config_faults top) r → IfOk r (λ c. c ≡ config_made top) → IfOk r IsInRange
result_in_range top (Ok c) none same = rw same (config_in_range top none)
result_in_range top (Err fault) first same = tt
