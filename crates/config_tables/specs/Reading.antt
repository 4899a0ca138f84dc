-- The configuration as a function of the text, with the first of its faults.
use Rattle.std.specs.Fmt.{decimal}
use Rattle.std.specs.Prelude.{ℕ, ◌+◌, true, List, [], ◌∷◌, ◌++◌, length, Option, Some, None, Result, Ok, Err, map, codes, if◌then◌else◌, unwrap_or}
use Rattle.std.specs.Str.{is_utf8}
use Rattle.toml.specs.Data.{Data, Members, no_members, as_table}
use Rattle.toml.specs.Parse.{parse_document}
use Rattle.config_tables.specs.Keys.{Key, keys_faults, unknown_faults, table_faults, section, tables, number_at}
use Rattle.config_tables.specs.Tables.{optional, limit_keys, limits_of, timeout_keys, timeouts_of, cluster_keys, cluster_of, route_keys, route_of, trigger_keys, trigger_of, shed_keys, shed_row_of, resources, class_start, triggers, shed, is_taken, proxy_keys, proxy_of}
use Rattle.config_tables.specs.Values.{list_at, strings_at, table_at}
use Rattle.proxy_config.specs.declared.config.Cluster.{Cluster}
use Rattle.proxy_config.specs.declared.config.Config.{Config}
use Rattle.config_tables.specs.declared.fault.ConfigFault.{ConfigFault}
use Rattle.config_tables.specs.declared.fault.ConfigFault.TheVariants.{NotToml, WrongKind, UnknownCluster}
use Rattle.proxy_config.specs.declared.overload.OverloadKeys.{OverloadKeys}
use Rattle.proxy_config.specs.declared.overload.ShedRow.{ShedRow}
use Rattle.proxy_config.specs.declared.overload.Trigger.{Trigger}
use Rattle.proxy_config.specs.declared.routes.Route.{Route}

-- how a row of a list is spelled, as `routes.0`, and what stands before its keys
abbrev pub row_name : List ℕ → ℕ → List ℕ
row_name list i = list ++ (codes "." ++ decimal i)

abbrev pub row_place : List ℕ → ℕ → List ℕ
row_place list i = list ++ (codes "." ++ (decimal i ++ codes "."))

-- the members of a row
abbrev pub row_members : Data → Members
row_members d = unwrap_or (as_table d) no_members

-- what a row gives, and what the rows give
abbrev pub made_row : {T : Type 0} → (Members → T) → Data → T
made_row row_of d = row_of (row_members d)

abbrev pub rows_of : {T : Type 0} → (Members → T) → List Data → List T
rows_of row_of ds = map (made_row row_of) ds

-- The faults of a row of a list whose name is spelled so, after these rows. A row's keys may depend on the rows before it.
abbrev pub table_row_faults : {T : Type 0} → List ℕ → (List T → Members → List Key) → List T → Option Members → List ConfigFault
table_row_faults list row_keys before None = WrongKind (row_name list (length before)) ∷ []
table_row_faults list row_keys before (Some ms) = table_faults (row_place list (length before)) ms (row_keys before ms)

abbrev pub row_faults : {T : Type 0} → List ℕ → (List T → Members → List Key) → List T → Data → List ConfigFault
row_faults list row_keys before d = table_row_faults list row_keys before (as_table d)

-- the faults of some rows after others, in their order
abbrev pub rows_faults : {T : Type 0} → (List T → Data → List ConfigFault) → (Members → T) → List T → List Data → List ConfigFault
rows_faults faults row_of before [] = []
rows_faults faults row_of before (d ∷ ds) = faults before d ++ rows_faults faults row_of (before ++ made_row row_of d ∷ []) ds

-- the faults of some parts, in their order
abbrev pub joined : List (List ConfigFault) → List ConfigFault
joined [] = []
joined (part ∷ parts) = part ++ joined parts

-- the four lists of tables: the faults of one row after others, and of the rows
abbrev pub cluster_row_faults : List Cluster → Data → List ConfigFault
cluster_row_faults = row_faults (codes "clusters") (λ before ms. cluster_keys before)

abbrev pub clusters_faults : List Data → List ConfigFault
clusters_faults ds = rows_faults cluster_row_faults cluster_of [] ds

abbrev pub route_row_faults : List Route → Data → List ConfigFault
route_row_faults = row_faults (codes "routes") (λ before ms. route_keys ms)

abbrev pub routes_faults : List Data → List ConfigFault
routes_faults ds = rows_faults route_row_faults route_of [] ds

abbrev pub trigger_row_faults : List (List ℕ) → List Trigger → Data → List ConfigFault
trigger_row_faults names = row_faults (codes "overload.triggers") (λ before ms. trigger_keys names ms)

abbrev pub triggers_faults : List (List ℕ) → List Data → List ConfigFault
triggers_faults names ds = rows_faults (trigger_row_faults names) (trigger_of names) [] ds

abbrev pub shed_row_faults : List (List ℕ) → List ShedRow → Data → List ConfigFault
shed_row_faults names = row_faults (codes "overload.shed") (λ before ms. shed_keys names ms)

abbrev pub shed_faults : List (List ℕ) → List Data → List ConfigFault
shed_faults names ds = rows_faults (shed_row_faults names) (shed_row_of names) [] ds

-- the table overload: its rows stand between its keys
abbrev pub resource_names : Members → List (List ℕ)
resource_names ms = strings_at (codes "resources") ms

abbrev pub overload_faults : List ℕ → Members → List ConfigFault
overload_faults place ms =
    joined (
    keys_faults place ms (resources ∷ class_start ∷ triggers ∷ [])
    ∷ triggers_faults (resource_names ms) (list_at (codes "triggers") ms)
    ∷ keys_faults place ms (shed ∷ [])
    ∷ shed_faults (resource_names ms) (list_at (codes "shed") ms)
    ∷ unknown_faults place ms (resources ∷ class_start ∷ triggers ∷ shed ∷ [])
    ∷ [])

abbrev pub overload_of : Members → OverloadKeys
overload_of ms = record {
  resources = resource_names ms;
  class_start = number_at class_start ms;
  triggers = rows_of (trigger_of (resource_names ms)) (list_at (codes "triggers") ms);
  shed = rows_of (shed_row_of (resource_names ms)) (list_at (codes "shed") ms);
}

-- the routes, from this number on, whose clusters aren't there
abbrev pub stray_fault : List Cluster → ℕ → List ℕ → List ConfigFault
stray_fault clusters i name = if is_taken clusters name then [] else UnknownCluster (row_place (codes "routes") i ++ codes "cluster") ∷ []

abbrev pub stray_faults : List Cluster → ℕ → List Route → List ConfigFault
stray_faults clusters i [] = []
stray_faults clusters i (r ∷ rs) = stray_fault clusters i r.cluster ++ stray_faults clusters (i + 1) rs

-- the keys of the document
abbrev pub limits_key : Key
limits_key = optional (codes "limits") section

abbrev pub timeouts_key : Key
timeouts_key = optional (codes "timeouts") section

abbrev pub clusters_key : Key
clusters_key = optional (codes "clusters") (tables (λ n. true))

abbrev pub routes_key : Key
routes_key = optional (codes "routes") (tables (λ n. true))

abbrev pub overload_key : Key
overload_key = optional (codes "overload") section

abbrev pub proxy_key : Key
proxy_key = optional (codes "proxy") section

abbrev pub top_keys : List Key
top_keys = limits_key ∷ timeouts_key ∷ clusters_key ∷ routes_key ∷ overload_key ∷ proxy_key ∷ []

-- what the document gives
abbrev pub config_made : Members → Config
config_made top = record {
  limits = limits_of (table_at (codes "limits") top);
  timeouts = timeouts_of (table_at (codes "timeouts") top);
  clusters = rows_of cluster_of (list_at (codes "clusters") top);
  routes = rows_of route_of (list_at (codes "routes") top);
  overload = overload_of (table_at (codes "overload") top);
  proxy = proxy_of (table_at (codes "proxy") top);
}

-- a table of the document: its own key, and then what is in it
abbrev pub limits_faults : Members → List ConfigFault
limits_faults top = keys_faults [] top (limits_key ∷ []) ++ table_faults (codes "limits.") (table_at (codes "limits") top) limit_keys

abbrev pub timeouts_faults : Members → List ConfigFault
timeouts_faults top =
    let ms = table_at (codes "timeouts") top in
    keys_faults [] top (timeouts_key ∷ []) ++ table_faults (codes "timeouts.") ms (timeout_keys ms)

abbrev pub proxy_faults : Members → List ConfigFault
proxy_faults top = keys_faults [] top (proxy_key ∷ []) ++ table_faults (codes "proxy.") (table_at (codes "proxy") top) proxy_keys

-- the faults of its tables, in their order
abbrev pub tables_faults : Members → List ConfigFault
tables_faults top =
    joined (
    limits_faults top
    ∷ timeouts_faults top
    ∷ (keys_faults [] top (clusters_key ∷ []) ++ clusters_faults (list_at (codes "clusters") top))
    ∷ (keys_faults [] top (routes_key ∷ []) ++ routes_faults (list_at (codes "routes") top))
    ∷ (keys_faults [] top (overload_key ∷ []) ++ overload_faults (codes "overload.") (table_at (codes "overload") top))
    ∷ proxy_faults top
    ∷ [])

-- the faults of the document, in the order of refusals: its tables in their order, then its unknown keys, then the routes
-- whose clusters aren't there
abbrev pub config_faults : Members → List ConfigFault
config_faults top = tables_faults top ++ (unknown_faults [] top top_keys ++ stray_faults (config_made top).clusters 0 (config_made top).routes)

-- the configuration where there are no faults, or else the first of them
abbrev pub answer : {T : Type 0} → List ConfigFault → T → Result T ConfigFault
answer [] value = Ok value
answer (fault ∷ faults) value = Err fault

abbrev pub document_answer : Option Members → Result Config ConfigFault
document_answer None = Err NotToml
document_answer (Some top) = answer (config_faults top) (config_made top)

-- the configuration that a text is, or why it is none
unfoldable pub config_of : List ℕ → Result Config ConfigFault
config_of text = if is_utf8 text then document_answer (parse_document text) else Err NotToml
