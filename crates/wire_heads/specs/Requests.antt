-- What the head of a request leads to.
use Rattle.h2_heads.specs.Heads.{is_head, is_malformed_request, length_of}
use Rattle.h2_heads.specs.Malformed.{is_connect}
use Rattle.h2_heads.specs.Named.{value_of}
use Rattle.hpack_codec.specs.declared.fields.Field.{Field}
use Rattle.proxy_config.specs.Clusters.{number_of}
use Rattle.proxy_config.specs.Routing.{takes}
use Rattle.proxy_config.specs.declared.config.Config.{Config}
use Rattle.std.specs.List.{slice_get}
use Rattle.std.specs.Option.{option_and_then, option_map, option_map_or, unwrap_or}
use Rattle.std.specs.Prelude.{Bool, IfSome, List, None, Option, Some, codes, false, if◌then◌else◌, length, not, position, ℕ, ◌&&◌, ◌<◌, ◌==◌, ◌^◌, ◌||◌}
use Rattle.wire_heads.specs.declared.requests.Decision.{Decision}
use Rattle.wire_heads.specs.declared.requests.Decision.TheVariants.{Going, Malformed, Overload, Refused}
use Rattle.wire_heads.specs.declared.requests.Judged.{Judged}
use Rattle.wire_heads.specs.declared.requests.Judged.TheVariants.{Choose, Decided}
use Rattle.wire_heads.specs.declared.requests.Routed.{Routed}

-- the first row of the route table that takes the request
abbrev pub row_of : Config → List Field → Option ℕ
row_of config fields =
    option_and_then (λ path. position (takes (value_of (codes ":authority") fields) path) config.routes) (value_of (codes ":path") fields)

-- the number of the cluster to which a row goes
abbrev pub cluster_at : Config → ℕ → ℕ
cluster_at config row = option_map_or (λ route. unwrap_or (number_of config.clusters route.cluster) 0) (slice_get config.routes row) 0

-- the row, and what the two bodies have to be: the request's as long as declared, the response's empty where the method is HEAD
abbrev pub routed_at : Config → ℕ → Option ℕ → Bool → Routed
routed_at config row declared head = record {
  row = row;
  cluster = cluster_at config row;
  request = record { declared = declared; body = 0; bodiless = false };
  response = record { declared = None; body = 0; bodiless = head };
}

abbrev pub placed : Routed → Option ℕ → Decision
placed routed (Some conn) = Going routed conn
placed routed None = Refused 503 (Some routed.row)

-- a length other than 0
abbrev pub declares_body : Option ℕ → Bool
declares_body declared = option_map_or (λ length. not (length == 0)) declared false

-- a head that breaks a rule for fields (RFC 9113 section 8.3.1), or that ends its stream and declares a body (section 8.1.1)
abbrev pub is_malformed : List Field → Bool → Bool
is_malformed fields last = is_malformed_request fields || (last && declares_body (length_of fields))

-- The whole decision, in its order. There are no fields where their list is too long; the stream ends with the head where `last` says so; `stops` says that
-- no requests are taken; `choose` gives the connection of each cluster.
abbrev pub decision : Config → Option (List Field) → Bool → Bool → (ℕ → Option ℕ) → Decision
decision config None last stops choose = Refused 431 None
decision config (Some fields) last stops choose =
    if is_malformed fields last then Malformed
    else if is_connect fields then Refused 501 None
    else if stops then Overload
    else option_map_or (λ row. placed (routed_at config row (length_of fields) (is_head fields)) (choose (cluster_at config row))) (row_of config fields) (Refused 404 None)

-- what a judged head leads to, once a connection is chosen
abbrev pub decided : Judged → (ℕ → Option ℕ) → Decision
decided (Decided decision) choose = decision
decided (Choose routed) choose = placed routed (choose routed.cluster)

-- the row and the cluster are those of the configuration, and a declared length is below 2^63
abbrev pub IsRouted : Config → Judged → Type 0
IsRouted config (Decided decision) = Unit {0}
IsRouted config (Choose routed) =
    (routed.row < length config.routes) × (routed.cluster < length config.clusters) × IfSome routed.request.declared (λ declared. declared < 2 ^ 63)

-- the value of the field at a place, where one is named
abbrev pub value_at : List Field → Option ℕ → Option (List ℕ)
value_at fields place = option_map (λ field. field.value) (option_and_then (slice_get fields) place)
