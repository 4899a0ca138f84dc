-- The window updates that are due (RFC 9113 section 6.9).
use Rattle.flow_rules.specs.declared.ids.FlowId.{FlowId}
use Rattle.h2_windows.specs.RecvWindow.{is_due}
use Rattle.proxy_config.specs.declared.config.Config.{Config}
use Rattle.std.specs.Prelude.{Bool, List, [], flat_map, if◌then◌else◌, nat_lt, not, true, ℕ, ◌&&◌, ◌++◌, ◌==◌, ◌∷◌}
use Rattle.tape_laws.specs.Dispatches.{is_some_of}
use Rattle.tape_laws.specs.Pauses.{count}
use Rattle.tape_laws.specs.Sources.{live_flows}
use Rattle.tape_laws.specs.Units.{Grant}
use Rattle.wire_laws.specs.Base.{wire_base}
use Rattle.wire_laws.specs.Came.{flow_ended}
use Rattle.wire_laws.specs.Credit.{first_grant, granted, owed_on, owed_to}
use Rattle.wire_laws.specs.Marks.{WireHistory}
use Rattle.wire_laws.specs.Streams.{conn_from, stream_from}

abbrev pub grant_if : Bool → ℕ → ℕ → List Grant
grant_if b s n = if b then record { stream = s; n = n } ∷ [] else []

-- the connection's: first the one that raises its window, then what is owed where that is due
abbrev pub conn_grants : Config → ℕ → WireHistory → List Grant
conn_grants config c past =
    if nat_lt 0 (first_grant config) && (granted c 0 past == 0) then grant_if true 0 (first_grant config)
    else grant_if (is_due config.limits.connection_window (owed_to config c past)) 0 (owed_to config c past)

-- a stream's goes only while its flow is readable and its end hasn't come
abbrev pub stream_grants : Config → ℕ → FlowId → WireHistory → List Grant
stream_grants config c f past = grant_if
    (is_some_of (conn_from f past) c && (count f past == 0) && not (flow_ended f past)
    && is_due config.limits.stream_window (owed_on f past))
    (stream_from f past) (owed_on f past)

-- the connection's own, then those of its streams, by exchange
abbrev pub due_grants : Config → ℕ → WireHistory → List Grant
due_grants config c past =
    conn_grants config c past ++ flat_map (λ f. stream_grants config c f past) (live_flows (wire_base config) past)
