-- What this side owes its peers of their windows, and what it has left to them (RFC 9113 section 5.2).
use Rattle.flow_rules.specs.declared.ids.FlowId.{FlowId}
use Rattle.proxy_config.specs.declared.config.Config.{Config}
use Rattle.std.specs.Option.{option_map_or}
use Rattle.std.specs.Prelude.{Bool, [], if◌then◌else◌, length, not, sum_by, ℕ, ◌&&◌, ◌+◌, ◌-◌, ◌==◌, ◌∷◌}
use Rattle.tape_laws.specs.Dispatches.{has, is_some_of, live}
use Rattle.tape_laws.specs.Flows.{request, response, same_flow}
use Rattle.tape_laws.specs.History.{Noted}
use Rattle.tape_laws.specs.World.{recv}
use Rattle.wire_laws.specs.Base.{wire_base}
use Rattle.wire_laws.specs.Came.{flow_ended}
use Rattle.wire_laws.specs.Marks.{WireHistory}
use Rattle.wire_laws.specs.Streams.{conn_from, stream_from}
use Rattle.flow_notes.specs.declared.notes.Note.TheVariants as note

-- the moves out of the flow's receive buffer
abbrev pub moved_on : FlowId → WireHistory → ℕ
moved_on f [] = 0
moved_on f (Noted (note.Move g p n) ∷ past) = (if same_flow g f && (p == 0) then n else 0) + moved_on f past
moved_on f (step ∷ past) = moved_on f past

-- the padding of its stream: what was wasted of it while the flow is live and its end hasn't come
abbrev pub is_padding : FlowId → ℕ → ℕ → WireHistory → Bool
is_padding f c s past =
    is_some_of (conn_from f past) c && (stream_from f past == s) && has (live past) f.exchange && not (flow_ended f past)

abbrev pub padding_of : FlowId → WireHistory → ℕ
padding_of f [] = 0
padding_of f (Noted (note.Waste c s n) ∷ past) = (if is_padding f c s past then n else 0) + padding_of f past
padding_of f (step ∷ past) = padding_of f past

-- what window updates granted on a stream, 0 for the connection
abbrev pub granted : ℕ → ℕ → WireHistory → ℕ
granted c s [] = 0
granted c s (Noted (note.Credit d t n) ∷ past) = (if (d == c) && (t == s) then n else 0) + granted c s past
granted c s (step ∷ past) = granted c s past

abbrev pub granted_to : FlowId → WireHistory → ℕ
granted_to f past = option_map_or (λ c. granted c (stream_from f past) past) (conn_from f past) 0

-- what is owed to the peer of a flow's stream
abbrev pub owed_on : FlowId → WireHistory → ℕ
owed_on f past = (moved_on f past + padding_of f past) - granted_to f past

-- what the receive buffers of an exchange's flows from the connection hold
abbrev pub held_by : Config → ℕ → ℕ → WireHistory → ℕ
held_by config c x past = sum_by
    (λ f. if is_some_of (conn_from f past) c then length (recv (wire_base config) f past) else 0) (request x ∷ response x ∷ [])

-- what came back to the connection: moves out of receive buffers, what dooms dropped there, and all waste
abbrev pub returned : Config → ℕ → WireHistory → ℕ
returned config c [] = 0
returned config c (Noted (note.Move f p n) ∷ past) =
    (if is_some_of (conn_from f past) c && (p == 0) then n else 0) + returned config c past
returned config c (Noted (note.Doom x why) ∷ past) = held_by config c x past + returned config c past
returned config c (Noted (note.Waste d s n) ∷ past) = (if d == c then n else 0) + returned config c past
returned config c (step ∷ past) = returned config c past

-- the update that raises the window from the protocol's first, 65,535, to the configured one, and isn't owed (section 6.9.2)
abbrev pub first_grant : Config → ℕ
first_grant config = config.limits.connection_window - 65535

-- what is owed to the connection's peer
abbrev pub owed_to : Config → ℕ → WireHistory → ℕ
owed_to config c past = returned config c past - (granted c 0 past - first_grant config)

-- what the peer may still send on a flow's stream, and on the connection
abbrev pub left_on : Config → FlowId → WireHistory → ℕ
left_on config f past = config.limits.stream_window - (length (recv (wire_base config) f past) + owed_on f past)

abbrev pub left_to : Config → ℕ → WireHistory → ℕ
left_to config c past =
    config.limits.connection_window - (sum_by (λ x. held_by config c x past) (live past) + owed_to config c past)
