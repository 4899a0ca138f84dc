-- What a doom puts for its client and its cluster (RFC 9113 sections 5.4.2, 7 and 8.1).
use Rattle.flow_rules.specs.declared.ids.FlowId.{FlowId}
use Rattle.flow_rules.specs.declared.causes.Cause.{Cause}
use Rattle.flow_rules.specs.Moves.{overfills}
use Rattle.proxy_config.specs.declared.config.Config.{Config}
use Rattle.std.specs.Option.{option_map_or}
use Rattle.std.specs.Prelude.{Bool, List, [], false, if◌then◌else◌, not, ℕ, ◌∷◌}
use Rattle.tape_laws.specs.Flows.{request, response}
use Rattle.tape_laws.specs.Release.{last_free, may_release}
use Rattle.tape_laws.specs.State.{state_of}
use Rattle.tape_laws.specs.Units.{Reply, Waiting}
use Rattle.wire_laws.specs.Base.{wire_base}
use Rattle.wire_laws.specs.Came.{flow_ended, head_framed}
use Rattle.wire_laws.specs.ControlFrames.{rst_stream}
use Rattle.wire_laws.specs.Marks.{WireHistory, taking}
use Rattle.wire_laws.specs.Peers.{is_client}
use Rattle.wire_laws.specs.Streams.{down_stream, up_stream}
use Rattle.flow_rules.specs.declared.causes.Cause.TheVariants as cause

-- the cause came from the cluster: the frame that was taken last did
abbrev pub by_cluster : WireHistory → Bool
by_cluster past = option_map_or (λ t. not (is_client t.conn t.before)) (taking past) false

-- the next move of a flow would overfill a Hold
abbrev pub is_too_large : Config → FlowId → WireHistory → Bool
is_too_large config f past = option_map_or
    (λ p. overfills (state_of (wire_base config) f past) p (may_release (wire_base config) f p past))
    (last_free (wire_base config) f past) false

-- a reply without a body, and RST_STREAM where the request's end hasn't come
abbrev pub answer_with : ℕ → ℕ → WireHistory → List Waiting
answer_with status x past =
    let s = down_stream x past in Reply s status ∷ (if flow_ended (request x) past then [] else rst_stream s 0 ∷ [])

-- the reply where no response head was framed, else RST_STREAM
abbrev pub answer_or : ℕ → ℕ → ℕ → WireHistory → List Waiting
answer_or status code x past =
    if head_framed (response x) past then rst_stream (down_stream x past) code ∷ [] else answer_with status x past

abbrev pub to_client : Config → ℕ → Cause → WireHistory → List Waiting
to_client config x cause.Done past = []
to_client config x (cause.PeerReset code) past = if by_cluster past then answer_or 502 2 x past else []
to_client config x (cause.StreamError code) past =
    if by_cluster past then answer_or 502 2 x past else rst_stream (down_stream x past) code ∷ []
to_client config x cause.TooLarge past =
    if is_too_large config (request x) past then answer_or 413 2 x past else answer_with 500 x past
to_client config x (cause.Timeout which) past = answer_or 504 2 x past
to_client config x cause.Overload past = answer_or 503 11 x past
to_client config x cause.Overflow past = answer_or 500 2 x past
to_client config x (cause.ConnLost d) past = if is_client d past then [] else answer_or 502 2 x past
to_client config x cause.EarlyEnd past = if flow_ended (request x) past then [] else rst_stream (down_stream x past) 0 ∷ []
to_client config x (cause.Posted poster number) past = rst_stream (down_stream x past) 8 ∷ []
to_client config x (cause.Refused status) past = answer_with status x past

abbrev pub to_cluster : ℕ → Cause → WireHistory → List Waiting
to_cluster x cause.Done past = []
to_cluster x (cause.PeerReset code) past = if by_cluster past then [] else rst_stream (up_stream x past) 8 ∷ []
to_cluster x (cause.StreamError code) past = rst_stream (up_stream x past) (if by_cluster past then code else 8) ∷ []
to_cluster x (cause.ConnLost d) past = if is_client d past then rst_stream (up_stream x past) 8 ∷ [] else []
to_cluster x (cause.Refused status) past = []
to_cluster x why past = rst_stream (up_stream x past) 8 ∷ []
