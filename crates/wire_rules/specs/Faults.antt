-- The stream and connection errors of a frame (RFC 9113 sections 5.4, 6.9 and 8.1.1). `past` is what stood before it was taken.
use Rattle.flow_rules.specs.declared.ids.FlowId.{FlowId}
use Rattle.h2_frames.specs.Frame.{Frame, content_of}
use Rattle.h2_session.specs.Acts.{stream_of as stream_of_act}
use Rattle.h2_session.specs.Errors.{code_when, first_of}
use Rattle.h2_session.specs.declared.act.Act.{Act}
use Rattle.h2_session.specs.declared.act.Setting.{Setting}
use Rattle.h2_windows.specs.InitialWindows.{greatest}
use Rattle.proxy_config.specs.declared.config.Config.{Config}
use Rattle.std.specs.List.{list_any}
use Rattle.std.specs.Prelude.{Bool, List, None, Option, Some, [], false, filter, is_none, length, map, nat_lt, not, true, ℕ, ◌&&◌, ◌+◌, ◌-◌, ◌==◌, ◌^◌, ◌||◌, ◌∷◌}
use Rattle.tape_laws.specs.Dispatches.{is_some_of}
use Rattle.tape_laws.specs.Sources.{live_flows}
use Rattle.wire_heads.specs.Responses.{are_trailers, response as response_of}
use Rattle.wire_heads.specs.declared.responses.Response.{Response}
use Rattle.wire_laws.specs.Base.{wire_base}
use Rattle.wire_laws.specs.Came.{head_of}
use Rattle.wire_laws.specs.Credit.{left_on, left_to}
use Rattle.wire_laws.specs.Happenings.{hears}
use Rattle.wire_laws.specs.Marks.{Reading, Refused, WireHistory}
use Rattle.wire_laws.specs.Peers.{is_client}
use Rattle.wire_laws.specs.SendWindows.{conn_window, spent_by, spent_on, stream_window, widened}
use Rattle.wire_laws.specs.Streams.{conn_to, flow_from, flow_to, stream_to}
use Rattle.wire_rules.specs.Decision.{fields_of}
use Rattle.wire_rules.specs.Lengths.{expected, misfits}
use Rattle.h2_session.specs.declared.act.Act.TheVariants as act
use Rattle.wire_heads.specs.declared.responses.Response.TheVariants as response

-- the flow that an act is about: a window update is about the one that goes to its stream, all else about the one that comes from it
abbrev pub flow_of_act : ℕ → Act → WireHistory → Option FlowId
flow_of_act c (act.WindowUp s n) past = flow_to c s past
flow_of_act c a past = flow_from c (stream_of_act a) past

abbrev pub is_malformed_head : Response → Bool
is_malformed_head response.Malformed = true
is_malformed_head outcome = false

-- a response head is malformed, too long, or ends a body that it declares
abbrev pub is_bad_response : FlowId → Reading → Bool → WireHistory → Bool
is_bad_response f reading last past = is_malformed_head (response_of (fields_of reading) last (expected f 0 past))

-- the room of a send window may not pass 2^31 - 1 (section 6.9.1)
abbrev pub is_past_window : ℕ → ℕ → Bool
is_past_window allowed spent = nat_lt (2 ^ 31 - 1 + spent) allowed

-- The code of the stream error on a live exchange's flow: content above its window, a body before its head or of another length than
-- declared, a malformed head or trailers, a window that grows too far.
abbrev pub stream_fault : Config → ℕ → Act → Reading → FlowId → WireHistory → Option ℕ
stream_fault config c (act.StreamError s code block) reading f past = Some code
stream_fault config c (act.Body s octets padded last) reading f past =
    first_of (code_when (nat_lt (left_on config f past) (padded + length octets)) 3)
    (code_when (is_none (head_of f past) || misfits f last (length octets) past) 1)
stream_fault config c (act.Head s block last) reading f past =
    code_when (not (is_client c past) && is_bad_response f reading last past) 1
stream_fault config c (act.Trailers s block) reading f past =
    code_when (is_none (head_of f past) || not (are_trailers (fields_of reading) (expected f 0 past))) 1
stream_fault config c (act.WindowUp s n) reading f past = code_when (is_past_window (stream_window c f past + n) (spent_by f past)) 3
stream_fault config c a reading f past = None

-- the values of the initial window that a SETTINGS frame names
abbrev pub initial_windows : List Setting → List ℕ
initial_windows list = map (λ p. p.value) (filter (λ p. p.id == 4) list)

-- the window of an open stream that the flow goes to would pass the greatest under some of these initial windows (section 6.9.2)
abbrev pub shifts_over : Config → ℕ → List ℕ → FlowId → WireHistory → Bool
shifts_over config c windows f past =
    is_some_of (conn_to f past) c && hears config c (stream_to f past) past
    && is_past_window (greatest 0 windows + widened c (stream_to f past) past) (spent_by f past)

abbrev pub some_shifts_over : Config → ℕ → List ℕ → WireHistory → Bool
some_shifts_over config c [] past = false
some_shifts_over config c (v ∷ vs) past = list_any (λ f. shifts_over config c (v ∷ vs) f past) (live_flows (wire_base config) past)

-- The code of the connection error: that of the act, a block that can't be read, windows that grow too far, or content above the
-- connection's window.
abbrev pub conn_fault : Config → ℕ → Frame → Act → Reading → WireHistory → Option ℕ
conn_fault config c frame (act.ConnError code) reading past = Some code
conn_fault config c frame a Refused past = Some 9
conn_fault config c frame (act.Settings list) reading past = code_when (some_shifts_over config c (initial_windows list) past) 3
conn_fault config c frame (act.WindowUp s n) reading past =
    code_when ((s == 0) && is_past_window (conn_window c past + n) (spent_on c past)) 3
conn_fault config c frame a reading past = code_when (nat_lt (left_to config c past) (content_of frame)) 3
