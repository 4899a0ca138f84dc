-- The waiting list of a connection: its answers, replies and resets, in the order in which they were put.
use Rattle.flow_notes.specs.declared.events.Event.{Event}
use Rattle.flow_rules.specs.declared.causes.Cause.{Cause}
use Rattle.h2_session.specs.declared.act.Act.{Act}
use Rattle.proxy_config.specs.declared.config.Config.{Config}
use Rattle.std.specs.Prelude.{Bool, List, [], drop, if◌then◌else◌, is_some, length, nat_lt, take, ℕ, ◌&&◌, ◌++◌, ◌==◌, ◌||◌, ◌∷◌}
use Rattle.tape_laws.specs.History.{Marked, Noted}
use Rattle.tape_laws.specs.Units.{Control, Put, Waiting}
use Rattle.wire_laws.specs.Base.{is_open_conn}
use Rattle.wire_laws.specs.ControlFrames.{client_settings, cluster_settings, goaway, ping_ack, rst_stream, settings_ack}
use Rattle.wire_laws.specs.Draining.{draining}
use Rattle.wire_laws.specs.Happenings.{greatest_opened, hears, is_ignored}
use Rattle.wire_laws.specs.Marks.{Drains, Picked, Took, WireHistory, WireStep}
use Rattle.wire_laws.specs.Overload.{gives_up_keepalive}
use Rattle.wire_laws.specs.Replies.{to_client, to_cluster}
use Rattle.wire_laws.specs.Streams.{comes_from, down_stream, goes_to, live_at, up_stream}
use Rattle.flow_notes.specs.declared.events.Event.TheVariants as event
use Rattle.flow_notes.specs.declared.notes.Note.TheVariants as note
use Rattle.h2_session.specs.declared.act.Act.TheVariants as act

-- the GOAWAY that makes a client's connection drain
abbrev pub starts_draining : Config → ℕ → WireHistory → List Waiting
starts_draining config c past =
    if draining config c past then [] else Control (goaway (greatest_opened config c past) 0) ∷ []

-- what a doom puts: a stream that is closed or was never opened gets nothing; the GOAWAY of lost keep-alive comes last
abbrev pub puts_of_doom : Config → ℕ → ℕ → Cause → WireHistory → List Waiting
puts_of_doom config c x why past =
    if comes_from c x past
    then (if hears config c (down_stream x past) past then to_client config x why past else [])
    ++ (if gives_up_keepalive config past then starts_draining config c past else [])
    else (if goes_to c x past && hears config c (up_stream x past) past then to_cluster x why past else [])

-- what a frame puts: an acknowledgement, or RST_STREAM for a stream error without a live exchange
abbrev pub puts_of_act : Config → ℕ → Act → WireHistory → List Waiting
puts_of_act config c (act.Settings list) past = settings_ack ∷ []
puts_of_act config c (act.Ping octets) past = ping_ack octets ∷ []
puts_of_act config c (act.StreamError s code block) past =
    if is_some (live_at c s past) || is_ignored config c s past then [] else rst_stream s code ∷ []
puts_of_act config c a past = []

-- what an event puts: the settings of a new connection
abbrev pub puts_of_event : Config → ℕ → Event → WireHistory → List Waiting
puts_of_event config c (event.Accept d) past = if d == c then client_settings config ∷ [] else []
puts_of_event config c (event.Join d cluster) past = if d == c then cluster_settings config ∷ [] else []
puts_of_event config c e past = []

-- what a step puts on the connection, if that is open
abbrev pub puts : Config → ℕ → WireStep → WireHistory → List Waiting
puts config c (Noted (note.Turn k e)) past = puts_of_event config c e past
puts config c (Noted (note.Doom x why)) past = if is_open_conn config c past then puts_of_doom config c x why past else []
puts config c (Marked (Took d frame a reading)) past =
    if (d == c) && is_open_conn config c past then puts_of_act config c a past else []
puts config c (Marked (Drains d)) past = if d == c then starts_draining config c past else []
puts config c step past = []

-- the list once a step has put its units: one for a full list isn't put
abbrev pub with_puts : Config → ℕ → WireStep → List Waiting → WireHistory → List Waiting
with_puts config c step waiting past = take config.limits.control_frames (waiting ++ puts config c step past)

abbrev pub waiting_on : Config → ℕ → WireHistory → List Waiting
waiting_on config c [] = []
waiting_on config c (Marked (Picked d (Put w)) ∷ past) = drop (if d == c then 1 else 0) (waiting_on config c past)
waiting_on config c (Noted (note.Close d code why) ∷ past) = let before = waiting_on config c past in if d == c then [] else before
waiting_on config c (Noted (note.Turn k e) ∷ past) = with_puts config c (Noted (note.Turn k e)) (waiting_on config c past) past
waiting_on config c (Noted (note.Doom x why) ∷ past) = with_puts config c (Noted (note.Doom x why)) (waiting_on config c past) past
waiting_on config c (Marked (Took d frame a reading) ∷ past) =
    with_puts config c (Marked (Took d frame a reading)) (waiting_on config c past) past
waiting_on config c (Marked (Drains d) ∷ past) = with_puts config c (Marked (Drains d)) (waiting_on config c past) past
waiting_on config c (step ∷ past) = waiting_on config c past

-- some unit of the step was for a full list, which floods the connection
abbrev pub overflows : Config → ℕ → WireStep → WireHistory → Bool
overflows config c step past =
    nat_lt config.limits.control_frames (length (waiting_on config c past ++ puts config c step past))
