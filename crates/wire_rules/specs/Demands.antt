-- What each step asks for, in order: an event, a frame that was taken, a decision against a request, a timer, a loss and a flood.
use Rattle.flow_rules.specs.declared.ids.BufferId.{BufferId}
use Rattle.flow_rules.specs.declared.ids.FlowId.{FlowId}
use Rattle.flow_notes.specs.declared.events.Event.{Event}
use Rattle.flow_rules.specs.declared.causes.Cause.{Cause}
use Rattle.flow_rules.specs.declared.causes.FireKind.{FireKind}
use Rattle.h2_frames.specs.Frame.{Frame}
use Rattle.h2_session.specs.declared.act.Act.{Act}
use Rattle.proxy_config.specs.declared.config.Config.{Config}
use Rattle.std.specs.List.{list_any}
use Rattle.std.specs.Option.{option_and_then, option_map_or}
use Rattle.std.specs.Prelude.{Bool, List, None, Option, Some, [], filter, if◌then◌else◌, length, map, nat_lt, option_map, option_to_list, ℕ, ◌&&◌, ◌*◌, ◌++◌, ◌+◌, ◌==◌, ◌||◌, ◌∷◌}
use Rattle.tape_laws.specs.Dispatches.{has, live, started}
use Rattle.tape_laws.specs.History.{Marked, Noted}
use Rattle.tape_laws.specs.Room.{room_demand}
use Rattle.tape_laws.specs.Sources.{body_sources}
use Rattle.tape_laws.specs.Units.{Demand, WantsClose, WantsDoom, WantsStart}
use Rattle.tape_laws.specs.Watermark.{limit}
use Rattle.tape_laws.specs.World.{len}
use Rattle.wire_laws.specs.Base.{is_open_conn, wire_base}
use Rattle.wire_laws.specs.Marks.{Broke, Drains, Reading, Took, WireHistory, WireStep}
use Rattle.wire_laws.specs.Overload.{rejects_incoming}
use Rattle.wire_laws.specs.Peers.{is_client}
use Rattle.wire_laws.specs.Streams.{exchanges_of, goes_to, origin, up_stream}
use Rattle.wire_rules.specs.Decision.{Opening, cause_of, conn_of, opening}
use Rattle.wire_rules.specs.Faults.{conn_fault, flow_of_act, stream_fault}
use Rattle.wire_rules.specs.Floods.{close_if_flooded, resets_too_many}
use Rattle.flow_notes.specs.declared.events.Event.TheVariants as event
use Rattle.flow_notes.specs.declared.events.Job.TheVariants as job
use Rattle.flow_rules.specs.declared.causes.Cause.TheVariants as cause
use Rattle.flow_notes.specs.declared.notes.CloseCause.TheVariants as closed
use Rattle.flow_rules.specs.declared.causes.FireKind.TheVariants as kind
use Rattle.flow_notes.specs.declared.notes.Note.TheVariants as note
use Rattle.h2_session.specs.declared.act.Act.TheVariants as act

-- a doom, if the exchange is live
abbrev pub doom_if_live : ℕ → Cause → WireHistory → List Demand
doom_if_live x why past = if has (live past) x then WantsDoom x why ∷ [] else []

-- the events of a connection that is closed ask for nothing but octets that leave
abbrev pub asked_by_event : Config → Event → WireHistory → List Demand
asked_by_event config (event.Room c n) past = room_demand (wire_base config) c n past
asked_by_event config (event.Gone c) past = if is_open_conn config c past then WantsClose c 0 closed.Lost ∷ [] else []
asked_by_event config (event.Accept c) past = if rejects_incoming config past then WantsClose c 0 closed.Overload ∷ [] else []
asked_by_event config (event.Post poster number (job.Cancel x)) past = doom_if_live x (cause.Posted poster number) past
asked_by_event config e past = []

-- a request head that opens an exchange starts the next one
abbrev pub asked_by_opening : Option Opening → WireHistory → List Demand
asked_by_opening None past = []
asked_by_opening (Some o) past = WantsStart (length (started past) + 1) o.conn o.stream (conn_of o.decided) ∷ []

-- the exchanges that a cluster's GOAWAY leaves out, or whose head isn't framed (RFC 9113 section 6.8)
abbrev pub is_left_out : ℕ → ℕ → WireHistory → Bool
is_left_out last x past = (up_stream x past == 0) || nat_lt last (up_stream x past)

abbrev pub left_out : ℕ → ℕ → WireHistory → List Demand
left_out c last past =
    map (λ x. WantsDoom x (cause.ConnLost c)) (filter (λ x. goes_to c x past && is_left_out last x past) (live past))

-- a reset, or a stream error of a live exchange
abbrev pub asked_on_stream : Config → ℕ → Act → Reading → FlowId → WireHistory → List Demand
asked_on_stream config c (act.PeerReset s code) reading f past = WantsDoom f.exchange (cause.PeerReset code) ∷ []
asked_on_stream config c a reading f past =
    option_to_list (option_map (λ code. WantsDoom f.exchange (cause.StreamError code)) (stream_fault config c a reading f past))

-- what follows from the frame once it was looked at: no more resets than are allowed, and what a GOAWAY leaves out
abbrev pub asked_by_act : Config → ℕ → Frame → Act → Reading → WireHistory → List Demand
asked_by_act config c frame (act.GoAway last code) reading past = if is_client c past then [] else left_out c last past
asked_by_act config c frame (act.PeerReset s code) reading past =
    if resets_too_many config c (Marked (Took c frame (act.PeerReset s code) reading) ∷ past)
    then WantsClose c 11 closed.Flood ∷ [] else []
asked_by_act config c frame a reading past = asked_by_opening (opening config (Marked (Took c frame a reading) ∷ past)) past

-- a frame: a connection error alone, else what it does to its stream, to its connection and to the waiting list
abbrev pub asked_by_sound : Config → ℕ → Frame → Act → Reading → WireHistory → List Demand
asked_by_sound config c frame a reading past =
    option_map_or (λ f. asked_on_stream config c a reading f past) (flow_of_act c a past) []
    ++ (asked_by_act config c frame a reading past ++ close_if_flooded config c (Marked (Took c frame a reading)) past)

abbrev pub asked_by_frame : Config → ℕ → Frame → Act → Reading → WireHistory → List Demand
asked_by_frame config c frame a reading past = option_map_or
    (λ code. WantsClose c code closed.Protocol ∷ [])
    (conn_fault config c frame a reading past)
    (asked_by_sound config c frame a reading past)

-- a head that was decided against
abbrev pub asked_by_start : ℕ → Option Opening → List Demand
asked_by_start x o = option_to_list
    (option_map (λ why. WantsDoom x why) (option_and_then (λ opened. cause_of opened.decided) o))

abbrev pub asked_by_timer : FireKind → ℕ → Demand
asked_by_timer kind.Route x = WantsDoom x (cause.Timeout kind.Route)
asked_by_timer kind.StreamIdle x = WantsDoom x (cause.Timeout kind.StreamIdle)
asked_by_timer kind.ConnectionIdle c = WantsClose c 0 closed.Idle

-- a move that fills a body buffer beyond so many times its limit
abbrev pub overfills_limit : Config → ℕ → ℕ → Bool
overfills_limit config most held =
    nat_lt 0 config.limits.overflow_multiple && nat_lt 0 most && nat_lt (config.limits.overflow_multiple * most) held

abbrev pub is_overfilled_by : Config → BufferId → WireStep → WireHistory → Bool
is_overfilled_by config b step past =
    overfills_limit config (limit (wire_base config) b past) (len (wire_base config) b (step ∷ past))

abbrev pub asked_by_move : Config → FlowId → ℕ → WireStep → WireHistory → List Demand
asked_by_move config f p step past =
    let fed_by_move = filter (λ s. s.place == p + 1) (body_sources (wire_base config) f past) in
    if list_any (λ s. is_overfilled_by config s.buffer step past) fed_by_move
    then WantsDoom f.exchange cause.Overflow ∷ [] else []

-- a doom closes the connections that its units flooded, the client's first
abbrev pub asked_by_doom : Config → ℕ → WireStep → WireHistory → List Demand
asked_by_doom config x step past = option_map_or
    (λ o. close_if_flooded config o.conn step past ++ close_if_flooded config o.to step past) (origin x past) []

abbrev pub asks : Config → WireStep → WireHistory → List Demand
asks config (Noted (note.Turn k e)) past = asked_by_event config e past
asks config (Noted (note.Start x c s d)) past = asked_by_start x (opening config past)
asks config (Noted (note.Fire which id)) past = asked_by_timer which id ∷ []
asks config (Noted (note.Move f p n)) past = asked_by_move config f p (Noted (note.Move f p n)) past
asks config (Noted (note.Doom x why)) past = asked_by_doom config x (Noted (note.Doom x why)) past
asks config (Noted (note.Close c code why)) past = map (λ x. WantsDoom x (cause.ConnLost c)) (exchanges_of c past)
asks config (Marked (Took c frame a reading)) past = asked_by_frame config c frame a reading past
asks config (Marked (Broke c code)) past = WantsClose c code closed.Protocol ∷ []
asks config (Marked (Drains c)) past = close_if_flooded config c (Marked (Drains c)) past
asks config step past = []
