-- What happened on a connection, as its session sees it: frames that came, and streams that this side opened, ended or closed
-- (RFC 9113 section 5.1).
use Rattle.h2_frames.specs.Frame.{Frame}
use Rattle.h2_heads.specs.Heads.{is_interim}
use Rattle.h2_session.specs.Acts.{stream_of as stream_of_act}
use Rattle.h2_session.specs.Happened.{Came, Closed, Ended, Failed, Happening, Interim, Opened, Side}
use Rattle.h2_session.specs.Streams.{greatest_of_peer, is_open as is_open_stream}
use Rattle.h2_session.specs.Summary.{noted}
use Rattle.h2_session.specs.declared.act.Act.{Act}
use Rattle.proxy_config.specs.declared.config.Config.{Config}
use Rattle.std.specs.Prelude.{Bool, List, None, Option, Some, [], false, if◌then◌else◌, is_some, nat_lt, not, true, ℕ, ◌&&◌, ◌==◌, ◌∷◌}
use Rattle.tape_laws.specs.History.{Marked, Noted}
use Rattle.tape_laws.specs.Units.{FramedUnit, HeadOf, TrailersOf}
use Rattle.wire_laws.specs.Base.{wire_base}
use Rattle.wire_laws.specs.Draining.{before_draining, draining}
use Rattle.wire_laws.specs.Marks.{Fields, Reading, Took, WireHistory, just_picked}
use Rattle.wire_laws.specs.Peers.{is_client}
use Rattle.wire_laws.specs.Streams.{comes_from, down_stream, goes_to, picked_request, stream_to, up_stream}
use Rattle.flow_notes.specs.declared.notes.Note.TheVariants as note
use Rattle.h2_session.specs.declared.act.Act.TheVariants as act

abbrev pub side_of : Config → ℕ → WireHistory → Side
side_of config c past = record {
  client_side = not (is_client c past);
  max_streams = config.limits.max_streams;
  empty_frames = config.limits.empty_frames;
}

-- the frame came; one that is a connection error has failed the connection
abbrev pub came : Frame → Act → Happening
came frame (act.ConnError code) = Failed code
came frame a = Came frame

-- what this side does to the stream of a frame at once: a later stream of a draining client is closed, and an interim response is noted
abbrev pub answered : Bool → Bool → Act → Reading → Option Happening
answered client drains (act.Head s block last) (Fields fields) =
    if client then (if drains then Some (Closed s) else None) else (if is_interim fields then Some (Interim s) else None)
answered client drains (act.Head s block last) reading = if client && drains then Some (Closed s) else None
answered client drains a reading = None

-- the happening on the stream, if there is one and the stream is open
abbrev pub with_answer : Side → ℕ → Option Happening → List Happening → List Happening
with_answer side s None past = past
with_answer side s (Some h) past = noted side s h past

-- a head that opens a stream or ends this side of it
abbrev pub headed : Side → ℕ → Bool → Bool → List Happening → List Happening
headed side s opens ends past =
    let opened = if opens then Opened s ∷ past else past in if ends then noted side s (Ended s) opened else opened

-- the unit ends this side of its stream
abbrev pub unit_ends : Config → Option FramedUnit → WireHistory → Bool
unit_ends config (Some (HeadOf f)) past = (wire_base config).head_ends f past
unit_ends config (Some (TrailersOf f)) past = true
unit_ends config u past = false

-- newest first
abbrev pub happenings : Config → ℕ → WireHistory → List Happening
happenings config c [] = []
happenings config c (Marked (Took d frame a reading) ∷ past) =
    let before = happenings config c past in
    if d == c
    then with_answer (side_of config c past) (stream_of_act a) (answered (is_client c past) (draining config c past) a reading)
    (came frame a ∷ before)
    else before
happenings config c (Noted (note.Frame d f n last) ∷ past) =
    let before = happenings config c past in
    if (d == c) && last then noted (side_of config c past) (stream_to f past) (Ended (stream_to f past)) before else before
happenings config c (Noted (note.Head d s octets) ∷ past) =
    let before = happenings config c past in
    if d == c then headed (side_of config c past) s (is_some (picked_request past)) (unit_ends config (just_picked past) past) before
    else before
happenings config c (Noted (note.Doom x why) ∷ past) =
    let before = happenings config c past in
    if comes_from c x past then noted (side_of config c past) (down_stream x past) (Closed (down_stream x past)) before
    else if goes_to c x past then noted (side_of config c past) (up_stream x past) (Closed (up_stream x past)) before
    else before
happenings config c (step ∷ past) = happenings config c past

-- the stream is open, so that its peer still hears of it
abbrev pub hears : Config → ℕ → ℕ → WireHistory → Bool
hears config c s past = is_open_stream (side_of config c past) s (happenings config c past)

-- the greatest stream that a client opened, 0 towards a cluster
abbrev pub greatest_opened : Config → ℕ → WireHistory → ℕ
greatest_opened config c past = greatest_of_peer (side_of config c past) (happenings config c past)

-- the number of a GOAWAY: a draining connection repeats that of its first
abbrev pub goaway_number : Config → ℕ → WireHistory → ℕ
goaway_number config c past =
    greatest_opened config c (if draining config c past then before_draining config c past else past)

-- a later stream of a draining client's connection, which is ignored as closed
abbrev pub is_ignored : Config → ℕ → ℕ → WireHistory → Bool
is_ignored config c s past = is_client c past && draining config c past && nat_lt (goaway_number config c past) s
