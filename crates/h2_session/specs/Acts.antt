-- The one act of each frame, after what happened before it (RFC 9113 sections 5 and 6).
use Rattle.h2_frames.specs.declared.codes.TheConstants.{PROTOCOL_ERROR, REFUSED_STREAM, STREAM_CLOSED}
use Rattle.h2_frames.specs.Frame.{Continuation, DataFrame, Frame, GoAway, Headers, Ping, Reset, Settings, WindowUpdate}
use Rattle.h2_session.specs.Blocks.{ended_block}
use Rattle.h2_session.specs.Errors.{error_of, settings_of}
use Rattle.h2_session.specs.Happened.{Happening, Side}
use Rattle.h2_session.specs.Streams.{begins, has_room, opened, state_of}
use Rattle.h2_session.specs.declared.act.Act.{Act}
use Rattle.h2_session.specs.declared.act.Act.TheVariants as act
use Rattle.h2_session.specs.declared.block.HeaderBlock.{HeaderBlock}
use Rattle.h2_session.specs.declared.streams.Stream.{Stream}
use Rattle.std.specs.Option.{option_map_or}
use Rattle.std.specs.Prelude.{Bool, List, None, Option, Some, [], false, if◌then◌else◌, length, not, true, ℕ, ◌+◌, ◌==◌, ◌≡◌}

-- a header block on a stream that is open, in this state, or isn't (sections 5.1 and 8.1)
abbrev pub block_act : HeaderBlock → Option Stream → Act
block_act b None = act.OldBlock b.octets
block_act b (Some state) =
    if state.peer_ended then act.StreamError b.stream STREAM_CLOSED b.octets
    else if not state.head then act.Head b.stream b.octets b.last
    else if b.last then act.Trailers b.stream b.octets
    else act.StreamError b.stream PROTOCOL_ERROR b.octets

-- a header block that begins a client's stream, with room for it or without (section 5.1.2)
abbrev pub opening_act : HeaderBlock → Bool → Act
opening_act b room = if room then act.Head b.stream b.octets b.last else act.StreamError b.stream REFUSED_STREAM b.octets

-- the act of a header block at its end
abbrev pub ended_act : Side → HeaderBlock → List Happening → Act
ended_act side b past =
    if begins side b past then opening_act b (has_room side past (opened side past)) else block_act b (state_of side b.stream past)

-- DATA on a stream that is open, in this state, or isn't (section 6.1)
abbrev pub data_act : ℕ → Bool → ℕ → List ℕ → Option Stream → Act
data_act s last padded octets None = act.Late s (padded + length octets)
data_act s last padded octets (Some state) = if state.peer_ended then act.StreamError s STREAM_CLOSED [] else act.Body s octets padded last

-- RST_STREAM (section 6.4)
abbrev pub reset_act : ℕ → ℕ → Option Stream → Act
reset_act s code None = act.Ignore
reset_act s code (Some state) = act.PeerReset s code

-- WINDOW_UPDATE on a stream (section 6.9)
abbrev pub update_act : ℕ → ℕ → Option Stream → Act
update_act s n None = act.Ignore
update_act s n (Some state) = if n == 0 then act.StreamError s PROTOCOL_ERROR [] else act.WindowUp s n

-- the act of a frame that is no connection error
abbrev pub act_within : Side → Frame → List Happening → Act
act_within side (DataFrame s last padded octets) past = data_act s last padded octets (state_of side s past)
act_within side (Reset s code) past = reset_act s code (state_of side s past)
act_within side (Settings ack entries) past = if ack then act.Ack else act.Settings (settings_of entries)
act_within side (Ping ack octets) past = if ack then act.Ignore else act.Ping octets
act_within side (GoAway last code debug) past = act.GoAway last code
act_within side (WindowUpdate s n) past = if s == 0 then act.WindowUp 0 n else update_act s n (state_of side s past)
act_within side frame past = option_map_or (λ b. ended_act side b past) (ended_block frame past) act.Ignore

-- the act of a frame
abbrev pub act_of : Side → Frame → List Happening → Act
act_of side frame past = option_map_or (λ code. act.ConnError code) (error_of side frame past) (act_within side frame past)

-- a frame has content or a header block
abbrev pub is_bulk : Frame → Bool
is_bulk (DataFrame s last padded octets) = true
is_bulk (Headers s last end_headers padded priority block) = true
is_bulk (Continuation s end_headers block) = true
is_bulk frame = false

-- the stream that an act is about, 0 for the connection and for none
abbrev pub stream_of : Act → ℕ
stream_of (act.Body s octets padded last) = s
stream_of (act.Late s n) = s
stream_of (act.Head s block last) = s
stream_of (act.Trailers s block) = s
stream_of (act.WindowUp s n) = s
stream_of (act.PeerReset s code) = s
stream_of (act.GoAway last code) = last
stream_of (act.StreamError s code block) = s
stream_of given = 0

-- what is handed in beside a DATA frame are its octets, and beside SETTINGS its entries; beside another frame nothing is asked of it
abbrev pub IsContentOf : Frame → List ℕ → Type 0
IsContentOf (DataFrame s last padded octets) content = content ≡ octets
IsContentOf (Settings ack entries) content = content ≡ entries
IsContentOf frame content = Unit {0}
