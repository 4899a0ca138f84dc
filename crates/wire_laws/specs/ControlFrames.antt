-- The control frames that this side sends (RFC 9113 sections 3.4 and 6.4 to 6.8), each in its one spelling.
use Rattle.h2_frames.specs.Frame.{GoAway, Ping, Reset, Settings}
use Rattle.h2_frames.specs.Spelling.{spelling}
use Rattle.h2_session.specs.Preface.{preface}
use Rattle.proxy_config.specs.declared.config.Config.{Config}
use Rattle.std.specs.Int.{to_be_bytes, w16, w32}
use Rattle.std.specs.Prelude.{List, [], false, if◌then◌else◌, nat_lt, true, ℕ, ◌++◌}
use Rattle.tape_laws.specs.Units.{Control, Waiting}

abbrev pub rst_stream : ℕ → ℕ → Waiting
rst_stream s code = Control (spelling (Reset s code))

abbrev pub settings_ack : Waiting
settings_ack = Control (spelling (Settings true []))

abbrev pub ping_ack : List ℕ → Waiting
ping_ack octets = Control (spelling (Ping true octets))

abbrev pub goaway : ℕ → ℕ → List ℕ
goaway last code = spelling (GoAway last code [])

-- an entry of SETTINGS: two octets of a parameter, four of its value (section 6.5.1)
abbrev pub entry : ℕ → ℕ → List ℕ
entry id value = to_be_bytes w16 id ++ to_be_bytes w32 value

-- the window of a stream, the greatest frame where it isn't the least that there may be, and the greatest field section
abbrev pub own_limits : Config → List ℕ
own_limits config =
    entry 4 config.limits.stream_window
    ++ ((if nat_lt 16384 config.limits.frame_size then entry 5 config.limits.frame_size else [])
    ++ entry 6 config.limits.field_list)

-- a client is told how many streams it may have; a cluster gets the preface, and is told to push nothing
abbrev pub client_settings : Config → Waiting
client_settings config = Control (spelling (Settings false (entry 3 config.limits.max_streams ++ own_limits config)))

abbrev pub cluster_settings : Config → Waiting
cluster_settings config = Control (preface ++ spelling (Settings false (entry 2 0 ++ own_limits config)))
