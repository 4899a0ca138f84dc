-- The octets of control frames (RFC 9113 sections 3.4, 6.4, 6.5, 6.7 and 6.8).
use Rattle.h2_frames.specs.Frame.{GoAway, Ping, Reset, Settings}
use Rattle.h2_frames.specs.Spelling.{spelling}
use Rattle.std.specs.Int.{to_be_bytes, w16, w32}
use Rattle.std.specs.List.{flat_map}
use Rattle.std.specs.Prelude.{List, [], codes, false, true, ℕ, ◌++◌}

-- what a client sends first on a connection (section 3.4)
abbrev pub preface : List ℕ
preface = codes "PRI * HTTP/2.0\r\n\r\nSM\r\n\r\n"

-- an identifier of 16 bits and a value of 32 for each setting (section 6.5.1)
abbrev pub entries_of : List (ℕ × ℕ) → List ℕ
entries_of settings = flat_map (λ s. to_be_bytes w16 s.0 ++ to_be_bytes w32 s.1) settings

abbrev pub settings_octets : List (ℕ × ℕ) → List ℕ
settings_octets settings = spelling (Settings false (entries_of settings))

abbrev pub settings_ack_octets : List ℕ
settings_ack_octets = spelling (Settings true [])

abbrev pub ping_ack_octets : List ℕ → List ℕ
ping_ack_octets octets = spelling (Ping true octets)

abbrev pub rst_stream_octets : ℕ → ℕ → List ℕ
rst_stream_octets stream code = spelling (Reset stream code)

-- without debug data
abbrev pub goaway_octets : ℕ → ℕ → List ℕ
goaway_octets last code = spelling (GoAway last code [])
