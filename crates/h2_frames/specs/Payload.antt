-- What the payload of each type of frame says (RFC 9113 sections 6.1 to 6.10).
use Rattle.h2_frames.specs.Frame.{Continuation, DataFrame, Frame, GoAway, Headers, Ping, Priority, Push, Reset, Settings, Unknown, WindowUpdate}
use Rattle.h2_frames.specs.Head.{Head, acknowledges, ends_headers, ends_stream, tells_padding, tells_priority, word}
use Rattle.h2_frames.specs.declared.types.Weighting.{Weighting}
use Rattle.std.specs.Bool.{OnTrue}
use Rattle.std.specs.Int.{to_be_bytes, w32}
use Rattle.std.specs.Prelude.{Bool, List, None, Option, Some, [], false, length, true, ℕ, ◌%◌, ◌++◌, ◌+◌, ◌<◌, ◌^◌, ◌∷◌, ◌≡◌}

-- the payload is the content alone or, where PADDED is set, the length of the padding, the content and the padding (section 6.1)
abbrev pub IsPadded : Bool → List ℕ → ℕ → List ℕ → Type 0
IsPadded false payload padded content = (payload ≡ content) × (padded ≡ 0)
IsPadded true payload padded content =
    (n : ℕ) × (padding : List ℕ) × (payload ≡ n ∷ content ++ padding) × (length padding ≡ n) × (padded ≡ n + 1) × (n < 2 ^ 8)

-- five octets: the exclusive bit and a stream, then the weight (section 6.3)
abbrev pub weighting_octets : Weighting → List ℕ
weighting_octets w = word w.exclusive w.dependency ++ w.weight ∷ []

-- the content begins with a priority where the flag PRIORITY is set (section 6.2)
abbrev pub IsWeighted : Bool → Option Weighting → List ℕ → List ℕ → Type 0
IsWeighted weighted None content block = (weighted ≡ false) × (content ≡ block)
IsWeighted weighted (Some w) content block =
    (weighted ≡ true) × (content ≡ weighting_octets w ++ block) × (w.dependency < 2 ^ 31)

-- four octets are a number of 31 bits, whose high bit is ignored
abbrev pub Is31Bits : ℕ → List ℕ → Type 0
Is31Bits n octets = (bit : Bool) × (octets ≡ word bit n) × (n < 2 ^ 31)

-- what a frame with this head and payload says, by its type
abbrev pub Says : Head → List ℕ → Frame → Type 0
Says head payload (DataFrame stream last padded octets) =
    (head.kind ≡ 0) × (0 < stream) × (head.stream ≡ stream) × (ends_stream head ≡ last)
    × IsPadded (tells_padding head) payload padded octets
Says head payload (Headers stream last end_headers padded priority block) =
    (head.kind ≡ 1) × (0 < stream) × (head.stream ≡ stream) × (ends_stream head ≡ last) × (ends_headers head ≡ end_headers)
    × ((content : List ℕ) × IsPadded (tells_padding head) payload padded content
    × IsWeighted (tells_priority head) priority content block)
Says head payload (Priority stream priority) =
    (head.kind ≡ 2) × (0 < stream) × (head.stream ≡ stream) × (payload ≡ weighting_octets priority) × (priority.dependency < 2 ^ 31)
Says head payload (Reset stream code) =
    (head.kind ≡ 3) × (0 < stream) × (head.stream ≡ stream) × (payload ≡ to_be_bytes w32 code) × (code < 2 ^ 32)
Says head payload (Settings ack entries) =
    (head.kind ≡ 4) × (head.stream ≡ 0) × (acknowledges head ≡ ack) × (payload ≡ entries) × (length entries % 6 ≡ 0)
    × OnTrue ack (entries ≡ [])
Says head payload (Push stream end_headers padded promised block) =
    (head.kind ≡ 5) × (0 < stream) × (head.stream ≡ stream) × (ends_headers head ≡ end_headers)
    × ((content four : List ℕ) × IsPadded (tells_padding head) payload padded content × (content ≡ four ++ block)
    × Is31Bits promised four)
Says head payload (Ping ack octets) =
    (head.kind ≡ 6) × (head.stream ≡ 0) × (acknowledges head ≡ ack) × (payload ≡ octets) × (length octets ≡ 8)
Says head payload (GoAway last code debug) =
    (head.kind ≡ 7) × (head.stream ≡ 0) × ((four : List ℕ) × Is31Bits last four × (payload ≡ four ++ (to_be_bytes w32 code ++ debug)))
    × (code < 2 ^ 32)
Says head payload (WindowUpdate stream increment) =
    (head.kind ≡ 8) × (head.stream ≡ stream) × Is31Bits increment payload
Says head payload (Continuation stream end_headers block) =
    (head.kind ≡ 9) × (0 < stream) × (head.stream ≡ stream) × (ends_headers head ≡ end_headers) × (payload ≡ block)
Says head payload (Unknown kind flags stream octets) =
    (9 < head.kind) × (head.kind ≡ kind) × (head.flags ≡ flags) × (head.stream ≡ stream) × (payload ≡ octets)
