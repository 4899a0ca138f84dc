-- What the head of a response comes to, and trailers.
use Rattle.h2_heads.specs.Heads.{is_malformed_response, is_malformed_trailers, length_of, status_of}
use Rattle.hpack_codec.specs.declared.fields.Field.{Field}
use Rattle.std.specs.Prelude.{Bool, IfSome, List, None, Option, Some, false, if◌then◌else◌, nat_le, nat_lt, not, true, ℕ, ◌&&◌, ◌<◌, ◌==◌, ◌^◌, ◌||◌}
use Rattle.wire_heads.specs.Lengths.{fits}
use Rattle.wire_heads.specs.declared.lengths.Expected.{Expected}
use Rattle.wire_heads.specs.declared.responses.Response.{Response}
use Rattle.wire_heads.specs.declared.responses.Response.TheVariants.{Final, Interim, Malformed}

-- a response with this status has no body (RFC 9110 sections 15.3.5 and 15.4.5)
abbrev pub is_bodiless : ℕ → Bool
is_bodiless status = (status == 204) || (status == 304)

-- an interim response (RFC 9110 section 15.2)
abbrev pub is_interim : ℕ → Bool
is_interim status = nat_le 100 status && nat_lt status 200

-- what the body has to be, once the head came with this status and this content-length
abbrev pub awaited : ℕ → Option ℕ → Expected → Expected
awaited status declared expected = record {
  declared = declared;
  body = expected.body;
  bodiless = expected.bodiless || is_bodiless status;
}

-- the final head, with which the stream ends where `last` says so
abbrev pub final : Expected → Bool → Response
final expected last = if last && not (fits expected true) then Malformed else Final expected

-- what a sound head with this status and this content-length comes to: 101 has no place in HTTP/2 (RFC 9113 section 8.6), and an interim head doesn't end a
-- stream (section 8.1)
abbrev pub judged : ℕ → Option ℕ → Bool → Expected → Response
judged status declared last expected =
    if status == 101 then Malformed
    else if is_interim status then (if last then Malformed else Interim)
    else final (awaited status declared expected) last

-- what the fields of a head come to; there are none where their list is too long
abbrev pub response : Option (List Field) → Bool → Expected → Response
response None last expected = Malformed
response (Some fields) last expected =
    if is_malformed_response fields then Malformed else judged (status_of fields) (length_of fields) last expected

-- a declared length is below 2^63
abbrev pub IsShort : Response → Type 0
IsShort Interim = Unit {0}
IsShort Malformed = Unit {0}
IsShort (Final expected) = IfSome expected.declared (λ declared. declared < 2 ^ 63)

-- the fields may end a body
abbrev pub are_trailers : Option (List Field) → Expected → Bool
are_trailers None expected = false
are_trailers (Some fields) expected = not (is_malformed_trailers fields) && fits expected true
