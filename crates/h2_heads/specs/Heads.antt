-- What sound heads say.
use Rattle.h2_heads.specs.Malformed.{is_connect, is_malformed, message_of_request}
use Rattle.h2_heads.specs.Named.{place_of, value_of}
use Rattle.h2_heads.specs.Numbers.{decimal}
use Rattle.h2_heads.specs.declared.heads.RequestHead.{RequestHead}
use Rattle.h2_heads.specs.declared.malformed.Message.TheVariants.{Response, Trailers}
use Rattle.hpack_codec.specs.declared.fields.Field.{Field}
use Rattle.std.specs.Option.{option_map, option_map_or}
use Rattle.std.specs.Prelude.{Bool, List, Option, codes, false, nat_le, nat_lt, ℕ, ◌&&◌}
use Rattle.std.specs.Str.{bytes_eq}

-- a request whose first method is HEAD (RFC 9110 section 9.3.2)
abbrev pub is_head : List Field → Bool
is_head fields = option_map_or (λ method. bytes_eq method (codes "HEAD")) (value_of (codes ":method") fields) false

-- the length that the list names, if it names one
abbrev pub length_of : List Field → Option ℕ
length_of fields = option_map decimal (value_of (codes "content-length") fields)

abbrev pub request_head : List Field → RequestHead
request_head fields = record {
  connect = is_connect fields;
  head = is_head fields;
  authority = place_of (codes ":authority") fields;
  path = place_of (codes ":path") fields;
  content_length = length_of fields;
}

-- the status of a response, 0 without one
abbrev pub status_of : List Field → ℕ
status_of fields = option_map_or decimal (value_of (codes ":status") fields) 0

-- an interim response (RFC 9110 section 15.2)
abbrev pub is_interim : List Field → Bool
is_interim fields = nat_le 100 (status_of fields) && nat_lt (status_of fields) 200

abbrev pub is_malformed_request : List Field → Bool
is_malformed_request fields = is_malformed (message_of_request fields) fields

abbrev pub is_malformed_response : List Field → Bool
is_malformed_response fields = is_malformed Response fields

abbrev pub is_malformed_trailers : List Field → Bool
is_malformed_trailers fields = is_malformed Trailers fields
