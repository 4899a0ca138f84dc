-- Heads and trailers as they go out: HEADERS and CONTINUATION (RFC 9113 sections 4.3, 6.2 and 6.10).
use Rattle.h2_frames.specs.Blocks.{block_frames, spellings}
use Rattle.hpack_codec.specs.Encoding.{encode_block}
use Rattle.hpack_codec.specs.declared.fields.Field.{Field}
use Rattle.std.specs.Prelude.{Bool, List, ℕ, ◌*◌, ◌+◌, ◌/◌}

-- the frames of a list of fields; the block begins with the size update 0 where the encoder begins anew
abbrev pub section_octets : Bool → ℕ → Bool → List Field → List ℕ
section_octets anew stream last fields = spellings (block_frames stream last (encode_block anew fields))

-- the most octets that a list of this size takes: one more than it counts, and nine for each 16,384 of them and a rest
abbrev pub head_most : ℕ → ℕ
head_most size = size + 1 + 9 * (size / 16384 + 1)
