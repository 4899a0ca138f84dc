-- How long a body has to be.
use Rattle.std.specs.Option.{option_map_or}
use Rattle.std.specs.Prelude.{Bool, ℕ, nat_le, not, true, ◌&&◌, ◌==◌, ◌||◌}
use Rattle.wire_heads.specs.declared.lengths.Expected.{Expected}

-- a body that came to its end with so many octets has the length that was declared, or is empty where it may be (RFC 9113 section 8.1.1)
abbrev pub is_whole : Expected → ℕ → Bool
is_whole expected length = (expected.body == length) || (expected.bodiless && (expected.body == 0))

-- nothing was declared, or the octets so far are no more than that, and whole where they are the last
abbrev pub fits : Expected → Bool → Bool
fits expected last =
    option_map_or (λ length. nat_le expected.body length && (not last || is_whole expected length)) expected.declared true
