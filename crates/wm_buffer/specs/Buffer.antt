-- What a watermark buffer is seen as, and what a change does to it.
use Rattle.std.specs.Prelude.{◌≡◌, ◌+◌, ◌<◌, ◌≤◌, ◌/◌, ◌++◌, ℕ, List, [], length, drop, Bool, true, false}
use Rattle.wm_buffer.specs.Watermark.{above_after}

-- its octets, its limit, whether it is above, and for how many more octets there is room
pub record Buffer : Type 0 where
  pub octets : List ℕ
  pub limit : ℕ
  pub above : Bool
  pub spare : ℕ

abbrev pub empty_buffer : ℕ → Buffer
empty_buffer limit = record { octets = []; limit = limit; above = false; spare = 0 }

-- A buffer that is above has more octets than half its limit. One that isn't, and has a watermark,
-- has no more than its limit.
pub record IsWithinMarks (buffer : Buffer) : Type 0 where
  pub high : buffer.above ≡ true → buffer.limit / 2 < length buffer.octets
  pub low : buffer.above ≡ false → 0 < buffer.limit → length buffer.octets ≤ buffer.limit

-- These octets were appended, and the room fell by no more than their number.
pub record AppendsOctets (old new : Buffer) (piece : List ℕ) : Type 0 where
  pub octets : new.octets ≡ old.octets ++ piece
  pub limit : new.limit ≡ old.limit
  pub above : new.above ≡ above_after old.limit old.above (length new.octets)
  pub spare : old.spare ≤ new.spare + length piece

-- The first n octets were dropped, and the room rose by their number.
pub record DropsOctets (old new : Buffer) (n : ℕ) : Type 0 where
  pub octets : new.octets ≡ drop n old.octets
  pub limit : new.limit ≡ old.limit
  pub above : new.above ≡ above_after old.limit old.above (length new.octets)
  pub spare : new.spare ≡ old.spare + n

-- At most the room has grown.
pub record KeepsOctets (old new : Buffer) : Type 0 where
  pub octets : new.octets ≡ old.octets
  pub limit : new.limit ≡ old.limit
  pub above : new.above ≡ old.above
  pub spare : old.spare ≤ new.spare
