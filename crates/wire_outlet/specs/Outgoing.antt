-- What goes out on a connection, and what a call does to it.
use Rattle.std.specs.Prelude.{Bool, List, None, Option, Some, [], false, if◌then◌else◌, length, nat_lt, ℕ, ◌++◌, ◌+◌, ◌<◌, ◌≡◌, ◌≤◌, ◌∷◌}
use Rattle.wire_outlet.specs.Waiting.{anew_after, framed_of, octets_of}
use Rattle.wire_outlet.specs.declared.outlet.Framed.{Framed}
use Rattle.wire_outlet.specs.declared.waiting.Waiting.{Waiting}
use Rattle.wm_buffer.specs.Buffer.{AppendsOctets, Buffer}
use Rattle.wm_buffer.specs.Watermark.{crossing}
use Rattle.wm_buffer.specs.declared.watermark.Crossed.{Crossed}

-- the octets for the socket, the units that wait, first in first out, and whether the next field block begins with the size
-- update 0 (RFC 7541 section 4.2)
pub record Outgoing : Type 0 where
  pub write : Buffer
  pub waiting : List Waiting
  pub anew : Bool

-- A write buffer has room for its limit and one unit more, and holds no more than both; while it isn't above, no more than its
-- limit.
pub record IsReady (unit : ℕ) (write : Buffer) : Type 0 where
  pub room : write.limit + unit ≤ length write.octets + write.spare
  pub bound : 0 < write.limit → length write.octets ≤ write.limit + unit
  pub low : write.above ≡ false → 0 < write.limit → length write.octets ≤ write.limit

-- the list takes one more while fewer than `most` units wait
abbrev pub has_place : ℕ → Outgoing → Bool
has_place most o = nat_lt (length o.waiting) most

abbrev pub put_unit : ℕ → Waiting → Outgoing → Outgoing
put_unit most unit o = if has_place most o then record o { waiting = o.waiting ++ unit ∷ [] } else o

-- These octets were appended to the write buffer, and all else is as in `after`.
pub record Writes (octets : List ℕ) (old after new : Outgoing) : Type 0 where
  pub write : AppendsOctets old.write new.write octets
  pub rest : new ≡ record after { write = new.write }

-- a unit as it is framed, and what its octets crossed
abbrev pub framed_with : Framed → Outgoing → Outgoing → Framed × Crossed
framed_with framed old new = (framed, crossing old.write.above new.write.above)

-- The first unit that waits is framed, and waits no more. Where none waits, nothing changes.
abbrev pub FramesFirst : List Waiting → Outgoing → Outgoing → Option (Framed × Crossed) → Type 0
FramesFirst [] old new result = (result ≡ None) × (new ≡ old)
FramesFirst (unit ∷ later) old new result =
    (result ≡ Some (framed_with (framed_of old.anew unit) old new))
    × Writes (octets_of (framed_of old.anew unit)) old (record old { waiting = later; anew = anew_after unit old.anew }) new
