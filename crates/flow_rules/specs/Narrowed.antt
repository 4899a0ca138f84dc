-- The next unit of a flow within a smaller bound (RFC 9113 section 6.9).
use Rattle.flow_rules.specs.State.{FlowState}
use Rattle.flow_rules.specs.declared.unit.Unit.{Unit as NextUnit}
use Rattle.flow_rules.specs.declared.unit.Unit.TheVariants.{Body, Head, Nothing, Trailers}
use Rattle.std.specs.Prelude.{if◌then◌else◌, min, nat_le, nat_lt, negsuc, pos, ℕ, ℤ, ◌&&◌, ◌==◌}

-- a room below 0 counts as 0 (section 6.9.2)
abbrev pub octets_of : ℤ → ℕ
octets_of (pos n) = n
octets_of (negsuc n) = 0

-- a DATA frame may carry at most so many octets
abbrev pub within : ℕ → FlowState → FlowState
within most flow = record flow { frame = min flow.frame most }

-- the unit where at most so many octets may go: a DATA frame carries no more, and the end only where all of its own go; where
-- it has some and none may go, there is none. A head, trailers and an empty frame stay.
abbrev pub narrowed : ℕ → NextUnit → NextUnit
narrowed most Nothing = Nothing
narrowed most (Head last) = Head last
narrowed most (Body n last) = if nat_lt 0 n && (most == 0) then Nothing else Body (min n most) (last && nat_le n most)
narrowed most Trailers = Trailers
