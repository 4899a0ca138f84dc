-- What a place behind the receive buffer does with its octets.
use Rattle.std.specs.Prelude.{Bool, List, [], false, if◌then◌else◌, min, nat_lt, not, suc, true, zero, ℕ, ◌&&◌, ◌+◌, ◌||◌, ◌∷◌}

-- A Hold keeps the whole body until its end, a Meter lets an octet go for each of its tokens, and of those in the send
-- buffer frames are made.
pub data Kind : Type 0 where
  Hold : Kind
  Meter : Kind
  Send : Kind

abbrev pub is_hold : Kind → Bool
is_hold Hold = true
is_hold Meter = false
is_hold Send = false

-- it pauses its flow while it is above: a Meter and the send buffer do
abbrev pub is_source : Kind → Bool
is_source Hold = false
is_source Meter = true
is_source Send = true

-- What it lets go of n octets that one move may carry: a Hold none until the body has come whole to it, a Meter at most its
-- tokens.
abbrev pub let_go : Kind → Bool → ℕ → ℕ → ℕ
let_go Hold is_whole tokens n = if is_whole then n else 0
let_go Meter is_whole tokens n = min n tokens
let_go Send is_whole tokens n = 0

-- n octets more pass the limit of a Hold that holds so many
abbrev pub is_overfilled : Kind → ℕ → ℕ → ℕ → Bool
is_overfilled kind limit len n = is_hold kind && nat_lt limit (len + n)

-- ---- by what is empty, and to what the body has come whole
-- every place before p is empty
abbrev pub all_empty : (ℕ → Bool) → ℕ → Bool
all_empty is_empty zero = true
all_empty is_empty (suc p) = is_empty p && all_empty is_empty p

-- the body has come whole to each Hold among the places from p on
abbrev pub holds_filled : (ℕ → Bool) → ℕ → List Kind → Bool
holds_filled is_whole p [] = true
holds_filled is_whole p (kind ∷ kinds) = (not (is_hold kind) || is_whole p) && holds_filled is_whole (p + 1) kinds
