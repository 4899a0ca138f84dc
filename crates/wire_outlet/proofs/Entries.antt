-- How many octets SETTINGS takes.
use Rattle.std.proofs.Common.{List, [], ap, arith, length, length-append, refl, ℕ, ◌*◌, ◌+◌, ◌++◌, ◌≡◌, ◌≤◌, ◌∷◌}
use Rattle.std.specs.Int.{to_be_bytes, w16, w32}
use Rattle.wire_outlet.specs.Control.{entries_of, settings_octets}

pub six_each : (settings : List (ℕ × ℕ)) → length (entries_of settings) ≡ 6 * length settings
six_each [] = refl
six_each (s ∷ later) =
    omega (arith, length-append (to_be_bytes w16 s.0 ++ to_be_bytes w32 s.1) (entries_of later), length-append (to_be_bytes w16 s.0) (to_be_bytes w32 s.1), six_each later)

frame_length : (settings : List (ℕ × ℕ)) → length (settings_octets settings) ≡ 9 + 6 * length settings
frame_length settings = omega (arith, six_each settings)

-- behind at most the preface it is within the most of a control unit
pub within : (before octets : List ℕ) (settings : List (ℕ × ℕ)) → octets ≡ before ++ settings_octets settings → length before ≤ 24 → 6 * length settings ≤ 16384
    → length octets ≤ 16417
within before octets settings e few small = omega (arith, ap length e, length-append before (settings_octets settings), frame_length settings)
