-- The next unit within a smaller bound.
use Rattle.std.proofs.lemmas.Bool.{and_parts}
use Rattle.std.proofs.Common.{◌≡◌, ◌-◌, ◌≤◌, ◌∙◌, ◌&&◌, ◌==◌, ℕ, length, Bool, true, false, refl, ap, nat_lt, nat_le, arith, min}
use Rattle.std.proofs.lemmas.Bool.Decides.{nat_tests}
use Rattle.std.proofs.lemmas.Int.{ints}
use borrow.Author.Differences.{down, up}
use Rattle.exchange_core.specs.Flow.{Flow, send}
use Rattle.exchange_core.specs.State.{ungated}
use Rattle.exchange_core.specs.Units.{IsFrameable, next_unit}
use Rattle.flow_rules.proofs.Narrow.{unit_narrowed}
use Rattle.flow_rules.specs.Narrowed.{narrowed, octets_of}
use Rattle.flow_rules.specs.Units.{next_unit as first_unit}
use Rattle.flow_rules.specs.declared.unit.Unit.{Unit as NextUnit}
use Rattle.flow_rules.specs.declared.unit.Unit.TheVariants.{Nothing, Head, Body, Trailers}
use Rattle.std.specs.Int.{int_min}
use Rattle.std.specs.Prelude.{cond, if◌then◌else◌, int_lt, negsuc, pos, ℤ}

-- ---- how many octets may go
octets_is : (z : ℤ) → octets_of z ≡ up z - down z
octets_is (pos n) = omega arith
octets_is (negsuc n) = omega arith

octets_min : (a b : ℤ) → octets_of (int_min a b) ≡ min (octets_of a) (octets_of b)
octets_min a b = by (int_lt b a) refl
  where
    by : (t : Bool) → int_lt b a ≡ t → octets_of (cond t b a) ≡ min (octets_of a) (octets_of b)
    by true e = omega (arith, ints, octets_is a, octets_is b)
    by false e = omega (arith, ints, octets_is a, octets_is b)

less_room : (frame n a b : ℕ) → n ≡ min a b → min frame n ≡ min (min frame a) b
less_room frame n a b e = omega arith

less_frame : (a b room : ℕ) → min (min a b) room ≡ min (min a room) b
less_frame a b room = omega arith

-- ---- the next unit
pub room_narrows : (a b : ℤ) (frame : ℕ) (flow : Flow) → next_unit (int_min a b) frame flow ≡ narrowed (octets_of b) (next_unit a frame flow)
room_narrows a b frame flow =
    ap (λ m. first_unit (record (ungated a frame flow) { frame = m })) (less_room frame _ _ _ (octets_min a b)) ∙ unit_narrowed (octets_of b) (ungated a frame flow)

pub frame_narrows : (room : ℤ) (a b : ℕ) (flow : Flow) → next_unit room (min a b) flow ≡ narrowed b (next_unit room a flow)
frame_narrows room a b flow =
    cc (less_frame a b (octets_of room), unit_narrowed b (ungated room a flow))

pub still_frameable : (most : ℕ) (unit : NextUnit) (flow : Flow) → IsFrameable unit flow → IsFrameable (narrowed most unit) flow
still_frameable most Nothing flow is = is
still_frameable most (Head last) flow is = is
still_frameable most (Body n last) flow is = by (nat_lt 0 n && (most == 0))
  where
    by : (none : Bool) → IsFrameable (if none then Nothing else Body (min n most) (last && nat_le n most)) flow
    by true = tt
    by false =
        let within : n ≤ length (send flow) = is.1 in
        let whole : nat_le n most ≡ true → min n most ≡ n = λ e. grind (arith, nat_tests) in
        (is.0, omega arith, λ h. let b = and_parts last (nat_le n most) h in rw (whole b.1) (is.2 b.0))
still_frameable most Trailers flow is = is
