-- A place keeps within its marks, its limit and its tokens.
use Rattle.std.proofs.Common.{◌≡◌, ◌+◌, ◌-◌, ◌*◌, ◌/◌, ◌<◌, ◌≤◌, ◌++◌, ◌&&◌, ◌∙◌, ℕ, List, length, drop, Bool, true, false, min, refl, ap, arith, length-append, length-drop, nat_lt}
use Rattle.std.proofs.lemmas.Bool.Decides.{nat_tests}
use Rattle.filter_chain.specs.Place.{IsPlace, IsWithinKind, Place, gaining, holding, is_hold, letting_go, losing, rate_of, refilled}
use Rattle.filter_chain.specs.Release.{is_overfilled_by}
use Rattle.filter_chain.specs.declared.stage.StageKind.{StageKind}
use Rattle.filter_chain.specs.declared.stage.StageKind.TheVariants.{Hold, Meter, Send}
use Rattle.wm_buffer.specs.Watermark.{above_after}

-- whatever its flag was
over_half : (l n : ℕ) (was : Bool) → above_after l was n ≡ true → l / 2 < n
over_half l n true e = grind (arith, nat_tests)
over_half l n false e = grind (arith, nat_tests)

within_limit : (l n : ℕ) (was : Bool) → above_after l was n ≡ false → 0 < l → n ≤ l
within_limit l n true e some = grind (arith, nat_tests)
within_limit l n false e some = grind (arith, nat_tests)

never_above : (l n : ℕ) → n ≤ l → above_after l false n ≡ false
never_above l n h = grind (arith, nat_tests)

-- a Hold holds no more than its limit, and never was above it
hold_within : (kind : StageKind) (place : Place) → is_hold kind ≡ true → IsWithinKind kind place → length place.octets ≤ place.limit
hold_within Hold place e w = w.1
hold_within (Meter rate) place e w = cc
hold_within Send place e w = cc

within_kind : (kind : StageKind) (octets : List ℕ) (place : Place) → (is_hold kind ≡ true → length octets ≤ place.limit) → IsWithinKind kind place → IsWithinKind kind (holding octets place)
within_kind Hold octets place fits w =
    (ap (λ was. above_after place.limit was (length octets)) w.0 ∙ never_above place.limit (length octets) (fits refl), fits refl, w.2)
within_kind (Meter rate) octets place fits w = w
within_kind Send octets place fits w = tt

with_tokens : (kind : StageKind) (tokens : ℕ) (place : Place) → IsWithinKind kind place → IsWithinKind kind (record place { tokens = tokens })
with_tokens Hold tokens place w = w
with_tokens (Meter rate) tokens place w = w
with_tokens Send tokens place w = tt

IsPlace-holding : (octets : List ℕ) (place : Place) → (is_hold place.kind ≡ true → length octets ≤ place.limit) → IsPlace place → IsPlace (holding octets place)
IsPlace-holding octets place fits sound = record {
  high = over_half place.limit (length octets) place.above;
  low = within_limit place.limit (length octets) place.above;
  tokens = sound.tokens;
  kind = within_kind place.kind octets place fits sound.kind;
}

pub IsPlace-tokens : (tokens : ℕ) (place : Place) → tokens ≤ rate_of place.kind → IsPlace place → IsPlace (record place { tokens = tokens })
IsPlace-tokens tokens place few sound = record {
  high = sound.high;
  low = sound.low;
  tokens = few;
  kind = with_tokens place.kind tokens place sound.kind;
}

pub IsPlace-losing : (n : ℕ) (place : Place) → IsPlace place → IsPlace (losing n place)
IsPlace-losing n place sound =
    IsPlace-holding (drop n place.octets) place
    (λ e. let within : length place.octets ≤ place.limit = hold_within place.kind place e sound.kind in
    omega (arith, length-drop n place.octets)) sound

pub IsPlace-letting_go : (n : ℕ) (place : Place) → IsPlace place → IsPlace (letting_go n place)
IsPlace-letting_go n place sound =
    let few : place.tokens ≤ rate_of place.kind = sound.tokens in
    IsPlace-tokens (place.tokens - n) (losing n place) (omega arith) (IsPlace-losing n place sound)

pub IsPlace-refilled : (steps : ℕ) (place : Place) → IsPlace place → IsPlace (refilled steps place)
IsPlace-refilled steps place sound =
    IsPlace-tokens (min (rate_of place.kind) (place.tokens + rate_of place.kind * steps)) place (omega arith) sound

-- a Hold that isn't overfilled takes all
not_overfilled : (n : ℕ) (place : Place) (hold : Bool) → hold && nat_lt place.limit (length place.octets + n) ≡ false → hold ≡ true → length place.octets + n ≤ place.limit
not_overfilled n place true free e = grind (arith, nat_tests)
not_overfilled n place false free e = cc

pub IsPlace-gaining : (octets : List ℕ) (place : Place) → is_overfilled_by (length octets) place ≡ false → IsPlace place → IsPlace (gaining octets place)
IsPlace-gaining octets place free sound =
    IsPlace-holding (place.octets ++ octets) place
    (λ e. let within : length place.octets + length octets ≤ place.limit = not_overfilled (length octets) place (is_hold place.kind) free e in
    omega (arith, length-append place.octets octets)) sound
