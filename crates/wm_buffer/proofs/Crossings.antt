-- The crossings of the flag are the rises and drains of the buffer.
use Rattle.std.proofs.Common.{◌≡◌, ◌∷◌, ℕ, List, Bool, true, false, refl}
use Rattle.wm_buffer.specs.declared.watermark.Crossed.TheVariants.{High, Low}
use Rattle.wm_buffer.specs.Watermark.{Rises, Drains, flag, crossing}
use Rattle.wm_buffer.proofs.Flag.{IsAbove-from_flag, flag-from_IsAbove}

high_parts : (was is : Bool) → crossing was is ≡ High → (was ≡ false) × (is ≡ true)
high_parts false true e = (refl, refl)
high_parts false false e = cc
high_parts true false e = cc
high_parts true true e = cc

low_parts : (was is : Bool) → crossing was is ≡ Low → (was ≡ true) × (is ≡ false)
low_parts true false e = (refl, refl)
low_parts false true e = cc
low_parts false false e = cc
low_parts true true e = cc

high_from : (was is : Bool) → (was ≡ true → ⊥) → is ≡ true → crossing was is ≡ High
high_from false true not_was e = refl
high_from false false not_was e = cc
high_from true is not_was e = absurd (not_was refl)

low_from : (was is : Bool) → was ≡ true → (is ≡ true → ⊥) → crossing was is ≡ Low
low_from true false e not_is = refl
low_from false false e not_is = cc
low_from was true e not_is = absurd (not_is refl)

pub Rises-from_high : (l n : ℕ) (past : List ℕ) → crossing (flag l past) (flag l (n ∷ past)) ≡ High → Rises l n past
Rises-from_high l n past e =
    let parts = high_parts (flag l past) (flag l (n ∷ past)) e in
    ((λ above. let was = flag-from_IsAbove l past above in let is = parts.0 in cc), IsAbove-from_flag l (n ∷ past) parts.1)

pub high-from_Rises : (l n : ℕ) (past : List ℕ) → Rises l n past → crossing (flag l past) (flag l (n ∷ past)) ≡ High
high-from_Rises l n past rises =
    high_from (flag l past) (flag l (n ∷ past)) (λ was. rises.0 (IsAbove-from_flag l past was)) (flag-from_IsAbove l (n ∷ past) rises.1)

pub Drains-from_low : (l n : ℕ) (past : List ℕ) → crossing (flag l past) (flag l (n ∷ past)) ≡ Low → Drains l n past
Drains-from_low l n past e =
    let parts = low_parts (flag l past) (flag l (n ∷ past)) e in
    (IsAbove-from_flag l past parts.0, (λ above. let is = flag-from_IsAbove l (n ∷ past) above in let no = parts.1 in cc))

pub low-from_Drains : (l n : ℕ) (past : List ℕ) → Drains l n past → crossing (flag l past) (flag l (n ∷ past)) ≡ Low
low-from_Drains l n past drains =
    low_from (flag l past) (flag l (n ∷ past)) (flag-from_IsAbove l past drains.0) (λ is. drains.1 (IsAbove-from_flag l (n ∷ past) is))
