-- The entries of a SETTINGS frame, one after another.
use Rattle.std.proofs.Common.{◌≡◌, ℕ, ◌<◌, ◌≤◌, List, [], ◌∷◌, length, get_or, take, drop, ap, ◌∙◌, refl, arith}
use Rattle.std.specs.Int.{from_be_bytes, w16, w32}
use Rattle.std.specs.Prelude.{suc, ◌/◌}
use Rattle.h2_session.specs.Errors.{settings_of}

pub first_of_settings : (l front rest : List ℕ) (i v : ℕ) → 6 ≤ length l → front ≡ take 6 l → rest ≡ drop 6 l
    → i ≡ from_be_bytes w16 (get_or front 0 0 ∷ get_or front 1 0 ∷ [])
    → v ≡ from_be_bytes w32 (get_or front 2 0 ∷ get_or front 3 0 ∷ get_or front 4 0 ∷ get_or front 5 0 ∷ [])
    → settings_of l ≡ record { id = i; value = v } ∷ settings_of rest
first_of_settings (a ∷ b ∷ c ∷ d ∷ e ∷ f ∷ l) front rest i v long p q x y = rw (y, x, p, q) refl
first_of_settings [] front rest i v long p q x y = absurd (omega arith)
first_of_settings (a ∷ []) front rest i v long p q x y = absurd (omega arith)
first_of_settings (a ∷ b ∷ []) front rest i v long p q x y = absurd (omega arith)
first_of_settings (a ∷ b ∷ c ∷ []) front rest i v long p q x y = absurd (omega arith)
first_of_settings (a ∷ b ∷ c ∷ d ∷ []) front rest i v long p q x y = absurd (omega arith)
first_of_settings (a ∷ b ∷ c ∷ d ∷ e ∷ []) front rest i v long p q x y = absurd (omega arith)

-- fewer octets than an entry has are none
pub no_settings : (l : List ℕ) → length l < 6 → settings_of l ≡ []
no_settings [] short = refl
no_settings (a ∷ []) short = refl
no_settings (a ∷ b ∷ []) short = refl
no_settings (a ∷ b ∷ c ∷ []) short = refl
no_settings (a ∷ b ∷ c ∷ d ∷ []) short = refl
no_settings (a ∷ b ∷ c ∷ d ∷ e ∷ []) short = refl
no_settings (a ∷ b ∷ c ∷ d ∷ e ∷ f ∷ l) short = absurd (omega arith)

-- six octets are an entry
pub count_settings : (l : List ℕ) → length (settings_of l) ≡ length l / 6
count_settings [] = refl
count_settings (a ∷ []) = refl
count_settings (a ∷ b ∷ []) = refl
count_settings (a ∷ b ∷ c ∷ []) = refl
count_settings (a ∷ b ∷ c ∷ d ∷ []) = refl
count_settings (a ∷ b ∷ c ∷ d ∷ e ∷ []) = refl
count_settings (a ∷ b ∷ c ∷ d ∷ e ∷ f ∷ l) = ap suc (count_settings l) ∙ one_more (length l)
  where
    one_more : (n : ℕ) → suc (n / 6) ≡ suc (suc (suc (suc (suc (suc n))))) / 6
    one_more n = omega arith
