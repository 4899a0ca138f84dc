-- The flag that follows the lengths step by step tells whether the buffer is above.
use Rattle.std.proofs.Common.{◌≡◌, ◌<◌, ◌≤◌, ◌/◌, ℕ, zero, suc, List, [], ◌∷◌, length, get_or, Bool, true, false, refl, ap, ◌∙◌, sym, arith}
use Rattle.std.proofs.lemmas.Bool.Decides.{nat_tests}
use Rattle.wm_buffer.specs.Watermark.{above_after, IsAbove, flag}

-- one step: what is known of a length at which the buffer is above
has_limit : (l n : ℕ) (was : Bool) → above_after l was n ≡ true → 0 < l
has_limit zero n was e = cc
has_limit (suc l) n was e = omega arith

over_half : (l n : ℕ) → above_after l true n ≡ true → l / 2 < n
over_half l n e = grind (arith, nat_tests)

over_limit : (l n : ℕ) → above_after l false n ≡ true → l < n
over_limit l n e = grind (arith, nat_tests)

-- and at which lengths it is above
above_over_limit : (l n : ℕ) (was : Bool) → 0 < l → l < n → above_after l was n ≡ true
above_over_limit l n true p e = grind (arith, nat_tests)
above_over_limit l n false p e = grind (arith, nat_tests)

above_over_half : (l n : ℕ) → 0 < l → l / 2 < n → above_after l true n ≡ true
above_over_half l n p e = grind (arith, nat_tests)

-- a buffer that was above still is, over half the limit
IsAbove-more : (l n : ℕ) (ns : List ℕ) → l / 2 < n → IsAbove l ns → IsAbove l (n ∷ ns)
IsAbove-more l n ns half above = record {
  watched = above.watched;
  ago = suc above.ago;
  within = let within = above.within in omega arith;
  over = above.over;
  since = since-more;
} where
  since-more : (k : ℕ) → k ≤ suc above.ago → l / 2 < get_or (n ∷ ns) k 0
  since-more zero h = half
  since-more (suc k) h = above.since k (omega arith)

-- and over the limit it is above at once
IsAbove-now : (l n : ℕ) (ns : List ℕ) → 0 < l → l < n → IsAbove l (n ∷ ns)
IsAbove-now l n ns some over = record {
  watched = some;
  ago = 0;
  within = omega arith;
  over = over;
  since = since-now;
} where
  since-now : (k : ℕ) → k ≤ 0 → l / 2 < get_or (n ∷ ns) k 0
  since-now zero h = omega arith
  since-now (suc k) h = absurd (omega arith)

-- the flag before this length is `was`
by_flag_before : (l n : ℕ) (ns : List ℕ) (was : Bool) → flag l ns ≡ was → (flag l ns ≡ true → IsAbove l ns) → above_after l (flag l ns) n ≡ true → IsAbove l (n ∷ ns)
by_flag_before l n ns true is before e =
    IsAbove-more l n ns (over_half l n (ap (λ was. above_after l was n) (sym is) ∙ e)) (before is)
by_flag_before l n ns false is before e =
    IsAbove-now l n ns (has_limit l n (flag l ns) e) (over_limit l n (ap (λ was. above_after l was n) (sym is) ∙ e))

pub IsAbove-from_flag : (l : ℕ) (ns : List ℕ) → flag l ns ≡ true → IsAbove l ns
IsAbove-from_flag l [] e = cc
IsAbove-from_flag l (n ∷ ns) e = by_flag_before l n ns (flag l ns) refl (IsAbove-from_flag l ns) e

-- the parts of `IsAbove` one by one, for the induction on the moment at which the limit was passed
flag_from : (l : ℕ) (ns : List ℕ) → 0 < l → (ago : ℕ) → ago < length ns → l < get_or ns ago 0 → ((k : ℕ) → k ≤ ago → l / 2 < get_or ns k 0) → flag l ns ≡ true
flag_from l [] p ago within over since = absurd (omega arith)
flag_from l (n ∷ ns) p zero within over since = above_over_limit l n (flag l ns) p over
flag_from l (n ∷ ns) p (suc ago) within over since =
    ap (λ was. above_after l was n) (flag_from l ns p ago (omega arith) over (λ k h. since (suc k) (omega arith)))
    ∙ above_over_half l n p (since 0 (omega arith))

pub flag-from_IsAbove : (l : ℕ) (ns : List ℕ) → IsAbove l ns → flag l ns ≡ true
flag-from_IsAbove l ns above = flag_from l ns above.watched above.ago above.within above.over above.since
