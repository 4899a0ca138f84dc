-- How a count over different streams moves where one stream does.
use Rattle.std.proofs.Common.{◌≡◌, ℕ, ◌+◌, Bool, true, false, eqb, List, [], ◌∷◌, refl, ap, subst, arith}
use Rattle.std.specs.Prelude.{count_by, ◌&&◌}
use Rattle.std.proofs.lemmas.Bool.{eqb-true}
use Rattle.std.proofs.lemmas.List.Sums.{sum_by-cons}
use Rattle.h2_session.specs.Streams.{is_among}
use Rattle.h2_session.specs.Summary.{AreDifferent}
use Rattle.h2_session.specs.Table.{one_if}

pub count_cons : (p : ℕ → Bool) (t : ℕ) (ts : List ℕ) → count_by p (t ∷ ts) ≡ one_if (p t) + count_by p ts
count_cons p t ts = sum_by-cons (λ (x : ℕ). one_if (p x)) t ts

pub count_moved : (p q : ℕ → Bool) (s : ℕ) (xs : List ℕ) → AreDifferent xs → ((t : ℕ) → eqb t s ≡ false → q t ≡ p t)
    → count_by q xs + one_if (is_among s xs && p s) ≡ count_by p xs + one_if (is_among s xs && q s)
count_moved p q s [] d same = refl
count_moved p q s (t ∷ ts) d same = cases (eqb t s) refl (count_moved p q s ts d.1 same)
  where
    cases : (b : Bool) → eqb t s ≡ b → count_by q ts + one_if (is_among s ts && p s) ≡ count_by p ts + one_if (is_among s ts && q s)
        → count_by q (t ∷ ts) + one_if (is_among s (t ∷ ts) && p s) ≡ count_by p (t ∷ ts) + one_if (is_among s (t ∷ ts) && q s)
    cases true e behind =
        let here : t ≡ s = eqb-true t s e in
        let away : is_among s ts ≡ false = subst (λ (n : ℕ). is_among n ts ≡ false) here d.0 in
        let others : count_by q ts + 0 ≡ count_by p ts + 0 = subst (λ (b : Bool). count_by q ts + one_if (b && p s) ≡ count_by p ts + one_if (b && q s)) away behind in
        rw (count_cons q t ts, count_cons p t ts, e) (omega (arith, others, ap (λ (n : ℕ). one_if (q n)) here, ap (λ (n : ℕ). one_if (p n)) here))
    cases false e behind =
        rw (count_cons q t ts, count_cons p t ts, e) (omega (arith, behind, ap one_if (same t e)))
