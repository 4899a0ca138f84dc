-- Passes in the order of their numbers, when one is added at the end or taken from there.
use Rattle.std.proofs.Common.{◌≡◌, ◌⊎◌, ℕ, zero, suc, List, [], ◌∷◌, ◌++◌, length, Option, Some, None, IfSome, option_to_list, refl, sym, ap, ◌∙◌, subst, inl, inr, ⊎_elim, append-nil}
use mathlib.Core.Option.{some, some-injective, some-ne-none}
use lib.ListN.{get_elem?}
use Rattle.crossbeam_queue.proofs.Lists.{at_last, at_longer}
use Rattle.post_queue.specs.declared.passes.PosterPass.{PosterPass}
use Rattle.post_queue.specs.Clauses.{AreInPlace}

-- what stands at a place of a longer list stood there, or is the new end
old_or_end : {A : Type 0} (l : List A) (a b : A) (j : ℕ) → get_elem? (l ++ a ∷ []) j ≡ some b → (get_elem? l j ≡ some b) ⊎ ((a ≡ b) × (length l ≡ j))
old_or_end [] a b zero e = inr (some-injective a b e, refl)
old_or_end [] a b (suc j) e = absurd (some-ne-none b (sym e))
old_or_end (x ∷ xs) a b zero e = inl e
old_or_end (x ∷ xs) a b (suc j) e = ⊎_elim inl (λ (h : (a ≡ b) × (length xs ≡ j)). inr (h.0, ap suc h.1)) (old_or_end xs a b j e)

pub in_place-push : (l : List PosterPass) (p : PosterPass) → AreInPlace l → p.poster ≡ length l → AreInPlace (l ++ p ∷ [])
in_place-push l p h is k q e =
    ⊎_elim (λ old. h k q old) (λ (new : (p ≡ q) × (length l ≡ k)). ap (λ (x : PosterPass). x.poster) (sym new.0) ∙ is ∙ new.1) (old_or_end l p q k e)

pub in_place-pop : (old new : List PosterPass) (o : Option PosterPass) → old ≡ new ++ option_to_list o → AreInPlace old → AreInPlace new × IfSome o (λ p. p.poster ≡ length new)
in_place-pop old new None e h = (subst AreInPlace (e ∙ append-nil new) h, tt)
in_place-pop old new (Some p) e h = let all : AreInPlace (new ++ p ∷ []) = subst AreInPlace e h in
    ((λ k q at. all k q (at_longer new (p ∷ []) k q at)), all (length new) p (at_last new p (length new) refl))
