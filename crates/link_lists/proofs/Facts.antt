-- How many lists there are after a node came or left. The crates above cite these.
use Rattle.std.proofs.Common.{◌≡◌, ℕ, zero, suc, true, false, cond, List, [], ◌∷◌, length, refl, ap, arith}
use denote.RawPtr.{Ptr}
use Rattle.link_lists.specs.Lists.{has, pull, pull_from, push_at}
use Rattle.link_lists.proofs.Memory.{either}

module _ {T : Type 0} where
  pub length-push_at : (k : ℕ) (n : Ptr × T) (ls : List (List (Ptr × T))) → length (push_at k n ls) ≡ length ls
  unfolding push_at
  length-push_at k n [] = refl
  length-push_at zero n (l ∷ ls) = refl
  length-push_at (suc k) n (l ∷ ls) = let on = length-push_at k n ls in omega arith

  pub length-pull_from : (p : Ptr) (ls : List (List (Ptr × T))) → length (pull_from p ls) ≡ length ls
  unfolding pull_from
  length-pull_from p [] = refl
  length-pull_from p (l ∷ ls) = let on = length-pull_from p ls in either (has p l)
      (λ t. ap (λ c. length (cond c (pull p l ∷ ls) (l ∷ pull_from p ls))) t)
      (λ f. let e = ap (λ c. length (cond c (pull p l ∷ ls) (l ∷ pull_from p ls))) f in omega (arith, e, on))
