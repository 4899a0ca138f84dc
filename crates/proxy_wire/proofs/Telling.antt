-- What a site tells of workers, one thing after another.
use Rattle.proxy_site.specs.WireSites.{TellsFitted, TellsReturned, TellsWorkers, WireTold, numbered, with_fitted, with_returned}
use Rattle.std.proofs.Common.{ap, append_assoc, arith, inl, inr, refl, subst, sym, ◌∙◌}
use Rattle.std.proofs.lemmas.List.{append-nil, reverse-append}
use Rattle.std.specs.Prelude.{List, None, Option, Some, [], length, reverse, suc, ℕ, ◌+◌, ◌++◌, ◌∷◌, ◌≡◌}

module _ {W C L : Type 0} where
  fitted_again : (o : Option (WireTold W C L)) (xs ys : List (ℕ × (W × (C × L)))) → with_fitted ys (with_fitted xs o) ≡ with_fitted (xs ++ ys) o
  fitted_again None xs ys = refl
  fitted_again (Some t) xs ys = ap (λ (l : List (ℕ × (W × (C × L)))). Some (record t { fitted = l })) (append_assoc t.fitted xs ys)

  returned_again : (o : Option (WireTold W C L)) (xs ys : List (ℕ × (W × L))) → with_returned ys (with_returned xs o) ≡ with_returned (xs ++ ys) o
  returned_again None xs ys = refl
  returned_again (Some t) xs ys = ap (λ (l : List (ℕ × (W × L))). Some (record t { returned = l })) (append_assoc t.returned xs ys)

  fitted_nothing : (o : Option (WireTold W C L)) → o ≡ with_fitted [] o
  fitted_nothing None = refl
  fitted_nothing (Some t) = ap (λ (l : List (ℕ × (W × (C × L)))). Some (record t { fitted = l })) (sym (append-nil t.fitted))

  returned_nothing : (o : Option (WireTold W C L)) → o ≡ with_returned [] o
  returned_nothing None = refl
  returned_nothing (Some t) = ap (λ (l : List (ℕ × (W × L))). Some (record t { returned = l })) (sym (append-nil t.returned))

  pub fitted_none : (a b : Option (WireTold W C L)) → b ≡ a → TellsFitted a [] b
  fitted_none a b e = inr (e ∙ fitted_nothing a)

  pub fitted_more : (a b c : Option (WireTold W C L)) (xs ys : List (ℕ × (W × (C × L)))) → TellsFitted a xs b → TellsFitted b ys c → TellsFitted a (xs ++ ys) c
  fitted_more a b c xs ys p (inl none) = inl none
  fitted_more a b c xs ys (inl none) (inr e) = inl (e ∙ ap (with_fitted ys) none)
  fitted_more a b c xs ys (inr f) (inr e) = inr (e ∙ ap (with_fitted ys) f ∙ fitted_again a xs ys)

  pub returned_none : (a b : Option (WireTold W C L)) → b ≡ a → TellsReturned a [] b
  returned_none a b e = inr (e ∙ returned_nothing a)

  pub returned_more : (a b c : Option (WireTold W C L)) (xs ys : List (ℕ × (W × L))) → TellsReturned a xs b → TellsReturned b ys c → TellsReturned a (xs ++ ys) c
  returned_more a b c xs ys p (inl none) = inl none
  returned_more a b c xs ys (inl none) (inr e) = inl (e ∙ ap (with_returned ys) none)
  returned_more a b c xs ys (inr f) (inr e) = inr (e ∙ ap (with_returned ys) f ∙ returned_again a xs ys)

  pub workers_tell : (a b c : Option (WireTold W C L)) (given : List (W × (C × L))) (back : List (W × L)) → TellsFitted a (numbered 1 given) b → TellsReturned b (reverse (numbered 1 back)) c → TellsWorkers a given back c
  workers_tell a b c given back p (inl none) = inl none
  workers_tell a b c given back (inl none) (inr e) = inl (e ∙ ap (with_returned (reverse (numbered 1 back))) none)
  workers_tell a b c given back (inr f) (inr e) = inr (e ∙ ap (with_returned (reverse (numbered 1 back))) f)

-- ---- numbers
module _ {A : Type 0} where
  numbered_from : (k : ℕ) (xs : List A) (x : A) (n : ℕ) → n ≡ k + length xs → numbered k (xs ++ x ∷ []) ≡ numbered k xs ++ (n, x) ∷ []
  numbered_from k [] x n e = ap (λ (m : ℕ). (m, x) ∷ []) (omega (arith, e))
  numbered_from k (y ∷ ys) x n e = ap (λ (l : List (ℕ × A)). (k, y) ∷ l) (numbered_from (suc k) ys x n (omega (arith, e)))

  pub numbered_more : (xs : List A) (x : A) → numbered 1 (xs ++ x ∷ []) ≡ numbered 1 xs ++ (suc (length xs), x) ∷ []
  numbered_more xs x = numbered_from 1 xs x (suc (length xs)) (omega arith)

  pub numbered_last : (xs : List A) (x : A) → reverse (numbered 1 (xs ++ x ∷ [])) ≡ (suc (length xs), x) ∷ reverse (numbered 1 xs)
  numbered_last xs x = ap (λ (l : List (ℕ × A)). reverse l) (numbered_more xs x) ∙ reverse-append (numbered 1 xs) ((suc (length xs), x) ∷ [])

-- ---- one more
module _ {W C L : Type 0} where
  pub fits_more : (a b c : Option (WireTold W C L)) (xs : List (W × (C × L))) (x : W × (C × L)) (n : ℕ) → n ≡ length xs → TellsFitted a (numbered 1 xs) b → TellsFitted b ((suc n, x) ∷ []) c → TellsFitted a (numbered 1 (xs ++ x ∷ [])) c
  fits_more a b c xs x n e p q =
      let q' : TellsFitted b ((suc (length xs), x) ∷ []) c = subst (λ (k : ℕ). TellsFitted b ((suc k, x) ∷ []) c) e q in
      subst (λ (l : List (ℕ × (W × (C × L)))). TellsFitted a l c) (sym (numbered_more xs x)) (fitted_more a b c (numbered 1 xs) ((suc (length xs), x) ∷ []) p q')

  -- the last of them came back, and then the others
  pub returns_more : (a b c : Option (WireTold W C L)) (all xs : List (W × L)) (x : W × L) (n : ℕ) → all ≡ xs ++ x ∷ [] → n ≡ suc (length xs) → TellsReturned a ((n, x) ∷ []) b → TellsReturned b (reverse (numbered 1 xs)) c → TellsReturned a (reverse (numbered 1 all)) c
  returns_more a b c all xs x n e len p q =
      let p' : TellsReturned a ((suc (length xs), x) ∷ []) b = subst (λ (k : ℕ). TellsReturned a ((k, x) ∷ []) b) len p in
      let one : reverse (numbered 1 all) ≡ (suc (length xs), x) ∷ reverse (numbered 1 xs) = ap (λ (l : List (W × L)). reverse (numbered 1 l)) e ∙ numbered_last xs x in
      subst (λ (l : List (ℕ × (W × L))). TellsReturned a l c) (sym one) (returned_more a b c ((suc (length xs), x) ∷ []) (reverse (numbered 1 xs)) p' q)
