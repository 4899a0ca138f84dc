-- Lists in the order of a number.
use Rattle.std.proofs.Common.{◌≡◌, ℕ, ◌<◌, ◌≤◌, ◌+◌, cond, List, [], ◌∷◌, ◌++◌, length, refl, sym, ap, ◌∙◌, subst, arith}
use Rattle.std.specs.Prelude.{nat_lt}
use Rattle.std.specs.List.{AllByRecursion}
use Rattle.std.proofs.lemmas.Bool.{ltb-true, lt-ltb, ltb-false, le-ltb}
use Rattle.link_lists.proofs.Memory.{either}
use Rattle.scaled_timer.specs.Order.{placed, in_order}

module _ {X : Type 0} (key : X → ℕ) where
  pub placed-later : (x y : X) (ys : List X) → key y < key x → placed key x (y ∷ ys) ≡ y ∷ placed key x ys
  unfolding placed
  placed-later x y ys h = ap (λ b. cond b (y ∷ placed key x ys) (x ∷ y ∷ ys)) (lt-ltb (key y) (key x) h)

  pub placed-here : (x y : X) (ys : List X) → key x ≤ key y → placed key x (y ∷ ys) ≡ x ∷ y ∷ ys
  unfolding placed
  placed-here x y ys h = ap (λ b. cond b (y ∷ placed key x ys) (x ∷ y ∷ ys)) (le-ltb (key y) (key x) h)

  placed-nil : (x : X) → placed key x [] ≡ x ∷ []
  unfolding placed
  placed-nil x = refl

  pub by_key : {G : Type 0} (x y : X) → (key y < key x → G) → (key x ≤ key y → G) → G
  by_key x y f g = either (nat_lt (key y) (key x)) (λ t. f (ltb-true (key y) (key x) t)) (λ n. g (ltb-false (key y) (key x) n))

  -- what holds of each still does
  pub all-placed : (P : X → Type 0) (x : X) (ys : List X) → P x → AllByRecursion P ys → AllByRecursion P (placed key x ys)
  all-placed P x [] h t = subst (AllByRecursion P) (sym (placed-nil x)) (h, tt)
  all-placed P x (y ∷ ys) h t = by_key x y
      (λ l. subst (AllByRecursion P) (sym (placed-later x y ys l)) (t.0, all-placed P x ys h t.1))
      (λ l. subst (AllByRecursion P) (sym (placed-here x y ys l)) (h, t))

  pub all-in_order : (P : X → Type 0) (xs : List X) → AllByRecursion P xs → AllByRecursion P (in_order key xs)
  unfolding in_order
  all-in_order P [] t = tt
  all-in_order P (x ∷ xs) t = all-placed P x (in_order key xs) t.0 (all-in_order P xs t.1)

  length-placed : (x : X) (ys : List X) → length (placed key x ys) ≡ length ys + 1
  length-placed x [] = let e = ap length (placed-nil x) in omega (arith, e)
  length-placed x (y ∷ ys) = by_key x y
      (λ l. let e = ap length (placed-later x y ys l) in let on = length-placed x ys in omega (arith, e, on))
      (λ l. let e = ap length (placed-here x y ys l) in omega (arith, e))

  pub length-in_order : (xs : List X) → length (in_order key xs) ≡ length xs
  unfolding in_order
  length-in_order [] = refl
  length-in_order (x ∷ xs) = let on = length-in_order xs in let e = length-placed x (in_order key xs) in omega (arith, on, e)

  -- the least comes first
  placed-first : (x : X) (ys : List X) → AllByRecursion (λ y. key x ≤ key y) ys → placed key x ys ≡ x ∷ ys
  placed-first x [] t = placed-nil x
  placed-first x (y ∷ ys) t = placed-here x y ys t.0

  pub in_order-first : (xs : List X) (x : X) (ys : List X) → AllByRecursion (λ y. key x < key y) xs → AllByRecursion (λ y. key x ≤ key y) ys → in_order key (xs ++ x ∷ ys) ≡ x ∷ in_order key (xs ++ ys)
  unfolding in_order
  in_order-first [] x ys s t = placed-first x (in_order key ys) (all-in_order (λ y. key x ≤ key y) ys t)
  in_order-first (w ∷ xs) x ys s t = ap (placed key w) (in_order-first xs x ys s.1 t) ∙ placed-later w x (in_order key (xs ++ ys)) s.0

  -- the greatest comes last
  placed-last : (x : X) (ys : List X) → AllByRecursion (λ y. key y < key x) ys → placed key x ys ≡ ys ++ x ∷ []
  placed-last x [] t = placed-nil x
  placed-last x (y ∷ ys) t = placed-later x y ys t.0 ∙ ap (λ l. y ∷ l) (placed-last x ys t.1)

  placed-before : (w x : X) (ys : List X) → key w < key x → placed key w (ys ++ x ∷ []) ≡ placed key w ys ++ x ∷ []
  placed-before w x [] h = placed-here w x [] (omega arith) ∙ sym (ap (λ l. l ++ x ∷ []) (placed-nil w))
  placed-before w x (y ∷ ys) h = by_key w y
      (λ l. placed-later w y (ys ++ x ∷ []) l ∙ ap (λ m. y ∷ m) (placed-before w x ys h) ∙ sym (ap (λ m. m ++ x ∷ []) (placed-later w y ys l)))
      (λ l. placed-here w y (ys ++ x ∷ []) l ∙ sym (ap (λ m. m ++ x ∷ []) (placed-here w y ys l)))

  pub in_order-last : (xs : List X) (x : X) (ys : List X) → AllByRecursion (λ y. key y < key x) (xs ++ ys) → in_order key (xs ++ x ∷ ys) ≡ in_order key (xs ++ ys) ++ x ∷ []
  unfolding in_order
  in_order-last [] x ys t = placed-last x (in_order key ys) (all-in_order (λ y. key y < key x) ys t)
  in_order-last (w ∷ xs) x ys t = ap (placed key w) (in_order-last xs x ys t.1) ∙ placed-before w x (in_order key (xs ++ ys)) t.0

  -- where one of the elements stands: those before it are at most it, those behind it at least it, and without it the rest stands the same
  pub record Cut (x : X) (with_it without_it : List X) : Type 0 where
    pub before : List X
    pub behind : List X
    pub whole : with_it ≡ before ++ x ∷ behind
    pub rest : without_it ≡ before ++ behind
    pub least : AllByRecursion (λ y. key y ≤ key x) before
    pub most : AllByRecursion (λ y. key x ≤ key y) behind

  weaker : (k m : ℕ) (ys : List X) → k ≤ m → AllByRecursion (λ y. m ≤ key y) ys → AllByRecursion (λ y. k ≤ key y) ys
  weaker k m [] h t = tt
  weaker k m (y ∷ ys) h t = (let a = t.0 in omega (arith, a), weaker k m ys h t.1)

  -- each is at most those behind it
  unfoldable pub Ascends : List X → Type 0
  Ascends [] = Unit {0}
  Ascends (x ∷ xs) = AllByRecursion (λ y. key x ≤ key y) xs × Ascends xs

  ascends-placed : (x : X) (ys : List X) → Ascends ys → Ascends (placed key x ys)
  unfolding Ascends
  ascends-placed x [] t = subst Ascends (sym (placed-nil x)) (tt, tt)
  ascends-placed x (y ∷ ys) t = by_key x y
      (λ l. subst Ascends (sym (placed-later x y ys l)) (all-placed (λ z. key y ≤ key z) x ys (omega arith) t.0, ascends-placed x ys t.1))
      (λ l. subst Ascends (sym (placed-here x y ys l)) ((l, weaker (key x) (key y) ys l t.0), t))

  ascends-in_order : (xs : List X) → Ascends (in_order key xs)
  unfolding in_order Ascends
  ascends-in_order [] = tt
  ascends-in_order (x ∷ xs) = ascends-placed x (in_order key xs) (ascends-in_order xs)

  cut-placed : (x : X) (ys : List X) → Ascends ys → Cut x (placed key x ys) ys
  unfolding Ascends
  cut-placed x [] t = record { before = []; behind = []; whole = placed-nil x; rest = refl; least = tt; most = tt }
  cut-placed x (y ∷ ys) t = by_key x y
      (λ l. let on = cut-placed x ys t.1 in record {
        before = y ∷ on.before;
        behind = on.behind;
        whole = placed-later x y ys l ∙ ap (λ m. y ∷ m) on.whole;
        rest = ap (λ m. y ∷ m) on.rest;
        least = (let h = l in omega (arith, h), on.least);
        most = on.most;
      })
      (λ l. record { before = []; behind = y ∷ ys; whole = placed-here x y ys l; rest = refl; least = tt; most = (l, weaker (key x) (key y) ys l t.0) })

  cut-past : (w x : X) (us vs : List X) → Ascends (us ++ x ∷ vs) → AllByRecursion (λ y. key y ≤ key x) us → AllByRecursion (λ y. key x ≤ key y) vs → Cut x (placed key w (us ++ x ∷ vs)) (placed key w (us ++ vs))
  unfolding Ascends
  cut-past w x [] vs a s t = by_key w x
      (λ l. record { before = []; behind = placed key w vs; whole = placed-later w x vs l; rest = refl; least = tt; most = all-placed (λ y. key x ≤ key y) w vs (let h = l in omega (arith, h)) t })
      (λ l. record { before = w ∷ []; behind = vs; whole = placed-here w x vs l; rest = placed-first w vs (weaker (key w) (key x) vs l t); least = (l, tt); most = t })
  cut-past w x (u ∷ us) vs a s t = by_key w u
      (λ l. let on = cut-past w x us vs a.1 s.1 t in record {
        before = u ∷ on.before;
        behind = on.behind;
        whole = placed-later w u (us ++ x ∷ vs) l ∙ ap (λ m. u ∷ m) on.whole;
        rest = placed-later w u (us ++ vs) l ∙ ap (λ m. u ∷ m) on.rest;
        least = (s.0, on.least);
        most = on.most;
      })
      (λ l. record {
        before = w ∷ u ∷ us;
        behind = vs;
        whole = placed-here w u (us ++ x ∷ vs) l;
        rest = placed-here w u (us ++ vs) l;
        least = (let h = s.0 in omega (arith, h, l), s);
        most = t;
      })

  pub in_order-cut : (xs : List X) (x : X) (ys : List X) → Cut x (in_order key (xs ++ x ∷ ys)) (in_order key (xs ++ ys))
  unfolding in_order
  in_order-cut [] x ys = cut-placed x (in_order key ys) (ascends-in_order ys)
  in_order-cut (w ∷ xs) x ys =
      let on = in_order-cut xs x ys in
      subst (λ l. Cut x (placed key w l) (placed key w (in_order key (xs ++ ys)))) (sym on.whole)
      (subst (λ l. Cut x (placed key w (on.before ++ x ∷ on.behind)) (placed key w l)) (sym on.rest)
      (cut-past w x on.before on.behind (subst Ascends on.whole (ascends-in_order (xs ++ x ∷ ys))) on.least on.most))
