-- Which exchange is reset next, of classes that follow the course.
use Rattle.std.proofs.Common.{◌≡◌, ℕ, zero, suc, ◌+◌, ◌<◌, ◌≤◌, ◌⊎◌, Bool, true, false, cond, List, [], ◌∷◌, length, get_or, take, refl, sym, ap, subst, ◌∙◌, inl, inr, arith}
use Rattle.std.specs.Prelude.{◌==◌, Option, None, Some, reverse}
use Rattle.std.specs.List.{flat_map}
use Rattle.std.proofs.lemmas.Bool.{false≢true, eqb-true}
use Rattle.link_lists.proofs.Memory.{either}
use Rattle.overload_core.specs.Accounts.{first_of, cleared, next_reset}
use Rattle.overload_core.specs.Course.{Holding, class_at, place, Precedes, Follow, IsClass, AreClasses, IsCleared, GoesBefore, IsResetNext}
use Rattle.overload_core.proofs.Members.{has, same_number, not_equal, placed_at}
use Rattle.overload_core.proofs.Turning.{place_most}

abbrev pub joined : List (List ℕ) → List ℕ
joined ls = flat_map (λ l. l) ls

-- where one that is in a list stands
stands_at : (f : ℕ) (l : List ℕ) → has f l ≡ true → (i : ℕ) × (i < length l) × ((d : ℕ) → get_or l i d ≡ f)
stands_at f [] h = absurd (false≢true h)
stands_at f (x ∷ l) h = either (x == f)
    (λ t. (0, omega arith, λ d. eqb-true x f t))
    (λ n. let rest : has f l ≡ true = rw n at h in let (i, below, at) = stands_at f l rest in (suc i, omega (arith, below), at))

module _ (place : ℕ → ℕ) (Before : ℕ → ℕ → ℕ → Type 0) where
  -- the lists are classes that fall from k on
  abbrev Falling : ℕ → List (List ℕ) → Type 0
  Falling k [] = Unit {0}
  Falling zero (m ∷ ms) = ⊥
  Falling (suc k) (m ∷ ms) = IsClass place Before (suc k) m × Falling k ms

  abbrev pub Goes : ℕ → ℕ → Type 0
  Goes e f = (place f < place e) ⊎ ((place f ≡ place e) × Before (place e) e f)

  -- the first of those in the n classes up to k
  abbrev pub IsFirst : ℕ → ℕ → Option ℕ → Type 0
  IsFirst k n None = (f : ℕ) → place f ≤ k → k < place f + n → ⊥
  IsFirst k n (Some e) = (place e ≤ k) × (k < place e + n) × ((f : ℕ) → place f ≤ k → k < place f + n → (f ≡ e) ⊎ Goes e f)

  below : (k f : ℕ) → place f ≤ suc k → (place f ≡ suc k → ⊥) → place f ≤ k
  below k f low away = omega (arith, low, away)

  higher : (k n : ℕ) (r : Option ℕ) → ((f : ℕ) → place f ≡ suc k → ⊥) → IsFirst k n r → IsFirst (suc k) (suc n) r
  higher k n None none h = λ f low high. h f (below k f low (none f)) (omega (arith, high))
  higher k n (Some e) none h = let (low_e, high_e, first) = h in (omega (arith, low_e), omega (arith, high_e), λ f low high. first f (below k f low (none f)) (omega (arith, high)))

  front : (k x : ℕ) (xs : List ℕ) → IsClass place Before (suc k) (x ∷ xs) → place x ≡ suc k
  front k x xs h = placed_at place Before (suc k) (x ∷ xs) 0 0 h (omega arith)

  ranked : (k x : ℕ) (xs : List ℕ) → IsClass place Before (suc k) (x ∷ xs) → (f : ℕ) → place f ≡ suc k → (i : ℕ) → i < length (x ∷ xs) → get_or (x ∷ xs) i 0 ≡ f → (f ≡ x) ⊎ Goes x f
  ranked k x xs h f same zero below at = inl (sym at)
  ranked k x xs h f same (suc i) below at =
      let here = front k x xs h in
      inr (inr (same ∙ sym here, subst (λ c. Before c x f) (sym here) (subst (λ z. Before (suc k) x z) at (h.order 0 (suc i) 0 (omega arith) below))))

  -- the first of a class goes before each other that is in no greater class
  ahead : (k x : ℕ) (xs : List ℕ) → IsClass place Before (suc k) (x ∷ xs) → (f : ℕ) → place f ≤ suc k → (f ≡ x) ⊎ Goes x f
  ahead k x xs h f low = let here = front k x xs h in either (place f == suc k)
      (λ t. let (i, below, at) = stands_at f (x ∷ xs) (h.those f ∙ t) in ranked k x xs h f (eqb-true (place f) (suc k) t) i below (at 0))
      (λ n. let away = not_equal (place f) (suc k) n in inr (inl (omega (arith, low, here, away))))

  firsts : (k n : ℕ) (ms : List (List ℕ)) → length ms ≡ k → n ≤ k → Falling k ms → IsFirst k n (first_of (joined (take n ms)))
  firsts k zero ms same few h = λ f low high. omega (arith, low, high)
  firsts zero (suc n) ms same few h = absurd (omega (arith, few))
  firsts (suc k) (suc n) [] same few h = absurd (omega (arith, same))
  firsts (suc k) (suc n) ([] ∷ ms) same few h =
      higher k n (first_of (joined (take n ms))) (λ f q. false≢true (h.0.those f ∙ same_number (place f) (suc k) q)) (firsts k n ms (omega (arith, same)) (omega (arith, few)) h.1)
  firsts (suc k) (suc n) ((x ∷ xs) ∷ ms) same few h = let here = front k x xs h.0 in (omega (arith, here), omega (arith, here), λ f low high. ahead k x xs h.0 f low)

  -- eight classes
  pub falls : (n : ℕ) (ls : List (List ℕ)) → length ls ≡ 8 → n ≤ 8 → AreClasses place Before 1 ls → IsFirst 8 n (first_of (joined (take n (reverse ls))))
  falls n (a ∷ b ∷ c ∷ d ∷ e ∷ f ∷ g ∷ i ∷ []) same few h =
      firsts 8 n (i ∷ g ∷ f ∷ e ∷ d ∷ c ∷ b ∷ a ∷ []) refl few (h.1.1.1.1.1.1.1.0, (h.1.1.1.1.1.1.0, (h.1.1.1.1.1.0, (h.1.1.1.1.0, (h.1.1.1.0, (h.1.1.0, (h.1.0, (h.0, tt))))))))
  falls n _ same few h = absurd (omega (arith, same))

module _ (start : ℕ) (ends : List Holding) (live : ℕ → Bool) (state : ℕ) where
  abbrev now : ℕ → ℕ
  now = place start ends live

  -- where one is, if the state clears it, and back
  there : (f : ℕ) → IsCleared start ends live state f → now f ≡ class_at start ends f
  there f h = ap (λ b. cond b (class_at start ends f) 0) h.stands

  few_cleared : cleared state ≤ 8
  few_cleared = either (state == 0) (λ t. rw t (omega arith)) (λ f. rw f (omega arith))

  is_live : (e : ℕ) → 8 < now e + cleared state → (live e ≡ true) × (now e ≡ class_at start ends e)
  is_live e high = either (live e)
      (λ t. (t, ap (λ b. cond b (class_at start ends e) 0) t))
      (λ f. let none : now e ≡ 0 = ap (λ b. cond b (class_at start ends e) 0) f in let few = few_cleared in absurd (omega (arith, none, few, high)))

  goes_first : (e f : ℕ) → now e ≡ class_at start ends e → now f ≡ class_at start ends f → (f ≡ e) ⊎ Goes now (Precedes start ends) e f → (f ≡ e) ⊎ GoesBefore start ends e f
  goes_first e f same_e same_f (inl same) = inl same
  goes_first e f same_e same_f (inr (inl less)) = inr (inl (omega (arith, same_e, same_f, less)))
  goes_first e f same_e same_f (inr (inr (same, order))) = inr (inr (sym same_f ∙ same ∙ same_e, subst (λ c. Precedes start ends c e f) same_e order))

  named : (r : Option ℕ) → IsFirst now (Precedes start ends) 8 (cleared state) r → IsResetNext start ends live state r
  named None h = λ f clears. let same = there f clears in let great = clears.great in let most = place_most start ends live f in h f most (omega (arith, same, great))
  named (Some e) h =
      let (low, high, first) = h in let (stands, same) = is_live e high in (
        record { stands = stands; great = omega (arith, same, high) },
        λ f clears. let same_f = there f clears in let great = clears.great in let most = place_most start ends live f in goes_first e f same same_f (first f most (omega (arith, same_f, great))),
      )

  pub due : (classes : List (List ℕ)) → Follow start ends live classes → IsResetNext start ends live state (next_reset state classes)
  due classes h = named (next_reset state classes) (falls now (Precedes start ends) (cleared state) classes h.eight few_cleared h.each)
