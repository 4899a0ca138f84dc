-- How the classes follow the course over the end of a dispatch.
use Rattle.std.proofs.Common.{◌≡◌, ℕ, zero, suc, ◌+◌, ◌-◌, ◌^◌, ◌<◌, ◌≤◌, ◌⊎◌, Bool, true, false, cond, List, [], ◌∷◌, length, get_or, refl, sym, ap, subst, ◌∙◌, inl, inr, true≢false, arith}
use Rattle.std.specs.Prelude.{◌==◌, nat_le, nat_lt}
use Rattle.std.specs.List.{AllByRecursion, AllPairs}
use Rattle.std.proofs.Math.Pow.{pow_mono}
use Rattle.std.proofs.lemmas.Bool.{eqb-true, leb-true, leb-false, ltb-true, ltb-false}
use Rattle.link_lists.proofs.Memory.{either}
use Rattle.overload_core.specs.Accounts.{in_class}
use Rattle.overload_core.specs.Class.{IsClassOf}
use Rattle.overload_core.specs.Course.{Holding, newest, reached, class_number, class_at, stay, place, Precedes, Follow, Ends, all_set, AreClasses}
use Rattle.overload_core.proofs.Members.{has, same_number, other_number, not_equal, retold, set_class, length-in-class}

-- the greatest class up to k whose start the octets reach
pub record Reaches (k start bytes class : ℕ) : Type 0 where
  pub most : class ≤ k
  pub below : class < k → bytes < 2 ^ (start + class)
  pub at_least : 0 < class → 2 ^ (start + class - 1) ≤ bytes

pub reaches : (k start bytes : ℕ) → Reaches k start bytes (reached k start bytes)
unfolding reached
reaches zero start bytes = record { most = omega arith; below = λ l. absurd (omega (arith, l)); at_least = λ l. absurd (omega (arith, l)) }
reaches (suc k) start bytes =
    let on = reaches k start bytes in let most = on.most in
    either (nat_le (2 ^ (start + k)) bytes)
    (λ t. let e : start + suc k - 1 ≡ start + k = omega arith in rw t (record {
      most = omega arith;
      below = λ l. absurd (omega (arith, l));
      at_least = λ l. rw e (leb-true (2 ^ (start + k)) bytes t);
    }))
    (λ f. rw f (record {
      most = omega (arith, most);
      below = λ l. either (nat_lt (reached k start bytes) k)
          (λ b. on.below (ltb-true (reached k start bytes) k b))
          (λ b. let e : reached k start bytes ≡ k = let g = ltb-false (reached k start bytes) k b in omega (arith, g, most) in rw e (leb-false (2 ^ (start + k)) bytes f));
      at_least = on.at_least;
    }))

pub is_class : (start bytes : ℕ) → IsClassOf start bytes (class_number start bytes)
is_class start bytes = let on = reaches 8 start bytes in record { most = on.most; below = on.below; at_least = on.at_least }

none_reached : (k start : ℕ) → reached k start 0 ≡ 0
unfolding reached
none_reached zero start = refl
none_reached (suc k) start =
    let some : 2 ^ 0 ≤ 2 ^ (start + k) = pow_mono {i = 0} (omega arith) in
    either (nat_le (2 ^ (start + k)) 0)
    (λ t. let less = leb-true (2 ^ (start + k)) 0 t in absurd (omega (arith, some, less)))
    (λ f. rw f (none_reached k start))

-- no octets are in no class
pub no_class : (start : ℕ) → class_number start 0 ≡ 0
no_class start = none_reached 8 start

abbrev pub Rising : List ℕ → Type 0
Rising [] = Unit {0}
Rising (e ∷ es) = AllByRecursion (λ f. e < f) es × Rising es

all_above : (e : ℕ) (es : List ℕ) → ((j d : ℕ) → j < length es → e < get_or es j d) → AllByRecursion (λ f. e < f) es
all_above e [] h = tt
all_above e (f ∷ es) h = (h 0 0 (omega arith), all_above e es (λ j d l. h (suc j) d (omega (arith, l))))

pub rising : (es : List ℕ) → AllPairs (λ x y. x < y) es → Rising es
rising [] h = tt
rising (e ∷ es) h = (all_above e es (λ j d l. h 0 (suc j) d (omega arith) (omega (arith, l))), rising es (λ i j d l m. h (suc i) (suc j) d (omega (arith, l)) (omega (arith, m))))

both : (b : Bool) {x y : ℕ} → x ≡ y → cond b y x ≡ y
both true q = refl
both false q = q

module _ (start : ℕ) where
  pub place_most : (ends : List Holding) (live : ℕ → Bool) (e : ℕ) → place start ends live e ≤ 8
  place_most ends live e = either (live e)
      (λ t. rw t (reaches 8 start (newest ends e)).most)
      (λ f. rw f (omega arith))

  -- one that is in a class has been in it for a while
  pub stood : (ends : List Holding) (live : ℕ → Bool) (n e : ℕ) → place start ends live e ≡ n → 0 < n → 0 < stay start ends n e
  unfolding stay
  stood [] live n e q some = either (live e)
      (λ t. let none : class_number start 0 ≡ n = rw t at q in let zero_class = no_class start in absurd (omega (arith, none, zero_class, some)))
      (λ f. let none : 0 ≡ n = rw f at q in absurd (omega (arith, none, some)))
  stood (held ∷ before) live n e q some = either (live e)
      (λ t. let same : class_number start (held e) ≡ n = rw t at q in rw (same_number (class_number start (held e)) n same) (omega arith))
      (λ f. let none : 0 ≡ n = rw f at q in absurd (omega (arith, none, some)))

  never : (ends : List Holding) (n e : ℕ) → (class_at start ends e ≡ n → ⊥) → stay start ends n e ≡ 0
  unfolding stay
  never [] n e away = refl
  never (held ∷ before) n e away = rw (other_number (class_number start (held e)) n away) refl

  module _ (ends : List Holding) (live : ℕ → Bool) (touched : List ℕ) (held : Holding) (alive : ℕ → Bool) (turn : Ends ends live touched held alive) where
    abbrev old : ℕ → ℕ
    old = place start ends live

    abbrev new : ℕ → ℕ
    new e = class_number start (held e)

    -- the order at the end, of those that are to be in the class then
    abbrev Order : ℕ → ℕ → ℕ → Type 0
    Order n x y = new x ≡ n → new y ≡ n → Precedes start (held ∷ ends) n x y

    one_more : (n e : ℕ) → new e ≡ n → stay start (held ∷ ends) n e ≡ suc (stay start ends n e)
    unfolding stay
    one_more n e q = rw (same_number (class_number start (held e)) n q) refl

    -- one that comes into a class was not in it
    absent : (n e : ℕ) → new e ≡ n → 0 < n → (old e ≡ n → ⊥) → class_at start ends e ≡ n → ⊥
    absent n e q some away same = either (live e)
        (λ t. away (rw t same))
        (λ f. either (nat_le 1 (newest ends e))
        (λ b. let none = turn.gone e f (leb-true 1 (newest ends e) b) in let class : class_number start (held e) ≡ 0 = rw none (no_class start) in omega (arith, class, q, some))
        (λ b. let high = leb-false 1 (newest ends e) b in let none : newest ends e ≡ 0 = omega (arith, high) in
        let class : class_number start (newest ends e) ≡ 0 = rw none (no_class start) in omega (arith, class, same, some)))

    -- of two that are in the class at the end, one that was in it before precedes one that comes into it
    before_new : (n x e : ℕ) → 0 < n → (old e ≡ n → ⊥) → (old x ≡ n) ⊎ (x < e) → Order n x e
    before_new n x e some away (inl was) to_x to_e =
        let mine = one_more n x to_x in let its = one_more n e to_e in let none = never ends n e (absent n e to_e some away) in let long = stood ends live n x was some in
        inl (omega (arith, mine, its, none, long))
    before_new n x e some away (inr less) to_x to_e =
        let mine = one_more n x to_x in let its = one_more n e to_e in let none = never ends n e (absent n e to_e some away) in
        either (nat_le 1 (stay start ends n x))
        (λ b. let long = leb-true 1 (stay start ends n x) b in inl (omega (arith, mine, its, none, long)))
        (λ b. let short = leb-false 1 (stay start ends n x) b in inr (omega (arith, mine, its, none, short), less))

    -- those that stay in a class keep their order
    stays_before : (n x y : ℕ) → Precedes start ends n x y → Order n x y
    stays_before n x y (inl longer) to_x to_y = let mine = one_more n x to_x in let its = one_more n y to_y in inl (omega (arith, mine, its, longer))
    stays_before n x y (inr (same, less)) to_x to_y = let mine = one_more n x to_x in let its = one_more n y to_y in inr (omega (arith, mine, its, same), less)

    -- Once some have been set: one is where it was, or where it is to be, and then it is below all that are left.
    abbrev Done : (ℕ → ℕ) → List ℕ → Type 0
    Done now left = (x : ℕ) → (now x ≡ old x) ⊎ ((now x ≡ new x) × AllByRecursion (λ f. x < f) left)

    abbrev moved : (ℕ → ℕ) → ℕ → ℕ → ℕ
    moved now e x = cond (x == e) (new e) (now x)

    abbrev after : (ℕ → ℕ) → List ℕ → ℕ → ℕ
    after now [] x = now x
    after now (e ∷ es) x = after (moved now e) es x

    after_is : (now : ℕ → ℕ) (es : List ℕ) (x : ℕ) → after now es x ≡ cond (has x es) (new x) (now x)
    after_is now [] x = refl
    after_is now (e ∷ es) x = after_is (moved now e) es x ∙ either (e == x)
        (λ t. let q = eqb-true e x t in let back : (x == e) ≡ true = same_number x e (sym q) in rw (t, back) (both (has x es) (ap new q)))
        (λ f. let away : (x == e) ≡ false = other_number x e (λ q. not_equal e x f (sym q)) in rw (f, away) refl)

    most_now : (now : ℕ → ℕ) (left : List ℕ) → Done now left → (x : ℕ) → now x ≤ 8
    most_now now left done x = elim (done x) [
      | inl was ↦ let most = place_most ends live x in omega (arith, was, most)
      | inr is ↦ let most = (reaches 8 start (held x)).most in let q = is.0 in omega (arith, q, most)
    ]

    onward : (now : ℕ → ℕ) (e : ℕ) (es : List ℕ) (x : ℕ) → (now x ≡ old x) ⊎ ((now x ≡ new x) × AllByRecursion (λ f. x < f) (e ∷ es)) → (now x ≡ old x) ⊎ ((now x ≡ new x) × AllByRecursion (λ f. x < f) es)
    onward now e es x (inl was) = inl was
    onward now e es x (inr is) = inr (is.0, is.1.1)

    later : (now : ℕ → ℕ) (e : ℕ) (es : List ℕ) → Done now (e ∷ es) → AllByRecursion (λ f. e < f) es → Done (moved now e) es
    later now e es done above x = either (x == e)
        (λ t. let q = eqb-true x e t in rw t (inr (ap new (sym q), subst (λ z. AllByRecursion (λ f. z < f) es) (sym q) above)))
        (λ f. rw f (onward now e es x (done x)))

    was_not : (now : ℕ → ℕ) (e : ℕ) (es : List ℕ) → Done now (e ∷ es) → (now e ≡ new e → ⊥) → old e ≡ new e → ⊥
    was_not now e es done away same = elim (done e) [
      | inl was ↦ away (was ∙ same)
      | inr is ↦ away is.0
    ]

    was_or_less : (now : ℕ → ℕ) (e : ℕ) (es : List ℕ) → Done now (e ∷ es) → (x : ℕ) → now x ≡ new e → (old x ≡ new e) ⊎ (x < e)
    was_or_less now e es done x q = elim (done x) [
      | inl was ↦ inl (sym was ∙ q)
      | inr is ↦ inr is.1.0
    ]

    set_each : (now : ℕ → ℕ) (es : List ℕ) (classes : List (List ℕ)) → Rising es → Done now es → length classes ≡ 8 → AreClasses now Order 1 classes
        → (length (all_set start held es classes) ≡ 8) × AreClasses (after now es) Order 1 (all_set start held es classes)
    unfolding all_set
    set_each now [] classes up done eight h = (eight, h)
    set_each now (e ∷ es) classes up done eight h =
        set_each (moved now e) es (in_class (new e) e classes) up.1 (later now e es done up.0) (length-in-class (new e) e classes ∙ eight)
        (set_class now Order e (moved now e) (new e) classes eight (most_now now (e ∷ es) done e) (reaches 8 start (held e)).most
        (λ away some x q. before_new (new e) x e some (was_not now e es done away) (was_or_less now e es done x q)) (λ x. refl) h)

    -- what is not touched is where it is to be
    untouched : (x : ℕ) → has x touched ≡ false → old x ≡ new x
    untouched x away = let same = turn.others x away in either (live x)
        (λ t. let holds : held x ≡ newest ends x = rw t at same in rw t (ap (class_number start) (sym holds)))
        (λ f. let holds : held x ≡ 0 = rw f at same in rw (f, holds) (sym (no_class start)))

    all_moved : (x : ℕ) → after old touched x ≡ new x
    all_moved x = after_is old touched x ∙ either (has x touched)
        (λ t. rw t refl)
        (λ f. rw f (untouched x f))

    -- one that holds something is live
    lives : (x : ℕ) → place start (held ∷ ends) alive x ≡ new x
    lives x = either (alive x)
        (λ t. rw t refl)
        (λ f. rw f (either (nat_le 1 (held x))
        (λ b. absurd (true≢false (sym (turn.holders x (leb-true 1 (held x) b)) ∙ f)))
        (λ b. let low = leb-false 1 (held x) b in let none : held x ≡ 0 = omega (arith, low) in rw none (sym (no_class start)))))

    pub turned : (classes : List (List ℕ)) → Follow start ends live classes → Follow start (held ∷ ends) alive (all_set start held touched classes)
    turned classes h =
        let begun = retold old (Precedes start ends) old Order 1 1 classes (omega arith) (λ e n low. refl) (λ n x y low p q r. stays_before n x y r) h.each in
        let done = set_each old touched classes (rising touched turn.rising) (λ x. inl refl) h.eight begun in
        record {
          eight = done.0;
          each = retold (after old touched) Order (place start (held ∷ ends) alive) (Precedes start (held ∷ ends)) 1 1 (all_set start held touched classes) (omega arith)
              (λ e n low. ap (λ c. c == n) (lives e ∙ sym (all_moved e)))
              (λ n x y low p q r. r (sym (all_moved x) ∙ p) (sym (all_moved y) ∙ q)) done.1;
        }
