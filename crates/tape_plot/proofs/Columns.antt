-- What a number changes to in columns of dispatches: where it stays, and in columns twice as wide.
use Rattle.std.proofs.Common.{ap, arith, refl, sym, true≢false, ◌∙◌}
use Rattle.std.proofs.Math.Nat.{div-div-eq-div-mul, div-mul-le_self}
use Rattle.std.proofs.lemmas.Bool.{eqb-false, eqb-true, le-ltb, lt-ltb}
use Rattle.std.proofs.lemmas.Nat.{le-div}
use Rattle.std.specs.Prelude.{Bool, None, Option, Some, [], false, max, min, nat_lt, not, true, ℕ, ◌&&◌, ◌*◌, ◌+◌, ◌-◌, ◌/◌, ◌<◌, ◌==◌, ◌∷◌, ◌≡◌, ◌≤◌}
use Rattle.tape_laws.specs.Dispatches.{turns}
use Rattle.tape_laws.specs.History.{History, NoMark, Noted, Step}
use Rattle.tape_plot.specs.Spans.{Span, before, changes, noted, with_more, with_one}
use Rattle.flow_notes.specs.declared.notes.Note.TheVariants as note

-- ---- joining spans

pub behind_none : (s : Option Span) → with_more None s ≡ s
behind_none None = refl
behind_none (Some s) = refl

min_min : (a b c : ℕ) → min (min a b) c ≡ min a (min b c)
min_min a b c = omega arith

max_max : (a b c : ℕ) → max (max a b) c ≡ max a (max b c)
max_max a b c = omega arith

span_is : (a b c d n : ℕ) → a ≡ b → c ≡ d → (let s : Span = record { low = a; high = c; last = n } in s) ≡ record { low = b; high = d; last = n }
span_is a b c d n p q =
    ap (λ (v : ℕ). let s : Span = record { low = v; high = c; last = n } in s) p ∙ ap (λ (v : ℕ). let s : Span = record { low = b; high = v; last = n } in s) q

pub more_more : (s t u : Option Span) → with_more (with_more s t) u ≡ with_more s (with_more t u)
more_more s t None = refl
more_more s None (Some u) = refl
more_more None (Some t) (Some u) = refl
more_more (Some s) (Some t) (Some u) = ap Some (span_is _ _ _ _ u.last (min_min s.low t.low u.low) (max_max s.high t.high u.high))

-- one more number is a span of it alone
pub one_is_more : (s : Option Span) (n : ℕ) → with_more s (Some (record { low = n; high = n; last = n })) ≡ Some (with_one s n)
one_is_more None n = refl
one_is_more (Some s) n = refl

one_behind : (s t : Option Span) (n : ℕ) → Some (with_one (with_more s t) n) ≡ with_more s (Some (with_one t n))
one_behind s t n = sym (one_is_more (with_more s t) n) ∙ more_more s t (Some (record { low = n; high = n; last = n })) ∙ ap (with_more s) (one_is_more t n)

-- ---- steps that are not noted

not_early : (a b m : Bool) (s : Option Span) (n : ℕ) → a ≡ false → noted ((a && b) && m) s n ≡ s
not_early true b m s n e = absurd (true≢false e)
not_early false b m s n e = refl

not_there : (a b m : Bool) (s : Option Span) (n : ℕ) → b ≡ false → noted ((a && b) && m) s n ≡ s
not_there true true m s n e = absurd (true≢false e)
not_there true false m s n e = refl
not_there false b m s n e = refl

pub not_changed : (a m : Bool) (s : Option Span) (n : ℕ) → m ≡ false → noted (a && m) s n ≡ s
not_changed true true s n e = absurd (true≢false e)
not_changed true false s n e = refl
not_changed false m s n e = refl

pub eq_false : (a b : ℕ) (c : Bool) → (a == b) ≡ c → (a ≡ b → ⊥) → (a == b) ≡ false
eq_false a b true e differ = absurd (differ (eqb-true a b e))
eq_false a b false e differ = e

pub eq_true : (a b : ℕ) (c : Bool) → (a == b) ≡ c → a ≡ b → (a == b) ≡ true
eq_true a b true e alike = e
eq_true a b false e alike = absurd (eqb-false a b e alike)

pub turns_rise : (step : Step NoMark) (h : History NoMark) → turns h ≤ turns (step ∷ h)
turns_rise (Noted (note.Turn k e)) h = omega arith
turns_rise step h = omega arith

pub column_rise : (m n w : ℕ) → m ≤ n → 1 ≤ w → m / w ≤ n / w
column_rise m n w le wide = le-div (m / w) n w (omega (arith, wide)) (omega (arith, div-mul-le_self m w, le))

-- a column that is not reached yet
pub none_later : (L : History NoMark → ℕ) (first w j : ℕ) (h : History NoMark) → 1 ≤ w → (turns h - first) / w < j → changes L first w j h ≡ None
none_later L first w j [] wide lt = refl
none_later L first w j (step ∷ past) wide lt =
    let t = turns (step ∷ past) in let c = (t - first) / w in
    not_there (not (nat_lt t first)) (c == j) (not (L (step ∷ past) == L past)) _ _ (eq_false c j _ refl (λ e. omega (arith, lt, e)))
    ∙ none_later L first w j past wide (omega (arith, lt, column_rise (turns past - first) (t - first) w (omega (arith, turns_rise step past)) wide))

-- before the first column
pub none_early : (L : History NoMark → ℕ) (first w j : ℕ) (h : History NoMark) → turns h < first → changes L first w j h ≡ None
none_early L first w j [] lt = refl
none_early L first w j (step ∷ past) lt =
    not_early (not (nat_lt (turns (step ∷ past)) first)) _ _ _ _ (ap not (lt-ltb _ _ lt))
    ∙ none_early L first w j past (omega (arith, lt, turns_rise step past))

pub before_early : (L : History NoMark → ℕ) (first : ℕ) (h : History NoMark) → turns h < first → before L first h ≡ L h
before_early L first [] lt = refl
before_early L first (step ∷ past) lt = rw (lt-ltb (turns (step ∷ past)) first lt) refl

pub before_since : (L : History NoMark → ℕ) (first : ℕ) (step : Step NoMark) (past : History NoMark) → first ≤ turns (step ∷ past) → before L first (step ∷ past) ≡ before L first past
before_since L first step past le = rw (le-ltb (turns (step ∷ past)) first le) refl

-- ---- columns twice as wide

-- A step that is noted in one of two columns is noted in both together. Where it is the first of them, nothing was noted in the other.
both : (a wide low high m : Bool) (s t : Option Span) (n : ℕ) → wide ≡ low → high ≡ false → (low ≡ true → t ≡ None) →
    noted ((a && wide) && m) (with_more s t) n ≡ with_more (noted ((a && low) && m) s n) (noted ((a && high) && m) t n)
both a wide low true m s t n e f g = absurd (true≢false f)
both false wide low false m s t n e f g = refl
both true true false false m s t n e f g = absurd (true≢false e)
both true false true false m s t n e f g = absurd (true≢false (sym e))
both true false false false m s t n e f g = refl
both true true true false false s t n e f g = refl
both true true true false true s t n e f g = rw (g refl) refl

latter : (a wide low high m : Bool) (s t : Option Span) (n : ℕ) → wide ≡ high → low ≡ false →
    noted ((a && wide) && m) (with_more s t) n ≡ with_more (noted ((a && low) && m) s n) (noted ((a && high) && m) t n)
latter a wide true high m s t n e f = absurd (true≢false f)
latter false wide false high m s t n e f = refl
latter true true false false m s t n e f = absurd (true≢false e)
latter true false false true m s t n e f = absurd (true≢false (sym e))
latter true false false false m s t n e f = refl
latter true true false true false s t n e f = refl
latter true true false true true s t n e f = one_behind s t n

neither : (c j : ℕ) → c / 2 ≡ j → (c ≡ 2 * j → ⊥) → (c ≡ 2 * j + 1 → ⊥) → ⊥
neither c j e f g = omega (arith, e, f, g)

pub pairs : (L : History NoMark → ℕ) (first w j : ℕ) (h : History NoMark) → 1 ≤ w →
    changes L first (w * 2) j h ≡ with_more (changes L first w (2 * j) h) (changes L first w (2 * j + 1) h)
pairs L first w j [] wide = refl
pairs L first w j (step ∷ past) wide =
    ap (λ v. noted ((a && (v == j)) && m) (changes L first (w * 2) j past) n) (sym (div-div-eq-div-mul d w 2))
    ∙ ap (λ v. noted ((a && (c / 2 == j)) && m) v n) (pairs L first w j past wide)
    ∙ by (c == 2 * j + 1) refl
  where
    t : ℕ
    t = turns (step ∷ past)

    d : ℕ
    d = t - first

    c : ℕ
    c = d / w

    a : Bool
    a = not (nat_lt t first)

    m : Bool
    m = not (L (step ∷ past) == L past)

    n : ℕ
    n = L (step ∷ past)

    one : Option Span
    one = changes L first w (2 * j) past

    two : Option Span
    two = changes L first w (2 * j + 1) past

    early : c ≡ 2 * j → two ≡ None
    early e = none_later L first w (2 * j + 1) past wide (omega (arith, e, column_rise (turns past - first) d w (omega (arith, turns_rise step past)) wide))

    by_low : (b : Bool) → (c == 2 * j) ≡ b → (c == 2 * j + 1) ≡ false
        → noted ((a && (c / 2 == j)) && m) (with_more one two) n ≡ with_more (noted ((a && (c == 2 * j)) && m) one n) (noted ((a && (c == 2 * j + 1)) && m) two n)
    by_low true f e =
        let e2 : c ≡ 2 * j = eqb-true c (2 * j) f in
        both a (c / 2 == j) (c == 2 * j) (c == 2 * j + 1) m one two n (eq_true (c / 2) j _ refl (omega (arith, e2)) ∙ sym f) e (λ _. early e2)
    by_low false f e =
        both a (c / 2 == j) (c == 2 * j) (c == 2 * j + 1) m one two n
        (eq_false (c / 2) j _ refl (λ g. neither c j g (eqb-false c (2 * j) f) (eqb-false c (2 * j + 1) e)) ∙ sym f) e (λ g. absurd (true≢false (sym g ∙ f)))

    by : (b : Bool) → (c == 2 * j + 1) ≡ b
        → noted ((a && (c / 2 == j)) && m) (with_more one two) n ≡ with_more (noted ((a && (c == 2 * j)) && m) one n) (noted ((a && (c == 2 * j + 1)) && m) two n)
    by true e =
        let e2 : c ≡ 2 * j + 1 = eqb-true c (2 * j + 1) e in
        latter a (c / 2 == j) (c == 2 * j) (c == 2 * j + 1) m one two n (eq_true (c / 2) j _ refl (omega (arith, e2)) ∙ sym e) (eq_false c (2 * j) _ refl (λ f. omega (arith, e2, f)))
    by false e = by_low (c == 2 * j) refl e
