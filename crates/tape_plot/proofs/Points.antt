-- Lists of points by columns.
use Rattle.std.proofs.Common.{ap, append_assoc, arith, refl, sym, ◌∙◌}
use Rattle.std.proofs.lemmas.Bool.{eqb-false, eqb-true}
use Rattle.std.specs.Prelude.{Bool, List, None, Option, Some, [], false, if◌then◌else◌, length, slice_get, suc, true, zero, ℕ, ◌*◌, ◌+◌, ◌++◌, ◌-◌, ◌/◌, ◌<◌, ◌==◌, ◌∷◌, ◌≡◌, ◌≤◌}
use Rattle.tape_plot.proofs.Columns.{behind_none, eq_false, eq_true, more_more}
use Rattle.tape_plot.specs.Lanes.{Rise, halved, halves, joined, last_of, point_at, put, span_of}
use Rattle.tape_plot.specs.Spans.{Span, with_more}
use Rattle.tape_plot.specs.declared.lane.Point.{Point}

some_is : (p q : Point) → Some p ≡ Some q → p ≡ q
some_is p q e = cc

-- ---- rising columns

pub rise_more : (from : ℕ) (ps : List Point) (to more : ℕ) → Rise from ps to → to ≤ more → Rise from ps more
rise_more from [] to more r le = omega (arith, r, le)
rise_more from (p ∷ ps) to more r le = (r.0, rise_more (p.column + 1) ps to more r.1 le)

pub rise_within : (from : ℕ) (ps : List Point) (to : ℕ) → Rise from ps to → from ≤ to
rise_within from [] to r = r
rise_within from (p ∷ ps) to r = omega (arith, r.0, rise_within (p.column + 1) ps to r.1)

pub none_before : (from : ℕ) (ps : List Point) (to j : ℕ) → Rise from ps to → j < from → point_at ps j ≡ None
none_before from [] to j r lt = refl
none_before from (p ∷ ps) to j r lt =
    rw (eq_false p.column j _ refl (λ e. omega (arith, e, r.0, lt))) (none_before (p.column + 1) ps to j r.1 (omega (arith, r.0, lt)))

-- ---- one more point

pub put_back : (p : Point) (ps : List Point) (q : Point) (b : Bool) → (q.column == p.column) ≡ b → put p (ps ++ q ∷ []) ≡ (if b then ps ++ joined q p ∷ [] else ps ++ q ∷ p ∷ [])
put_back p [] q true e = rw e refl
put_back p [] q false e = rw e refl
put_back p (r ∷ []) q true e = ap (λ (v : List Point). r ∷ v) (put_back p [] q true e)
put_back p (r ∷ []) q false e = ap (λ (v : List Point). r ∷ v) (put_back p [] q false e)
put_back p (r ∷ s ∷ ps) q true e = ap (λ (v : List Point). r ∷ v) (put_back p (s ∷ ps) q true e)
put_back p (r ∷ s ∷ ps) q false e = ap (λ (v : List Point). r ∷ v) (put_back p (s ∷ ps) q false e)

pub put_last : (base : ℕ) (p : Point) (ps : List Point) → last_of base (put p ps) ≡ p.last
put_last base p [] = refl
put_last base p (q ∷ []) = by (q.column == p.column) refl
  where
    by : (b : Bool) → (q.column == p.column) ≡ b → last_of base (if q.column == p.column then joined q p ∷ [] else q ∷ p ∷ []) ≡ p.last
    by true e = rw e refl
    by false e = rw e refl
put_last base p (q ∷ r ∷ rs) = put_last q.last p (r ∷ rs)

before_of : (a b : ℕ) → a + 1 ≤ b + 1 → (a ≡ b → ⊥) → a + 1 ≤ b
before_of a b le differ = omega (arith, le, differ)

pub put_rise : (from : ℕ) (p : Point) (ps : List Point) → Rise from ps (p.column + 1) → from ≤ p.column → Rise from (put p ps) (p.column + 1)
put_rise from p [] r le = (le, omega arith)
put_rise from p (q ∷ []) r le = by (q.column == p.column) refl
  where
    by : (b : Bool) → (q.column == p.column) ≡ b → Rise from (if q.column == p.column then joined q p ∷ [] else q ∷ p ∷ []) (p.column + 1)
    by true e = rw e (r.0, r.1)
    by false e = rw e (r.0, (before_of q.column p.column r.1 (eqb-false q.column p.column e), omega arith))
put_rise from p (q ∷ s ∷ ss) r le = (r.0, put_rise (q.column + 1) p (s ∷ ss) r.1 (omega (arith, r.1.0, rise_within (s.column + 1) ss (p.column + 1) r.1.1)))

pub put_at : (from : ℕ) (p : Point) (ps : List Point) (j : ℕ) → Rise from ps (p.column + 1) → point_at (put p ps) j ≡ with_more (point_at ps j) (point_at (p ∷ []) j)
put_at from p [] j r = sym (behind_none (point_at (p ∷ []) j))
put_at from p (q ∷ []) j r = by (q.column == p.column) (q.column == j) (p.column == j) refl refl refl
  where
    by : (b c d : Bool) → (q.column == p.column) ≡ b → (q.column == j) ≡ c → (p.column == j) ≡ d →
        point_at (if q.column == p.column then joined q p ∷ [] else q ∷ p ∷ []) j ≡ with_more (point_at (q ∷ []) j) (point_at (p ∷ []) j)
    by true true true e f g = rw (e, f, g) refl
    by true true false e f g = absurd (eqb-false p.column j g (sym (eqb-true q.column p.column e) ∙ eqb-true q.column j f))
    by true false true e f g = absurd (eqb-false q.column j f (eqb-true q.column p.column e ∙ eqb-true p.column j g))
    by true false false e f g = rw (e, f, g) refl
    by false true true e f g = absurd (eqb-false q.column p.column e (eqb-true q.column j f ∙ sym (eqb-true p.column j g)))
    by false true false e f g = rw (e, f, g) refl
    by false false true e f g = rw (e, f, g) refl
    by false false false e f g = rw (e, f, g) refl
put_at from p (q ∷ s ∷ ss) j r = by (q.column == j) refl (put_at (q.column + 1) p (s ∷ ss) j r.1)
  where
    apart : q.column < p.column
    apart = omega (arith, r.1.0, rise_within (s.column + 1) ss (p.column + 1) r.1.1)

    by : (b : Bool) → (q.column == j) ≡ b → point_at (put p (s ∷ ss)) j ≡ with_more (point_at (s ∷ ss) j) (point_at (p ∷ []) j)
        → (if q.column == j then Some (span_of q) else point_at (put p (s ∷ ss)) j) ≡ with_more (if q.column == j then Some (span_of q) else point_at (s ∷ ss) j) (point_at (p ∷ []) j)
    by true e was = rw (e, eq_false p.column j _ refl (λ f. omega (arith, f, apart, eqb-true q.column j e))) refl
    by false e was = rw e was

-- ---- columns twice as wide

-- what two neighbours have together
abbrev pair_at : List Point → ℕ → Option Span
pair_at ps j = with_more (point_at ps (2 * j)) (point_at ps (2 * j + 1))

two_places : (c j : ℕ) → c ≡ 2 * j → c ≡ 2 * j + 1 → ⊥
two_places c j e f = omega (arith, e, f)

half_even : (c j : ℕ) → c ≡ 2 * j → c / 2 ≡ j
half_even c j e = omega (arith, e)

half_odd : (c j : ℕ) → c ≡ 2 * j + 1 → c / 2 ≡ j
half_odd c j e = omega (arith, e)

no_half : (c j : ℕ) → c / 2 ≡ j → (c ≡ 2 * j → ⊥) → (c ≡ 2 * j + 1 → ⊥) → ⊥
no_half c j e f g = omega (arith, e, f, g)

pair_first : (p : Point) (ps : List Point) (to j : ℕ) → Rise (p.column + 1) ps to → with_more (point_at (halved p ∷ []) j) (pair_at ps j) ≡ pair_at (p ∷ ps) j
pair_first p ps to j r = by (p.column == 2 * j) (p.column == 2 * j + 1) refl refl
  where
    by : (b c : Bool) → (p.column == 2 * j) ≡ b → (p.column == 2 * j + 1) ≡ c → with_more (point_at (halved p ∷ []) j) (pair_at ps j) ≡ pair_at (p ∷ ps) j
    by true true e f = absurd (two_places p.column j (eqb-true _ _ e) (eqb-true _ _ f))
    by true false e f =
        rw (eq_true (p.column / 2) j _ refl (half_even p.column j (eqb-true _ _ e)), e, f, none_before (p.column + 1) ps to (2 * j) r (omega (arith, eqb-true p.column (2 * j) e)))
        (ap (with_more (Some (span_of p))) (behind_none (point_at ps (2 * j + 1))))
    by false true e f =
        rw (eq_true (p.column / 2) j _ refl (half_odd p.column j (eqb-true _ _ f)), e, f, none_before (p.column + 1) ps to (2 * j) r (omega (arith, eqb-true p.column (2 * j + 1) f)), none_before (p.column + 1) ps to (2 * j + 1) r (omega (arith, eqb-true p.column (2 * j + 1) f)))
        refl
    by false false e f =
        rw (eq_false (p.column / 2) j _ refl (λ g. no_half p.column j g (eqb-false _ _ e) (eqb-false _ _ f)), e, f) (behind_none (pair_at ps j))

pub halves_at : (done ps : List Point) (from to j : ℕ) → Rise 0 done (from / 2 + 1) → Rise from ps to → point_at (halves done ps) j ≡ with_more (point_at done j) (pair_at ps j)
halves_at done [] from to j d r = refl
halves_at done (p ∷ ps) from to j d r =
    halves_at (put (halved p) done) ps (p.column + 1) to j (rise_more 0 (put (halved p) done) (p.column / 2 + 1) ((p.column + 1) / 2 + 1) (put_rise 0 (halved p) done e (omega arith)) (omega arith)) r.1
    ∙ ap (λ v. with_more v (pair_at ps j)) (put_at 0 (halved p) done j e)
    ∙ more_more (point_at done j) (point_at (halved p ∷ []) j) (pair_at ps j)
    ∙ ap (with_more (point_at done j)) (pair_first p ps to j r.1)
  where
    e : Rise 0 done (p.column / 2 + 1)
    e = rise_more 0 done (from / 2 + 1) (p.column / 2 + 1) d (omega (arith, r.0))

pub halves_last : (base : ℕ) (done ps : List Point) → last_of base (halves done ps) ≡ last_of (last_of base done) ps
halves_last base done [] = refl
halves_last base done (p ∷ ps) = halves_last base (put (halved p) done) ps ∙ ap (λ v. last_of v ps) (put_last base (halved p) done)

pub halves_rise : (done ps : List Point) (from c : ℕ) → Rise 0 done (from / 2 + 1) → Rise 0 done (c / 2 + 1) → Rise from ps (c + 1) → Rise 0 (halves done ps) (c / 2 + 1)
halves_rise done [] from c d e r = e
halves_rise done (p ∷ ps) from c d e r =
    halves_rise (put (halved p) done) ps (p.column + 1) c (rise_more 0 (put (halved p) done) (p.column / 2 + 1) ((p.column + 1) / 2 + 1) more (omega arith))
    (rise_more 0 (put (halved p) done) (p.column / 2 + 1) (c / 2 + 1) more (omega (arith, rise_within (p.column + 1) ps (c + 1) r.1))) r.1
  where
    more : Rise 0 (put (halved p) done) (p.column / 2 + 1)
    more = put_rise 0 (halved p) done (rise_more 0 done (from / 2 + 1) (p.column / 2 + 1) d (omega (arith, r.0))) (omega arith)

-- ---- the last point

not_none : (p : Point) → None ≡ Some p → ⊥
not_none p e = cc

last_at : (base : ℕ) (ps : List Point) (p : Point) (i : ℕ) → i + 1 ≡ length ps → slice_get ps i ≡ Some p → p.last ≡ last_of base ps
last_at base [] p i e f = absurd (omega (arith, e))
last_at base (q ∷ []) p zero e f = ap (λ (v : Point). v.last) (sym (some_is q p f))
last_at base (q ∷ []) p (suc i) e f = absurd (omega (arith, e))
last_at base (q ∷ r ∷ rs) p zero e f = absurd (omega (arith, e))
last_at base (q ∷ r ∷ rs) p (suc i) e f = last_at q.last (r ∷ rs) p i (omega (arith, e)) f

pub level_last : (base : ℕ) (ps : List Point) (p : Point) → slice_get ps (length ps - 1) ≡ Some p → p.last ≡ last_of base ps
level_last base [] p e = absurd (not_none p e)
level_last base (q ∷ qs) p e = last_at base (q ∷ qs) p (length (q ∷ qs) - 1) (omega arith) e

-- ---- a point that is put behind a list

pub put_joined : (p q r : Point) (old popped new : List Point) → old ≡ popped ++ q ∷ [] → q.column ≡ p.column → r ≡ joined q p → new ≡ popped ++ r ∷ [] → new ≡ put p old
put_joined p q r old popped new e t f g = g ∙ ap (λ (v : Point). popped ++ v ∷ []) f ∙ sym (put_back p popped q true (eq_true _ _ _ refl t)) ∙ ap (put p) (sym e)

pub put_apart : (p q : Point) (old popped back new : List Point) → old ≡ popped ++ q ∷ [] → (q.column ≡ p.column → ⊥) → back ≡ popped ++ q ∷ [] → new ≡ back ++ p ∷ [] → new ≡ put p old
put_apart p q old popped back new e t f g =
    g ∙ ap (λ (v : List Point). v ++ p ∷ []) f ∙ append_assoc popped (q ∷ []) (p ∷ []) ∙ sym (put_back p popped q false (eq_false _ _ _ refl t)) ∙ ap (put p) (sym e)

-- ---- a loop over points

pub halves_next : (points made new rest after : List Point) (p q : Point) → rest ≡ p ∷ after → q ≡ halved p → new ≡ put q made → halves made rest ≡ halves [] points → halves new after ≡ halves [] points
halves_next points made new rest after p q e f g h = ap (λ (v : List Point). halves v after) (g ∙ ap (λ (v : Point). put v made) f) ∙ ap (halves made) (sym e) ∙ h

pub halves_done : (points made rest : List Point) → length rest ≡ 0 → halves made rest ≡ halves [] points → made ≡ halves [] points
halves_done points made [] e h = h
halves_done points made (p ∷ ps) e h = absurd (omega (arith, e))
