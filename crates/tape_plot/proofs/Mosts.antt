-- The most that a lane was is the most that its number was in the dispatches that are drawn, or just before them.
use Rattle.std.proofs.Common.{ap, arith, refl, subst, sym}
use Rattle.std.proofs.lemmas.Bool.{eqb-true, ltb-false, ltb-true}
use Rattle.std.specs.Prelude.{Bool, List, None, Option, Some, [], false, if◌then◌else◌, max, nat_lt, not, true, ℕ, ◌&&◌, ◌+◌, ◌-◌, ◌/◌, ◌==◌, ◌∷◌, ◌≡◌, ◌≤◌}
use Rattle.tape_laws.specs.Dispatches.{turns}
use Rattle.tape_laws.specs.History.{History, NoMark}
use Rattle.tape_plot.proofs.Columns.{before_since, eq_false, eq_true, none_early}
use Rattle.tape_plot.specs.Highest.{most_from}
use Rattle.tape_plot.specs.Lanes.{Drawn, LaneIs, Rise, most_of, point_at, span_of}
use Rattle.tape_plot.specs.Spans.{Span, before, changes, noted}
use Rattle.tape_plot.specs.declared.lane.Point.{Point}

-- a span is nowhere above a number
abbrev IsUpTo : ℕ → Option Span → Type 0
IsUpTo n None = Unit {0}
IsUpTo n (Some s) = s.high ≤ n

up_more : (m n : ℕ) (s : Option Span) → m ≤ n → IsUpTo m s → IsUpTo n s
up_more m n None le w = tt
up_more m n (Some s) le w = omega (arith, le, w)

noted_up : (b : Bool) (s : Option Span) (v n : ℕ) → IsUpTo n s → v ≤ n → IsUpTo n (noted b s v)
noted_up true None v n w le = le
noted_up true (Some s) v n w le = omega (arith, w, le)
noted_up false s v n w le = w

up_behind : (b : Bool) (s : Option Span) (v n : ℕ) → IsUpTo n (noted b s v) → IsUpTo n s
up_behind true None v n w = tt
up_behind true (Some s) v n w = omega (arith, w)
up_behind false s v n w = w

up_here : (s : Option Span) (v n : ℕ) → IsUpTo n (noted true s v) → v ≤ n
up_here None v n w = w
up_here (Some s) v n w = omega (arith, w)

-- ---- the number

now_within : (L : History NoMark → ℕ) (first : ℕ) (h : History NoMark) → L h ≤ most_from L first h
now_within L first [] = omega arith
now_within L first (step ∷ past) = by (nat_lt (turns (step ∷ past)) first)
  where
    by : (b : Bool) → L (step ∷ past) ≤ (if b then L (step ∷ past) else max (most_from L first past) (L (step ∷ past)))
    by true = omega arith
    by false = omega arith

before_within : (L : History NoMark → ℕ) (first : ℕ) (h : History NoMark) → before L first h ≤ most_from L first h
before_within L first [] = omega arith
before_within L first (step ∷ past) = by (nat_lt (turns (step ∷ past)) first) (before_within L first past)
  where
    by : (b : Bool) → before L first past ≤ most_from L first past → (if b then L (step ∷ past) else before L first past) ≤ (if b then L (step ∷ past) else max (most_from L first past) (L (step ∷ past)))
    by true le = omega arith
    by false le = omega (arith, le)

changes_within : (L : History NoMark → ℕ) (first w j : ℕ) (h : History NoMark) → IsUpTo (most_from L first h) (changes L first w j h)
changes_within L first w j [] = tt
changes_within L first w j (step ∷ past) = by (nat_lt (turns (step ∷ past)) first) refl (changes_within L first w j past)
  where
    by : (b : Bool) → nat_lt (turns (step ∷ past)) first ≡ b → IsUpTo (most_from L first past) (changes L first w j past) → IsUpTo (most_from L first (step ∷ past)) (changes L first w j (step ∷ past))
    by true e within = subst (IsUpTo (most_from L first (step ∷ past))) (sym (none_early L first w j (step ∷ past) (ltb-true _ _ e))) tt
    by false e within =
        let top : ℕ = max (most_from L first past) (L (step ∷ past)) in
        subst (λ (v : ℕ). IsUpTo v (changes L first w j (step ∷ past))) (sym (ap (λ (b : Bool). if b then L (step ∷ past) else top) e))
        (noted_up _ (changes L first w j past) (L (step ∷ past)) top (up_more (most_from L first past) top (changes L first w j past) (omega arith) within) (omega arith))

-- what bounds each column, and what was before the first, bounds the number
most_bounded : (L : History NoMark → ℕ) (first w n : ℕ) (h : History NoMark) → before L first h ≤ n → ((j : ℕ) → IsUpTo n (changes L first w j h)) → most_from L first h ≤ n
most_bounded L first w n [] le all = le
most_bounded L first w n (step ∷ past) le all = by (nat_lt t first) refl (λ less. most_bounded L first w n past less behind)
  where
    t : ℕ
    t = turns (step ∷ past)

    v : ℕ
    v = L (step ∷ past)

    behind : (j : ℕ) → IsUpTo n (changes L first w j past)
    behind j = up_behind _ (changes L first w j past) v n (all j)

    noted_now : nat_lt t first ≡ false → (v == L past) ≡ false → ((not (nat_lt t first) && ((t - first) / w == (t - first) / w)) && not (v == L past)) ≡ true
    noted_now e f = rw (e, f, eq_true ((t - first) / w) ((t - first) / w) _ refl refl) refl

    here : (b : Bool) → (v == L past) ≡ b → nat_lt t first ≡ false → most_from L first past ≤ n → v ≤ n
    here true f e most = omega (arith, eqb-true v (L past) f, now_within L first past, most)
    here false f e most =
        let j = (t - first) / w in
        up_here (changes L first w j past) v n (subst (λ (b : Bool). IsUpTo n (noted b (changes L first w j past) v)) (noted_now e f) (all j))

    by : (b : Bool) → nat_lt t first ≡ b → (before L first past ≤ n → most_from L first past ≤ n) → most_from L first (step ∷ past) ≤ n
    by true e past_most =
        let is : before L first (step ∷ past) ≡ v = ap (λ (b : Bool). if b then v else before L first past) e in
        let most : most_from L first (step ∷ past) ≡ v = ap (λ (b : Bool). if b then v else max (most_from L first past) v) e in
        omega (arith, le, is, most)
    by false e past_most =
        let since : before L first (step ∷ past) ≡ before L first past = before_since L first step past (ltb-false t first e) in
        let was : most_from L first past ≤ n = past_most (omega (arith, le, since)) in
        let most : most_from L first (step ∷ past) ≡ max (most_from L first past) v = ap (λ (b : Bool). if b then v else max (most_from L first past) v) e in
        omega (arith, was, here (v == L past) refl e was, most)

-- ---- the lane

base_within : (base : ℕ) (ps : List Point) → base ≤ most_of base ps
base_within base [] = omega arith
base_within base (p ∷ ps) = omega (arith, base_within (max base p.high) ps)

point_within : (base : ℕ) (ps : List Point) (j : ℕ) → IsUpTo (most_of base ps) (point_at ps j)
point_within base [] j = tt
point_within base (p ∷ ps) j = by (p.column == j) (point_within (max base p.high) ps j)
  where
    by : (b : Bool) → IsUpTo (most_of (max base p.high) ps) (point_at ps j) → IsUpTo (most_of (max base p.high) ps) (if b then Some (span_of p) else point_at ps j)
    by true rest = omega (arith, base_within (max base p.high) ps)
    by false rest = rest

most_up : (base n from to : ℕ) (ps : List Point) → Rise from ps to → base ≤ n → ((j : ℕ) → from ≤ j → IsUpTo n (point_at ps j)) → most_of base ps ≤ n
most_up base n from to [] r le all = le
most_up base n from to (p ∷ ps) r le all = most_up (max base p.high) n (p.column + 1) to ps r.1 (omega (arith, le, here)) behind
  where
    here : p.high ≤ n
    here = subst (IsUpTo n) (ap (λ (b : Bool). if b then Some (span_of p) else point_at ps p.column) (eq_true p.column p.column _ refl refl)) (all p.column r.0)

    behind : (j : ℕ) → p.column + 1 ≤ j → IsUpTo n (point_at ps j)
    behind j lt =
        subst (IsUpTo n) (ap (λ (b : Bool). if b then Some (span_of p) else point_at ps j) (eq_false p.column j _ refl (λ e. omega (arith, e, lt)))) (all j (omega (arith, r.0, lt)))

pub most_is : (d : Drawn) (L : History NoMark → ℕ) (first : ℕ) (h : History NoMark) → LaneIs d L first h → most_of d.base d.points ≡ most_from L first h
most_is d L first h is = omega (arith, below, above)
  where
    starts : d.base ≤ most_from L first h
    starts = omega (arith, is.starts, before_within L first h)

    below : most_of d.base d.points ≤ most_from L first h
    below = most_up d.base (most_from L first h) 0 ((turns h - first) / d.width + 1) d.points is.rise starts
        (λ j le. subst (IsUpTo (most_from L first h)) (sym (is.points j)) (changes_within L first d.width j h))

    above : most_from L first h ≤ most_of d.base d.points
    above = most_bounded L first d.width (most_of d.base d.points) h (omega (arith, is.starts, base_within d.base d.points))
        (λ j. subst (IsUpTo (most_of d.base d.points)) (is.points j) (point_within d.base d.points j))
