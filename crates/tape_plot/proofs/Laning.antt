-- Lanes that stand for a number: step by step, and in columns twice as wide.
use Rattle.io_ports.specs.declared.octets.NoMemory.{NoMemory}
use Rattle.std.proofs.Common.{ap, arith, refl, subst, sym, true≢false, ◌∙◌}
use Rattle.std.proofs.Math.Nat.{div-div-eq-div-mul}
use Rattle.std.proofs.lemmas.Bool.{le-ltb, ltb-true}
use Rattle.std.specs.Prelude.{Bool, Err, List, None, Ok, OnOk, Option, Result, Some, [], false, if◌then◌else◌, nat_lt, not, true, ℕ, ◌&&◌, ◌*◌, ◌+◌, ◌-◌, ◌/◌, ◌<◌, ◌==◌, ◌∷◌, ◌≡◌, ◌≤◌}
use Rattle.tape_laws.specs.Dispatches.{turns}
use Rattle.tape_laws.specs.History.{History, NoMark, Step}
use Rattle.tape_plot.proofs.Columns.{before_early, before_since, behind_none, column_rise, eq_false, eq_true, none_early, not_changed, one_is_more, pairs, turns_rise}
use Rattle.tape_plot.proofs.Points.{halves_at, halves_last, halves_rise, put_at, put_last, put_rise, rise_more}
use Rattle.tape_plot.specs.Lanes.{Drawn, Fits, LaneIs, Rise, Sets, halves, last_of, point_at, put, span_of}
use Rattle.tape_plot.specs.Spans.{Span, before, changes, noted, with_more}
use Rattle.tape_plot.specs.declared.clock.Clock.{Clock}
use Rattle.tape_plot.specs.declared.lane.Point.{Point}

-- ---- a step that leaves the number as it was

still_starts : (L : History NoMark → ℕ) (first : ℕ) (step : Step NoMark) (h : History NoMark) → L (step ∷ h) ≡ L h → before L first h ≡ before L first (step ∷ h)
still_starts L first step h e = by (nat_lt (turns (step ∷ h)) first) refl
  where
    by : (b : Bool) → nat_lt (turns (step ∷ h)) first ≡ b → before L first h ≡ (if nat_lt (turns (step ∷ h)) first then L (step ∷ h) else before L first h)
    by true f = rw f (before_early L first h (omega (arith, ltb-true _ _ f, turns_rise step h)) ∙ sym e)
    by false f = rw f refl

pub still : (d : Drawn) (L : History NoMark → ℕ) (first : ℕ) (step : Step NoMark) (h : History NoMark) → LaneIs d L first h → L (step ∷ h) ≡ L h → LaneIs d L first (step ∷ h)
still d L first step h is e = record {
  wide = is.wide;
  starts = is.starts ∙ still_starts L first step h e;
  now = is.now ∙ sym e;
  points = λ j. is.points j ∙ sym (not_changed _ (not (L (step ∷ h) == L h)) (changes L first d.width j h) (L (step ∷ h)) (ap not (eq_true _ _ _ refl e)));
  rise = rise_more 0 d.points _ _ is.rise (omega (arith, column_rise (turns h - first) (turns (step ∷ h) - first) d.width (omega (arith, turns_rise step h)) is.wide));
}

-- ---- a step before the first column

not_none : (s : Span) → Some s ≡ None → ⊥
not_none s e = cc

no_points : (ps : List Point) → ((j : ℕ) → point_at ps j ≡ None) → ps ≡ []
no_points [] none = refl
no_points (p ∷ ps) none = absurd (not_none (span_of p) (sym here ∙ none p.column))
  where
    here : point_at (p ∷ ps) p.column ≡ Some (span_of p)
    here = rw (eq_true p.column p.column _ refl refl) refl

pub set_base : (d : Drawn) (level : ℕ) (L : History NoMark → ℕ) (first : ℕ) (step : Step NoMark) (h : History NoMark) → LaneIs d L first h → turns (step ∷ h) < first
    → L (step ∷ h) ≡ level → LaneIs (record d { base = level }) L first (step ∷ h)
set_base d level L first step h is lt e = record {
  wide = is.wide;
  starts = sym e ∙ sym (before_early L first (step ∷ h) lt);
  now = ap (last_of level) none ∙ sym e;
  points = λ j. ap (λ v. point_at v j) none ∙ sym (none_early L first d.width j (step ∷ h) lt);
  rise = rise_more 0 d.points _ _ is.rise (omega (arith, column_rise (turns h - first) (turns (step ∷ h) - first) d.width (omega (arith, turns_rise step h)) is.wide));
}
  where
    none : d.points ≡ []
    none = no_points d.points (λ j. is.points j ∙ none_early L first d.width j h (omega (arith, lt, turns_rise step h)))

-- ---- a step in a column

point_noted : (a m : Bool) (c j : ℕ) (s : Option Span) (level : ℕ) → a ≡ true → m ≡ true →
    with_more s (if c == j then Some (record { low = level; high = level; last = level }) else None) ≡ noted ((a && (c == j)) && m) s level
point_noted false m c j s level e f = absurd (true≢false (sym e))
point_noted true false c j s level e f = absurd (true≢false (sym f))
point_noted true true c j s level e f = by (c == j) refl
  where
    by : (b : Bool) → (c == j) ≡ b → with_more s (if c == j then Some (record { low = level; high = level; last = level }) else None) ≡ noted ((true && (c == j)) && true) s level
    by true g = rw g (one_is_more s level)
    by false g = rw g refl

pub set_point : (d : Drawn) (level : ℕ) (L : History NoMark → ℕ) (first : ℕ) (step : Step NoMark) (h : History NoMark) → LaneIs d L first h → first ≤ turns (step ∷ h)
    → L (step ∷ h) ≡ level → (level ≡ last_of d.base d.points → ⊥)
    → (p : Point) → p ≡ record { column = (turns (step ∷ h) - first) / d.width; low = level; high = level; last = level }
    → LaneIs (record d { points = put p d.points }) L first (step ∷ h)
set_point d level L first step h is le e differ p at = subst (λ p. LaneIs (record d { points = put p d.points }) L first (step ∷ h)) (sym at) done
  where
    c : ℕ
    c = (turns (step ∷ h) - first) / d.width

    q : Point
    q = record { column = c; low = level; high = level; last = level }

    rising : Rise 0 d.points (c + 1)
    rising = rise_more 0 d.points _ _ is.rise (omega (arith, column_rise (turns h - first) (turns (step ∷ h) - first) d.width (omega (arith, turns_rise step h)) is.wide))

    changed : not (L (step ∷ h) == L h) ≡ true
    changed = ap not (eq_false _ _ _ refl (λ f. differ (sym e ∙ f ∙ sym is.now)))

    done : LaneIs (record d { points = put q d.points }) L first (step ∷ h)
    done = record {
      wide = is.wide;
      starts = is.starts ∙ sym (before_since L first step h le);
      now = put_last d.base q d.points ∙ sym e;
      points = λ j.
          put_at 0 q d.points j rising
          ∙ ap (λ v. with_more v (point_at (q ∷ []) j)) (is.points j)
          ∙ point_noted (not (nat_lt (turns (step ∷ h)) first)) (not (L (step ∷ h) == L h)) c j (changes L first d.width j h) level (ap not (le-ltb _ _ le)) changed
          ∙ ap (λ (v : ℕ). noted ((not (nat_lt (turns (step ∷ h)) first) && (c == j)) && not (L (step ∷ h) == L h)) (changes L first d.width j h) v) (sym e);
      rise = put_rise 0 q d.points rising (omega arith);
    }

-- ---- columns twice as wide

pub halved_is : (d : Drawn) (w : ℕ) → w ≡ d.width * 2 → (ps : List Point) → ps ≡ halves [] d.points → Fits d (record { base = d.base; points = ps; width = w })
halved_is d w e ps f = subst (λ w. Fits d (record { base = d.base; points = ps; width = w })) (sym e) (subst (λ ps. Fits d (record { base = d.base; points = ps; width = d.width * 2 })) (sym f) (record { goes = goes }))
  where
    goes : (L : History NoMark → ℕ) (first : ℕ) (h : History NoMark) → LaneIs d L first h → LaneIs (record { base = d.base; points = halves [] d.points; width = d.width * 2 }) L first h
    goes L first h is = record {
      wide = omega (arith, is.wide);
      starts = is.starts;
      now = halves_last d.base [] d.points ∙ is.now;
      points = λ j.
          halves_at [] d.points 0 _ j (omega arith) is.rise
          ∙ behind_nothing (with_more (point_at d.points (2 * j)) (point_at d.points (2 * j + 1)))
          ∙ ap (λ v. with_more v (point_at d.points (2 * j + 1))) (is.points (2 * j))
          ∙ ap (with_more (changes L first d.width (2 * j) h)) (is.points (2 * j + 1))
          ∙ sym (pairs L first d.width j h is.wide);
      rise = rise_by (div-div-eq-div-mul (turns h - first) d.width 2) (halves_rise [] d.points 0 ((turns h - first) / d.width) (omega arith) (omega arith) is.rise);
    }
      where
        behind_nothing : (s : Option Span) → with_more None s ≡ s
        behind_nothing = behind_none

        rise_by : {a b : ℕ} → a ≡ b → Rise 0 (halves [] d.points) (a + 1) → Rise 0 (halves [] d.points) (b + 1)
        rise_by g r = subst (λ v. Rise 0 (halves [] d.points) (v + 1)) g r

pub fits_self : (d : Drawn) → Fits d d
fits_self d = record { goes = λ L first h is. is }

pub fits_more : (a b c : Drawn) → Fits a b → Fits b c → Fits a c
fits_more a b c f g = record { goes = λ L first h is. g.goes L first h (f.goes L first h is) }

-- ---- a number that is set

pub set_same : (d : Drawn) (level : ℕ) (clock : Clock) → level ≡ last_of d.base d.points → Sets d level clock d
set_same d level clock e = record { goes = λ L step h is t f. still d L clock.first step h is (f ∙ e ∙ is.now) }

pub set_early : (d : Drawn) (level : ℕ) (clock : Clock) → clock.turn < clock.first → Sets d level clock (record { base = level; points = d.points; width = d.width })
set_early d level clock lt = record { goes = λ L step h is t f. set_base d level L clock.first step h is (omega (arith, t, lt)) f }

pub set_later : (old mid : Drawn) (level : ℕ) (clock : Clock) (p : Point) (ps : List Point) → Fits old mid → clock.first ≤ clock.turn → (level ≡ last_of old.base old.points → ⊥)
    → p ≡ record { column = (clock.turn - clock.first) / mid.width; low = level; high = level; last = level } → ps ≡ put p mid.points
    → Sets old level clock (record { base = mid.base; points = ps; width = mid.width })
set_later old mid level clock p ps fits le differ at e = record { goes = goes }
  where
    goes : (L : History NoMark → ℕ) (step : Step NoMark) (h : History NoMark) → LaneIs old L clock.first h → turns (step ∷ h) ≡ clock.turn → L (step ∷ h) ≡ level
        → LaneIs (record { base = mid.base; points = ps; width = mid.width }) L clock.first (step ∷ h)
    goes L step h is t f =
        let m = fits.goes L clock.first h is in
        subst (λ (v : List Point). LaneIs (record { base = mid.base; points = v; width = mid.width }) L clock.first (step ∷ h)) (sym e)
        (set_point mid level L clock.first step h m (omega (arith, t, le)) f (λ g. differ (g ∙ m.now ∙ sym is.now)) p
        (subst (λ (v : ℕ). p ≡ record { column = (v - clock.first) / mid.width; low = level; high = level; last = level }) (sym t) at))

abbrev level_at : ℕ → ℕ → Point
level_at level column = record { column = column; low = level; high = level; last = level }

pub set_ends : (old mid : Drawn) (level : ℕ) (clock : Clock) (behind column : ℕ) (ps : List Point) (r : Result (Unit {0}) NoMemory) → Fits old mid → clock.first ≤ clock.turn → (level ≡ last_of old.base old.points → ⊥)
    → behind ≡ clock.turn - clock.first → column ≡ behind / mid.width → OnOk r (ps ≡ put (record { column = column; low = level; high = level; last = level }) mid.points)
    → OnOk r (Sets old level clock (record { base = mid.base; points = ps; width = mid.width }))
set_ends old mid level clock behind column ps (Ok x) fits le differ b at e =
    set_later old mid level clock (level_at level column) ps fits le differ (ap (level_at level) (at ∙ ap (λ (v : ℕ). v / mid.width) b)) e
set_ends old mid level clock behind column ps (Err x) fits le differ b at e = tt
