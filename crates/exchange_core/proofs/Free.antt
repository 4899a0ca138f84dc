-- Which place moves next.
use Rattle.std.proofs.lemmas.Bool.Decides.{nat_tests}
use Rattle.std.proofs.Common.{◌≡◌, ◌-◌, ◌<◌, ◌≤◌, ◌∙◌, ◌&&◌, ◌||◌, ℕ, suc, zero, Bool, true, false, refl, ap, nat_lt, arith}
use Rattle.exchange_core.proofs.Sources.{later_last, later_step}
use Rattle.exchange_core.specs.Flow.{Flow, last_place}
use Rattle.exchange_core.specs.Moves.{is_free, is_held_at, is_target_above, last_free, last_free_to, later_above, may_release}
use Rattle.flow_gate.specs.Board.{Board}
use Rattle.std.specs.Prelude.{None, Option, Some, if◌then◌else◌, not}

-- the last place before p that is free
abbrev pub free_before : Board → Option ℕ → Flow → ℕ → Option ℕ
free_before board to flow zero = None
free_before board to flow (suc p) = last_free_to board to flow p

or_true : (a : Bool) → (a || true) ≡ true
or_true true = refl
or_true false = refl

and_not_true : (a : Bool) → (a && not true) ≡ false
and_not_true true = refl
and_not_true false = refl

-- a place with a source above behind it isn't free
held_back : (board : Board) (to : Option ℕ) (flow : Flow) (p : ℕ) → later_above board to flow p ≡ true → is_free board to flow p ≡ false
held_back board to flow p e = cc (and_not_true (nat_lt 0 (may_release board flow p)))

-- nor is any before it
pub none_free : (board : Board) (to : Option ℕ) (flow : Flow) (p : ℕ) → p < last_place flow → later_above board to flow p ≡ true → last_free_to board to flow p ≡ None
none_free board to flow zero h e = cc (held_back board to flow 0 e)
none_free board to flow (suc p) h e =
    let before : later_above board to flow p ≡ true =
    cc (later_step board to flow p (omega arith), or_true (is_held_at board flow (suc p))) in
    ap (λ b. if b then Some (suc p) else last_free_to board to flow p) (held_back board to flow (suc p) e)
    ∙ none_free board to flow p (omega arith) before

-- the place p isn't a source that is above, and none behind it is: so none behind the one before it is
module _ (board : Board) (to : Option ℕ) (flow : Flow) where
  pub clear_step : (q : ℕ) → q < last_place flow → is_held_at board flow (suc q) ≡ false → later_above board to flow (suc q) ≡ false → later_above board to flow q ≡ false
  clear_step q h held clear =
      cc (later_step board to flow q h)

  pub held_step : (q : ℕ) → q < last_place flow → is_held_at board flow (suc q) ≡ true → free_before board to flow (suc q) ≡ None
  held_step q h held =
      none_free board to flow q h (cc (later_step board to flow q h))

  free_if : (p : ℕ) (some : Bool) → nat_lt 0 (may_release board flow p) ≡ some → later_above board to flow p ≡ false → is_free board to flow p ≡ some
  free_if p true e clear = cc
  free_if p false e clear = cc

  -- a place that lets octets go, with no source above behind it, is the last one that is free up to itself
  pub found_free : (p : ℕ) → 0 < may_release board flow p → later_above board to flow p ≡ false → last_free_to board to flow p ≡ Some p
  found_free zero h clear =
      cc (free_if 0 true (grind (arith, nat_tests)) clear)
  found_free (suc p) h clear =
      cc (free_if (suc p) true (grind (arith, nat_tests)) clear)

  -- one that lets nothing go is passed over
  pub passed_over : (p : ℕ) → may_release board flow p ≡ 0 → later_above board to flow p ≡ false → last_free_to board to flow p ≡ free_before board to flow p
  passed_over zero h clear =
      cc (free_if 0 false (grind (arith, nat_tests)) clear)
  passed_over (suc p) h clear =
      cc (free_if (suc p) false (grind (arith, nat_tests)) clear)

  -- ---- by the place that a search has reached
  pub free_start : (p : ℕ) → 1 ≤ p → p ≡ last_place flow → last_free board to flow ≡ free_before board to flow p
  free_start zero first e = absurd (omega arith)
  free_start (suc q) first e =
      let before : last_place flow - 1 ≡ q = omega arith in
      ap (last_free_to board to flow) before

  -- the write buffer is above: nothing is free
  pub target_holds : 1 ≤ last_place flow → is_target_above board to ≡ true → last_free board to flow ≡ None
  target_holds some above =
      let before : last_place flow ≡ suc (last_place flow - 1) = omega arith in
      let last : later_above board to flow (suc (last_place flow - 1)) ≡ true =
      cc (later_last board to flow) in
      none_free board to flow (last_place flow - 1) (omega arith)
      (cc (later_step board to flow (last_place flow - 1) (omega arith), or_true (is_held_at board flow (suc (last_place flow - 1)))))

  pub target_clear : (p : ℕ) → p ≡ last_place flow → is_target_above board to ≡ false → later_above board to flow p ≡ false
  target_clear p e low = cc (later_last board to flow)

  -- the place that the search has reached is above
  pub held_here : (p : ℕ) → 1 ≤ p → p ≤ last_place flow → is_held_at board flow p ≡ true → free_before board to flow p ≡ None
  held_here zero first last held = absurd (omega arith)
  held_here (suc q) first last held = held_step q (omega arith) held

  -- it isn't, so the search goes on to the place before it
  pub clear_here : (p : ℕ) → 1 ≤ p → p ≤ last_place flow → is_held_at board flow p ≡ false → later_above board to flow p ≡ false → later_above board to flow (p - 1) ≡ false
  clear_here zero first last held clear = absurd (omega arith)
  clear_here (suc q) first last held clear =
      let before : (suc q) - 1 ≡ q = omega arith in
      ap (later_above board to flow) before ∙ clear_step q (omega arith) held clear

  -- which lets octets go
  pub found_here : (p : ℕ) → 1 ≤ p → 0 < may_release board flow (p - 1) → later_above board to flow (p - 1) ≡ false → free_before board to flow p ≡ Some (p - 1)
  found_here zero first some clear = absurd (omega arith)
  found_here (suc q) first some clear =
      let before : q ≡ (suc q) - 1 = omega arith in
      ap (last_free_to board to flow) before ∙ found_free ((suc q) - 1) some clear

  -- or doesn't
  pub passed_here : (p : ℕ) → 1 ≤ p → may_release board flow (p - 1) ≡ 0 → later_above board to flow (p - 1) ≡ false → free_before board to flow p ≡ free_before board to flow (p - 1)
  passed_here zero first none clear = absurd (omega arith)
  passed_here (suc q) first none clear =
      let before : q ≡ (suc q) - 1 = omega arith in
      ap (last_free_to board to flow) before ∙ passed_over ((suc q) - 1) none clear
