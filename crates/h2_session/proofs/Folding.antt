-- The values that settings give a number, one after another.
use Rattle.std.proofs.Common.{◌≡◌, ℕ, ◌<◌, ◌||◌, Bool, true, false, List, [], ◌∷◌, Option, Some, None, get_or, length, ap, sym, subst, ◌∙◌, refl, arith}
use Rattle.std.proofs.Math.ListN.{set}
use Rattle.std.proofs.lemmas.Bool.Decides.{nat_tests}
use Rattle.std.proofs.lemmas.Grind.{get_or-set_at}
use Rattle.std.proofs.lemmas.List.{get_or-set_other, get_or_default}
use Rattle.std.specs.Option.{option_or}
use Rattle.std.specs.Prelude.{if◌then◌else◌, max, min, nat_lt, ◌-◌, ◌==◌, ◌^◌, ◌&&◌}
use Rattle.h2_session.proofs.Entries.{no_settings}
use Rattle.h2_session.specs.Errors.{names_outside, settings_of}
use Rattle.h2_session.specs.Values.{HasValues, greatest_value, last_value, no_values, outside_in}
use Rattle.h2_session.specs.declared.act.Setting.{Setting}
use Rattle.h2_session.specs.declared.named.Outside.{Outside}
use Rattle.h2_session.specs.declared.named.Values.{Values}

-- the values once one more came
abbrev pub with_value : ℕ → Values → Values
with_value n v = record { last = Some n; least = min v.least n; greatest = max v.greatest n }

-- those of a number once settings came
abbrev pub after_all : ℕ → List Setting → Values → Values
after_all id [] v = v
after_all id (s ∷ settings) v = after_all id settings (if s.id == id then with_value s.value v else v)

-- ---- the last one
last_one : (b : Bool) (o : Option ℕ) (n : ℕ) (v : Values) → option_or o (if b then with_value n v else v).last ≡ option_or (option_or o (if b then Some n else None)) v.last
last_one true None n v = refl
last_one true (Some m) n v = refl
last_one false None n v = refl
last_one false (Some m) n v = refl

last_after : (id : ℕ) (settings : List Setting) (v : Values) → (after_all id settings v).last ≡ option_or (last_value id settings) v.last
last_after id [] v = refl
last_after id (s ∷ settings) v = last_after id settings (if s.id == id then with_value s.value v else v) ∙ last_one (s.id == id) (last_value id settings) s.value v

-- ---- the greatest one
greatest_one : (b : Bool) (m n : ℕ) (v : Values) → max (if b then with_value n v else v).greatest m ≡ max v.greatest (max (if b then n else 0) m)
greatest_one true m n v = omega arith
greatest_one false m n v = omega arith

greatest_after : (id : ℕ) (settings : List Setting) (v : Values) → (after_all id settings v).greatest ≡ max v.greatest (greatest_value id settings)
greatest_after id [] v = none v.greatest
  where
    none : (n : ℕ) → n ≡ max n 0
    none n = omega arith
greatest_after id (s ∷ settings) v = greatest_after id settings (if s.id == id then with_value s.value v else v) ∙ greatest_one (s.id == id) (greatest_value id settings) s.value v

-- ---- those outside a range
abbrev is_outside : ℕ → ℕ → Values → Bool
is_outside low high v = nat_lt v.least low || nat_lt high v.greatest

one_outside : (least greatest n low high : ℕ) → (nat_lt (min least n) low || nat_lt high (max greatest n)) ≡ ((nat_lt least low || nat_lt high greatest) || (nat_lt n low || nat_lt high n))
one_outside least greatest n low high = grind (arith, nat_tests)

apart : (a b c : Bool) → ((a || b) || c) ≡ (a || (b || c))
apart true b c = refl
apart false b c = refl

outside_one : (b : Bool) (n low high : ℕ) (v : Values) (rest : Bool)
    → (is_outside low high (if b then with_value n v else v) || rest) ≡ (is_outside low high v || ((b && (nat_lt n low || nat_lt high n)) || rest))
outside_one true n low high v rest = ap (λ t. t || rest) (one_outside v.least v.greatest n low high) ∙ apart (is_outside low high v) (nat_lt n low || nat_lt high n) rest
outside_one false n low high v rest = refl

outside_after : (id low high : ℕ) (settings : List Setting) (v : Values) → is_outside low high (after_all id settings v) ≡ (is_outside low high v || names_outside id low high settings)
outside_after id low high [] v = or_none (is_outside low high v)
  where
    or_none : (a : Bool) → a ≡ (a || false)
    or_none true = refl
    or_none false = refl
outside_after id low high (s ∷ settings) v =
    outside_after id low high settings (if s.id == id then with_value s.value v else v) ∙ outside_one (s.id == id) s.value low high v (names_outside id low high settings)

none_outside : (low high : ℕ) → low < 2 ^ 32 → (nat_lt (2 ^ 32 - 1) low || nat_lt high 0) ≡ false
none_outside low high fits = grind (arith, nat_tests)

-- ---- all of them
or_none : (o : Option ℕ) → option_or o None ≡ o
or_none None = refl
or_none (Some n) = refl

pub has_values : (id : ℕ) (settings : List Setting) → HasValues id settings (after_all id settings no_values)
has_values id settings = record {
  last = last_after id settings no_values ∙ or_none (last_value id settings);
  greatest = greatest_after id settings no_values ∙ none (greatest_value id settings);
  outside = λ low high fits. outside_after id low high settings no_values ∙ ap (λ b. b || names_outside id low high settings) (none_outside low high fits);
}
  where
    none : (n : ℕ) → max 0 n ≡ n
    none n = omega arith

-- ---- one more entry
same_place : (id j : ℕ) → id < 6 → (id == min j 6) ≡ (j == id)
same_place id j less = grind (arith, nat_tests)

pub one_taken : (id : ℕ) (s : Setting) (front back : List Setting) (xs ys : List Values) (whole : Values) → id < 6 → front ≡ s ∷ back
    → get_or ys id no_values ≡ (if id == min s.id 6 then with_value s.value (get_or xs id no_values) else get_or xs id no_values)
    → after_all id front (get_or xs id no_values) ≡ whole → after_all id back (get_or ys id no_values) ≡ whole
one_taken id s front back xs ys whole less is at so_far =
    let same : get_or ys id no_values ≡ (if s.id == id then with_value s.value (get_or xs id no_values) else get_or xs id no_values) =
    at ∙ ap (λ b. if b then with_value s.value (get_or xs id no_values) else get_or xs id no_values) (same_place id s.id less) in
    ap (after_all id back) same ∙ (sym (ap (λ (l : List Setting). after_all id l (get_or xs id no_values)) is) ∙ so_far)

-- fewer octets than an entry has are no more of them
pub all_taken : (id : ℕ) (l : List ℕ) (settings : List Setting) (v : Values) → after_all id (settings_of l) v ≡ after_all id settings no_values → length l < 6 → HasValues id settings v
all_taken id l settings v so_far short =
    subst (HasValues id settings) (sym (sym (ap (λ (k : List Setting). after_all id k v) (no_settings l short)) ∙ so_far)) (has_values id settings)

-- ---- writes
same_values : (w : Values) (last : Option ℕ) (least greatest : ℕ) → w.last ≡ last → w.least ≡ least → w.greatest ≡ greatest → w ≡ record { last = last; least = least; greatest = greatest }
same_values w last least greatest a b c = rw (← a, ← b, ← c) refl

pub written : (xs : List Values) (p id n : ℕ) (w d : Values) → p < length xs → w.last ≡ Some n → w.least ≡ min (get_or xs p d).least n → w.greatest ≡ max (get_or xs p d).greatest n
    → get_or (set xs p w) id no_values ≡ (if id == p then with_value n (get_or xs id no_values) else get_or xs id no_values)
written xs p id n w d within last least greatest = at (id == p) refl
  where
    all : w ≡ with_value n (get_or xs p d)
    all = same_values w (Some n) (min (get_or xs p d).least n) (max (get_or xs p d).greatest n) last least greatest

    at : (b : Bool) → (id == p) ≡ b → get_or (set xs p w) id no_values ≡ (if b then with_value n (get_or xs id no_values) else get_or xs id no_values)
    at true e =
        let same : id ≡ p = grind (arith, nat_tests) in
        get_or-set_at xs p id w no_values same within ∙ (all ∙ (ap (with_value n) (get_or_default xs p d no_values within) ∙ ap (λ k. with_value n (get_or xs k no_values)) (sym same)))
    at false e = get_or-set_other xs p id w no_values (grind (arith, nat_tests))

-- ---- ranges
pub outside_found : (id low high : ℕ) (settings : List Setting) (xs : List Values) (d : Values) (b : Bool) → length xs ≡ 7 → id < 6 → low < 2 ^ 32 → HasValues id settings (get_or xs id no_values)
    → b ≡ (nat_lt (get_or xs id d).least low || nat_lt high (get_or xs id d).greatest) → b ≡ names_outside id low high settings
outside_found id low high settings xs d b seven less fits has is =
    is ∙ (ap (λ (v : Values). nat_lt v.least low || nat_lt high v.greatest) (get_or_default xs id d no_values (omega arith)) ∙ has.outside low high fits)

abbrev outside_with : Bool → Bool → Bool → Outside
outside_with p w f = record { push = p; initial_window = w; frame_size = f }

pub all_outside : (most : ℕ) (settings : List Setting) (push window frame : Bool) → push ≡ names_outside 2 0 most settings → window ≡ names_outside 4 0 2147483647 settings → frame ≡ names_outside 5 16384 16777215 settings
    → outside_with push window frame ≡ outside_in most settings
all_outside most settings push window frame p w f = rw (p, w, f) refl
