-- What the static table of field compression says of names and values.
use Rattle.std.proofs.Common.{◌≡◌, ℕ, zero, suc, ◌+◌, ◌-◌, ◌%◌, ◌<◌, ◌≤◌, ◌∙◌, ◌&&◌, ◌||◌, Bool, true, false, cond, List, [], ◌∷◌, length, get_or, map, Option, Some, None, refl, subst, sym, ap, arith, eqb, codes, inl, inr, not}
use Rattle.std.proofs.lemmas.Bool.{and_parts, cases_lt, ne_eqb}
use Rattle.std.proofs.lemmas.List.FromFn.{get_or-map-range_with_len}
use Rattle.std.specs.List.{list_any, range_with_len, starts_with}
use Rattle.std.specs.Prelude.{nat_eq}
use Rattle.hpack_codec.specs.Table.{static_table}
use Rattle.hpack_codec.specs.Told.{IsToldBy}
use Rattle.hpack_codec.specs.declared.fields.Field.{Field}
use Rattle.hpack_codec.proofs.StaticPlaces.{entry}
use Rattle.hpack_codec.proofs.ToldFields.{told_name_is, told_value_is}
use Rattle.h2_heads.specs.Passes.{is_special}
use Rattle.h2_heads.specs.Pseudos.{pseudo_of}
use Rattle.h2_heads.specs.Rules.{has_inner_colon, is_bad_name, is_bad_value, is_pseudo}
use Rattle.h2_heads.specs.Told.{IsPlain}
use Rattle.h2_heads.specs.declared.pseudo.Pseudo.{Pseudo}
use Rattle.h2_heads.specs.declared.pseudo.Pseudo.TheVariants.{Authority, Method, Path, Scheme, Status}

-- ---- pseudo-fields
-- the pseudo-field whose name is told by an index
pub told_pseudo : (octet : ℕ) (f : Field) (p : ℕ) (found : Option Pseudo) → IsToldBy octet f → octet % 128 ≡ p + 1 → pseudo_of (entry static_table p).name ≡ found → pseudo_of f.name ≡ found
told_pseudo octet f p found told at is =
    let here : octet % 128 - 1 ≡ p = omega (arith, at) in
    ap pseudo_of (sym (told_name_is octet f told (omega (arith, at))) ∙ ap (λ q. (entry static_table q).name) here) ∙ is

-- the same of two indexes side by side
pub told_one_of_two : (octet : ℕ) (f : Field) (p : ℕ) (found : Option Pseudo) → IsToldBy octet f → p + 1 ≤ octet % 128 → octet % 128 ≤ p + 2 → pseudo_of (entry static_table p).name ≡ found
    → pseudo_of (entry static_table (p + 1)).name ≡ found → pseudo_of f.name ≡ found
told_one_of_two octet f p found told least most one other = elim (cases_lt (p + 1) (octet % 128)) [
  | inl more ↦ told_pseudo octet f (p + 1) found told (omega (arith, more, most)) other
  | inr same ↦ told_pseudo octet f p found told (omega (arith, same, least)) one
]

pub authority_named : pseudo_of (entry static_table 0).name ≡ Some Authority
unfolding static_table
authority_named = refl

pub method_named : (pseudo_of (entry static_table 1).name ≡ Some Method) × (pseudo_of (entry static_table 2).name ≡ Some Method)
unfolding static_table
method_named = (refl, refl)

pub path_named : (pseudo_of (entry static_table 3).name ≡ Some Path) × (pseudo_of (entry static_table 4).name ≡ Some Path)
unfolding static_table
path_named = (refl, refl)

pub scheme_named : (pseudo_of (entry static_table 5).name ≡ Some Scheme) × (pseudo_of (entry static_table 6).name ≡ Some Scheme)
unfolding static_table
scheme_named = (refl, refl)

abbrev status_at : ℕ → Option Pseudo
status_at p = pseudo_of (entry static_table (7 + p)).name

abbrev some_status : ℕ → Option Pseudo
some_status p = Some Status

statuses : map status_at (range_with_len 0 7) ≡ map some_status (range_with_len 0 7)
unfolding static_table
statuses = refl

pub status_named : (p : ℕ) → p < 7 → pseudo_of (entry static_table (7 + p)).name ≡ Some Status
status_named p h =
    sym (get_or-map-range_with_len status_at 0 7 p p None h (omega arith))
    ∙ ap (λ xs. get_or xs p None) statuses
    ∙ get_or-map-range_with_len some_status 0 7 p p None h (omega arith)

-- ---- regular fields without rules of their own
abbrev is_plain_name : List ℕ → Bool
is_plain_name name = not (starts_with nat_eq name (codes ":")) && (not (is_bad_name name || has_inner_colon name) && not (is_special name))

abbrev plain_at : ℕ → Bool
plain_at p = (eqb p 13 || eqb p 42) || is_plain_name (entry static_table (14 + p)).name

abbrev yes : ℕ → Bool
yes p = true

plains : map plain_at (range_with_len 0 47) ≡ map yes (range_with_len 0 47)
unfolding static_table
plains = refl

plain_there : (p : ℕ) → p < 47 → plain_at p ≡ true
plain_there p h =
    sym (get_or-map-range_with_len plain_at 0 47 p p true h (omega arith))
    ∙ ap (λ xs. get_or xs p true) plains
    ∙ get_or-map-range_with_len yes 0 47 p p true h (omega arith)

not_true : (b : Bool) → not b ≡ true → b ≡ false
not_true false same = refl
not_true true same = sym same

pub told_plain : (octet : ℕ) (f : Field) → IsToldBy octet f → 15 ≤ octet % 128 → octet % 128 ≤ 61 → (octet % 128 ≡ 28 → ⊥) → (octet % 128 ≡ 57 → ⊥) → IsPlain f
told_plain octet f told least most first second =
    let p = octet % 128 - 15 in
    let here : 14 + p ≡ octet % 128 - 1 = omega (arith, least) in
    let same : (entry static_table (14 + p)).name ≡ f.name = ap (λ q. (entry static_table q).name) here ∙ told_name_is octet f told (omega (arith, least)) in
    let other : (eqb p 13 || eqb p 42) ≡ false =
    ap (λ b. b || eqb p 42) (ne_eqb p 13 (λ e. first (omega (arith, e, least)))) ∙ ne_eqb p 42 (λ e. second (omega (arith, e, least))) in
    let plain : is_plain_name f.name ≡ true =
    ap is_plain_name (sym same) ∙ sym (ap (λ b. b || is_plain_name (entry static_table (14 + p)).name) other) ∙ plain_there p (omega (arith, least, most)) in
    let parts = and_parts _ _ plain in
    let others = and_parts _ _ parts.1 in
    record {
      regular = not_true _ parts.0;
      sound = not_true _ others.0;
      usual = not_true _ others.1;
    }

-- ---- values
abbrev bad_at : ℕ → Bool
bad_at p = is_bad_value (entry static_table p).value

abbrev no : ℕ → Bool
no p = false

goods : map bad_at (range_with_len 0 61) ≡ map no (range_with_len 0 61)
unfolding static_table
goods = refl

good_there : (p : ℕ) → p < 61 → bad_at p ≡ false
good_there p h =
    sym (get_or-map-range_with_len bad_at 0 61 p p true h (omega arith))
    ∙ ap (λ xs. get_or xs p true) goods
    ∙ get_or-map-range_with_len no 0 61 p p true h (omega arith)

pub told_good : (octet : ℕ) (f : Field) → IsToldBy octet f → 128 < octet → is_bad_value f.value ≡ false
told_good octet f told most =
    let v = told_value_is octet f told most in
    ap is_bad_value (sym v.1) ∙ good_there (octet - 129) v.0
