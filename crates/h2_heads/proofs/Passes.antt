-- What one pass over a name, one over a value and the first octet of a name tell.
use Rattle.std.proofs.Common.{Bool, List, [], ◌∷◌, ℕ, ◌≡◌, ◌≤◌, ◌-◌, ◌∙◌, ◌&&◌, ◌||◌, ap, arith, drop, false, get_or, length, not, refl, suc, sym, take, true, zero}
use Rattle.std.proofs.lemmas.Bool.Decides.{nat_tests}
use Rattle.std.proofs.lemmas.List.{take_all}
use Rattle.std.specs.List.{list_all, list_any, slice_get, starts_with}
use Rattle.std.specs.Option.{option_map_or}
use Rattle.std.specs.Prelude.{codes, nat_eq, ◌==◌}
use Rattle.std.specs.Str.{bytes_eq}
use Rattle.h2_heads.specs.Passes.{is_low, is_plain, is_usual}
use Rattle.h2_heads.specs.Rules.{has_inner_colon, is_bad_in_name, is_bad_in_value, is_bad_name, is_bad_value, is_blank, is_blank_at}

usual_plain : (octet : ℕ) → is_usual octet ≡ true → is_plain octet ≡ true
usual_plain octet usual = grind (arith, nat_tests)

all_left : (a b : Bool) → (a && b) ≡ true → a ≡ true
all_left true b e = refl
all_left false b e = e

all_right : (a b : Bool) → (a && b) ≡ true → b ≡ true
all_right true b e = e
all_right false b e = cc

-- octets that are usual are plain
pub all_usual_plain : (octets : List ℕ) → list_all is_usual octets ≡ true → list_all is_plain octets ≡ true
all_usual_plain [] e = refl
all_usual_plain (o ∷ os) e =
    let here = usual_plain o (all_left (is_usual o) (list_all is_usual os) e) in
    ap (λ plain. plain && list_all is_plain os) here ∙ all_usual_plain os (all_right (is_usual o) (list_all is_usual os) e)

plain_step : (bad colon bads colons : Bool) → ((not bad && not colon) && not (bads || colons)) ≡ not ((bad || bads) || (colon || colons))
plain_step true colon bads colons = refl
plain_step false true true colons = refl
plain_step false true false colons = refl
plain_step false false bads colons = refl

-- octets that are plain, told by two tests
plain_all : (octets : List ℕ) → list_all is_plain octets ≡ not (list_any is_bad_in_name octets || list_any (λ octet. octet == 58) octets)
plain_all [] = refl
plain_all (o ∷ os) =
    ap (λ rest. is_plain o && rest) (plain_all os)
    ∙ plain_step (is_bad_in_name o) (o == 58) (list_any is_bad_in_name os) (list_any (λ octet. octet == 58) os)

begin_step : (bad colon bads colons : Bool) → (colon ≡ true → bad ≡ false) → (((not bad && not colon) || colon) && not (bads || colons)) ≡ not ((bad || bads) || colons)
begin_step true true bads colons h = let no : true ≡ false = h refl in cc
begin_step true false bads colons h = refl
begin_step false true bads colons h = refl
begin_step false false bads colons h = refl

colon_is_good : (octet : ℕ) → (octet == 58) ≡ true → is_bad_in_name octet ≡ false
colon_is_good octet is = grind (arith, nat_tests)

-- a name is sound whose first octet is plain or a colon, and whose others are plain
sound_name : (first : ℕ) (rest : List ℕ) → ((is_plain first || (first == 58)) && list_all is_plain rest) ≡ not (is_bad_name (first ∷ rest) || has_inner_colon (first ∷ rest))
sound_name first rest =
    let some : (length (first ∷ rest) == 0) ≡ false = grind (arith, nat_tests) in
    ap (λ all. (is_plain first || (first == 58)) && all) (plain_all rest)
    ∙ begin_step (is_bad_in_name first) (first == 58) (list_any is_bad_in_name rest) (list_any (λ octet. octet == 58) rest) (colon_is_good first)
    ∙ ap (λ empty. not ((empty || list_any is_bad_in_name (first ∷ rest)) || has_inner_colon (first ∷ rest))) (sym some)

-- the same, where the name is taken apart by places
pub sound_name_at : (name : List ℕ) → 1 ≤ length name → ((is_plain (get_or name 0 0) || (get_or name 0 0 == 58)) && list_all is_plain (take (length name - 1) (drop 1 name))) ≡ not (is_bad_name name || has_inner_colon name)
sound_name_at [] some = absurd (omega arith)
sound_name_at (first ∷ rest) some =
    let whole = take_all (length (first ∷ rest) - 1) rest (omega arith) in
    ap (λ others. (is_plain first || (first == 58)) && list_all is_plain others) whole ∙ sound_name first rest

not_first : (plain colon rest : Bool) → colon ≡ false → (plain && rest) ≡ ((plain || colon) && rest)
not_first true colon rest e = refl
not_first false false rest e = refl
not_first false true rest e = cc

regular_first : (first : ℕ) (rest : List ℕ) → starts_with nat_eq (first ∷ rest) (codes ":") ≡ false → (first == 58) ≡ false
regular_first first rest regular = grind (arith, nat_tests)

-- a name that doesn't begin with a colon is sound whose octets are plain
pub sound_regular : (name : List ℕ) → starts_with nat_eq name (codes ":") ≡ false → (length name == 0) ≡ false → list_all is_plain name ≡ not (is_bad_name name || has_inner_colon name)
sound_regular [] regular some = cc
sound_regular (first ∷ rest) regular some =
    not_first (is_plain first) (first == 58) (list_all is_plain rest) (regular_first first rest regular) ∙ sound_name first rest

good_in_value : (octet : ℕ) → is_low octet ≡ false → is_bad_in_value octet ≡ false
good_in_value octet above = grind (arith, nat_tests)

none_left : (a b : Bool) → (a || b) ≡ false → a ≡ false
none_left true b e = cc
none_left false b e = refl

none_right : (a b : Bool) → (a || b) ≡ false → b ≡ false
none_right true b e = cc
none_right false b e = e

-- a value without a low octet has no bad one
none_low : (value : List ℕ) → list_any is_low value ≡ false → list_any is_bad_in_value value ≡ false
none_low [] e = refl
none_low (o ∷ os) e =
    let here = good_in_value o (none_left (is_low o) (list_any is_low os) e) in
    ap (λ bad. bad || list_any is_bad_in_value os) here ∙ none_low os (none_right (is_low o) (list_any is_low os) e)

low_blank : (octet : ℕ) → is_low octet ≡ false → is_blank octet ≡ (octet == 32)
low_blank octet above = grind (arith, nat_tests)

-- of a value without a low octet a blank is a space
none_low_blank : (value : List ℕ) (place : ℕ) → list_any is_low value ≡ false → option_map_or (λ octet. octet == 32) (slice_get value place) false ≡ is_blank_at value place
none_low_blank [] place e = refl
none_low_blank (o ∷ os) zero e = sym (low_blank o (none_left (is_low o) (list_any is_low os) e))
none_low_blank (o ∷ os) (suc k) e = none_low_blank os k (none_right (is_low o) (list_any is_low os) e)

-- a value without a low octet is bad that has a space at an end
pub none_low_bad : (value : List ℕ) → list_any is_low value ≡ false → (option_map_or (λ octet. octet == 32) (slice_get value 0) false || option_map_or (λ octet. octet == 32) (slice_get value (length value - 1)) false) ≡ is_bad_value value
none_low_bad value e =
    λ k. sym (none_low value e) k || none_low_blank value 0 e k || none_low_blank value (length value - 1) e k

-- a pseudo-field has no name that begins otherwise
pub pseudo_unnamed : (name other : List ℕ) (first : ℕ) → starts_with nat_eq name (codes ":") ≡ true → (first == 58) ≡ false → bytes_eq name (first ∷ other) ≡ false
pseudo_unnamed [] other first pseudo at = refl
pseudo_unnamed (o ∷ os) other first pseudo at =
    let differs : (o == first) ≡ false = grind (arith, nat_tests) in
    ap (λ same. same && bytes_eq os other) differs

-- a regular field has no name that begins with a colon
pub regular_unnamed : (name other : List ℕ) → starts_with nat_eq name (codes ":") ≡ false → bytes_eq name (58 ∷ other) ≡ false
regular_unnamed [] other regular = refl
regular_unnamed (o ∷ os) other regular =
    let differs : (o == 58) ≡ false = grind (arith, nat_tests) in
    ap (λ same. same && bytes_eq os other) differs
