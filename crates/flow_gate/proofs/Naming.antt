-- Look-ups of values by name and writes to them, where some are named anew or stand behind others.
use Rattle.flow_gate.specs.Named.{WritesThrough, named}
use Rattle.std.proofs.Common.{ap, refl, ◌∙◌}
use Rattle.std.proofs.lemmas.Map.{NonePasses, lookup-none, lookup-set_value}
use Rattle.std.specs.Cmp.{IsEquivalence}
use Rattle.std.specs.Map.{lookup, set_value}
use Rattle.std.specs.Prelude.{Bool, Err, List, Ok, OnErr, OnOk, Result, Some, [], cond, false, true, ◌++◌, ◌∷◌, ◌≡◌}

-- ---- a clause for an outcome, by another one
pub on_ok : {T E : Type 0} (P Q : Type 0) (r : Result T E) → (P → Q) → OnOk r P → OnOk r Q
on_ok P Q (Ok x) f h = f h
on_ok P Q (Err e) f h = tt

pub on_err : {T E : Type 0} (P Q : Type 0) (r : Result T E) → (P → Q) → OnErr r P → OnErr r Q
on_err P Q (Ok x) f h = tt
on_err P Q (Err e) f h = f h

-- ---- other names
module _ {J K X : Type 0} (name : J → K) (test : K → Bool) where
  pub named-none : ((j : J) → test (name j) ≡ false) → (es : List (J × X)) → NonePasses test (named name es)
  named-none none [] = tt
  named-none none (e ∷ es) = (none e.0, named-none none es)

  module _ (found : J → Bool) (same : (j : J) → test (name j) ≡ found j) where
    pub lookup-named : (es : List (J × X)) → lookup test (named name es) ≡ lookup found es
    lookup-named [] = refl
    lookup-named (e ∷ es) = λ i. cond (same e.0 i) (Some e.1) (lookup-named es i)

    pub set-named : (es : List (J × X)) (w : X) → set_value test (named name es) w ≡ named name (set_value found es w)
    set-named [] w = refl
    set-named (e ∷ es) w = (λ i. cond (same e.0 i) ((name e.0, w) ∷ named name es) ((name e.0, e.1) ∷ set-named es w i)) ∙ each (found e.0)
      where
        each : (b : Bool) → cond b ((name e.0, w) ∷ named name es) ((name e.0, e.1) ∷ named name (set_value found es w)) ≡ named name (cond b ((e.0, w) ∷ es) (e ∷ set_value found es w))
        each true = refl
        each false = refl

-- ---- two lists of values, of which at most one has the name
module _ {K X : Type 0} (test : K → Bool) where
  pub none-append : (xs ys : List (K × X)) → NonePasses test xs → NonePasses test ys → NonePasses test (xs ++ ys)
  none-append [] ys none others = others
  none-append (x ∷ xs) ys none others = (none.0, none-append xs ys none.1 others)

  pub lookup-right : (xs ys : List (K × X)) → NonePasses test xs → lookup test (xs ++ ys) ≡ lookup test ys
  lookup-right [] ys none = refl
  lookup-right (x ∷ xs) ys none = ap (λ b. cond b (Some x.1) (lookup test (xs ++ ys))) none.0 ∙ lookup-right xs ys none.1

  pub lookup-left : (xs ys : List (K × X)) → NonePasses test ys → lookup test (xs ++ ys) ≡ lookup test xs
  lookup-left [] ys none = lookup-none test ys none
  lookup-left (x ∷ xs) ys none = ap (λ o. cond (test x.0) (Some x.1) o) (lookup-left xs ys none)

  pub set-right : (xs ys : List (K × X)) (w : X) → NonePasses test xs → set_value test (xs ++ ys) w ≡ xs ++ set_value test ys w
  set-right [] ys w none = refl
  set-right (x ∷ xs) ys w none =
      ap (λ b. cond b ((x.0, w) ∷ (xs ++ ys)) (x ∷ set_value test (xs ++ ys) w)) none.0 ∙ ap (λ zs. x ∷ zs) (set-right xs ys w none.1)

  set-none : (ys : List (K × X)) (w : X) → NonePasses test ys → set_value test ys w ≡ ys
  set-none [] w none = refl
  set-none (y ∷ ys) w none = ap (λ b. cond b ((y.0, w) ∷ ys) (y ∷ set_value test ys w)) none.0 ∙ ap (λ zs. y ∷ zs) (set-none ys w none.1)

  pub set-left : (xs ys : List (K × X)) (w : X) → NonePasses test ys → set_value test (xs ++ ys) w ≡ set_value test xs w ++ ys
  set-left [] ys w none = set-none ys w none
  set-left (x ∷ xs) ys w none = ap (λ zs. cond (test x.0) ((x.0, w) ∷ (xs ++ ys)) (x ∷ zs)) (set-left xs ys w none) ∙ each (test x.0)
    where
      each : (b : Bool) → cond b ((x.0, w) ∷ (xs ++ ys)) (x ∷ (set_value test xs w ++ ys)) ≡ cond b ((x.0, w) ∷ xs) (x ∷ set_value test xs w) ++ ys
      each true = refl
      each false = refl

-- ---- a write changes one name
module _ {K X : Type 0} (same : K → K → Bool) (laws : IsEquivalence same) where
  pub written_through : (k : K) (w : X) (old new : List (K × X)) → new ≡ set_value (same k) old w → WritesThrough same k w old new
  written_through k w old new is = (
    is,
    λ some q. ap (lookup (same q)) is ∙ lookup-set_value laws (same k) (laws.congr k) q w old some,
  )
