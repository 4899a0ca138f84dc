-- The first of some faults.
use Rattle.std.proofs.Common.{◌≡◌, List, [], ◌∷◌, ◌++◌, Some, Result, Ok, Err, IfOk}
use Rattle.config_tables.specs.Answers.{first, Checks}
use Rattle.config_tables.specs.declared.fault.ConfigFault.{ConfigFault}

-- the first of a part is the first of the whole
pub first_append : {X : Type 0} (xs ys : List X) (x : X) → first xs ≡ Some x → first (xs ++ ys) ≡ Some x
first_append [] ys x h = cc
first_append (y ∷ xs) ys x h = h

-- two parts without faults
pub both_empty : {X : Type 0} (xs ys : List X) → xs ≡ [] → ys ≡ [] → xs ++ ys ≡ []
both_empty xs ys a b = rw (a, b)

-- a part without faults, and the first of the next
pub then_first : {X : Type 0} (xs ys : List X) (x : X) → xs ≡ [] → first ys ≡ Some x → first (xs ++ ys) ≡ Some x
then_first xs ys x a b = rw a b

-- what is left answers, after a part without faults
pub checks_rest : {T : Type 0} (xs ys : List ConfigFault) (r : Result T ConfigFault) → xs ≡ [] → Checks ys r → Checks (xs ++ ys) r
checks_rest xs ys r none rest = rw none rest

-- a fact that holds anyway
pub on_ok_always : {T E P : Type 0} (r : Result T E) → P → IfOk r (λ x. P)
on_ok_always (Ok x) p = p
on_ok_always (Err e) p = tt
