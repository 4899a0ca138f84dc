-- Facts of a result by its outcome.
use Rattle.std.specs.Prelude.{Err, IfOk, IfSome, Ok, OnErr, OnOk, Option, Result, Some, ◌≡◌}
use Rattle.std.proofs.Common.{subst}

module _ {T E : Type 0} where
  -- what follows from either outcome
  pub either : (A B C : Type 0) (r : Result T E) → OnOk r A → OnErr r B → (A → C) → (B → C) → C
  either A B C (Ok x) a b f g = f a
  either A B C (Err e) a b f g = g b

  pub on_ok : (A B : Type 0) (r : Result T E) → OnOk r A → (A → B) → OnOk r B
  on_ok A B (Ok x) a f = f a
  on_ok A B (Err e) a f = tt

  pub on_err : (A B : Type 0) (r : Result T E) → OnErr r A → (A → B) → OnErr r B
  on_err A B (Ok x) a f = tt
  on_err A B (Err e) a f = f a

  pub if_ok : (A : Type 0) (P Q : T → Type 0) (r : Result T E) → OnOk r A → IfOk r P → ((x : T) → A → P x → Q x) → IfOk r Q
  if_ok A P Q (Ok x) a p f = f x a p
  if_ok A P Q (Err e) a p f = tt

-- what is said of what was found
pub at_found : {X : Type 0} (P : X → Type 0) (o : Option X) (x : X) → o ≡ Some x → IfSome o P → P x
at_found P o x is h = subst (λ v. IfSome v P) is h

pub from_found : {X : Type 0} (P : X → Type 0) (o : Option X) (x : X) → o ≡ Some x → P x → IfSome o P
from_found P o x is h = rw is h
