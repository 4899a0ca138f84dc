-- Two cases of a test, and what a test of numbers or flows says.

use Rattle.std.proofs.Common.{arith, refl}
use Rattle.std.proofs.lemmas.Bool.Decides.{nat_tests}
use Rattle.std.specs.Prelude.{Bool, IfSome, None, Option, Some, false, if◌then◌else◌, is_some, option_map, true, ℕ, ◌==◌, ◌≡◌}

pub by_case : {A : Type 0} (b : Bool) → (b ≡ true → A) → (b ≡ false → A) → A
by_case true f g = f refl
by_case false f g = g refl

pub number_is : (a b : ℕ) → (a == b) ≡ true → a ≡ b
number_is a b e = grind (arith, nat_tests)

pub same_number : (x : ℕ) → (x == x) ≡ true
same_number x = grind (arith, nat_tests)

pub differs_back : (a b : ℕ) → (a == b) ≡ false → (b == a) ≡ false
differs_back a b e = grind (arith, nat_tests)

pub not_both : {A : Type 0} (b : Bool) → b ≡ true → b ≡ false → A
not_both true e f = cc
not_both false e f = cc

pub same_branches : {X : Type 0} (b : Bool) (x : X) → (if b then x else x) ≡ x
same_branches true x = refl
same_branches false x = refl

pub some_mapped : {X Y : Type 0} (f : X → Y) (o : Option X) → is_some (option_map f o) ≡ is_some o
some_mapped f None = refl
some_mapped f (Some x) = refl

pub if_mapped : {X Y : Type 0} (P : X → Type 0) (Q : Y → Type 0) (f : X → Y) (o : Option X) → ((x : X) → o ≡ Some x → P x → Q (f x)) → IfSome o P → IfSome (option_map f o) Q
if_mapped P Q f None k is = tt
if_mapped P Q f (Some x) k is = k x refl is

pub if_found : {X : Type 0} (P Q : X → Type 0) (o : Option X) → ((x : X) → o ≡ Some x → P x → Q x) → IfSome o P → IfSome o Q
if_found P Q None k is = tt
if_found P Q (Some x) k is = k x refl is
