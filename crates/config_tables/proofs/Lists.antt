-- Lists of values and the strings in them.
use Rattle.std.proofs.Common.{◌≡◌, Bool, true, ◌&&◌, List, [], ◌∷◌, length, map, Option, Some, None, suc, refl, ap, ℕ}
use Rattle.std.proofs.lemmas.Bool.{false≢true}
use Rattle.std.specs.List.{list_all, filter_map, cons_option}
use Rattle.std.specs.Option.{is_some}
use Rattle.toml.specs.Data.{Data}
use Rattle.toml.specs.View.{items_of}
use Rattle.config_tables.specs.Values.{list_of}

pub list_of-items_of : (ds : List Data) → list_of (items_of ds) ≡ ds
list_of-items_of [] = refl
list_of-items_of (d ∷ ds) = ap (λ es. d ∷ es) (list_of-items_of ds)

one_more : {B : Type 0} (o : Option B) (all : Bool) (ys : List B) (n : ℕ) → (is_some o && all) ≡ true → (all ≡ true → length ys ≡ n) → length (cons_option o ys) ≡ suc n
one_more None all ys n h rest = absurd (false≢true h)
one_more (Some y) all ys n h rest = ap suc (rest h)

-- nothing is left out where each element gives something
pub length-filter_map : {A B : Type 0} (f : A → Option B) (xs : List A) → list_all (λ x. is_some (f x)) xs ≡ true → length (filter_map f xs) ≡ length xs
length-filter_map f [] h = refl
length-filter_map f (x ∷ xs) h = one_more (f x) _ _ _ h (length-filter_map f xs)

pub length-map : {A B : Type 0} (f : A → B) (xs : List A) → length (map f xs) ≡ length xs
length-map f [] = refl
length-map f (x ∷ xs) = ap suc (length-map f xs)
