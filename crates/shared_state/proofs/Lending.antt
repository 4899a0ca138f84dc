-- What is left in a list after one was taken out.
use Rattle.std.proofs.Common.{◌≡◌, List, [], ◌∷◌, ◌++◌, All, Option, Some, None, MatchOption}
use Rattle.std.proofs.lemmas.List.Elements.{All-nil, All-pop, All-same}

pub left_of : {X : Type 0} (P : X → Type 0) (xs ys : List X) (r : Option X) → MatchOption r ((xs ≡ []) × (ys ≡ [])) (λ x. xs ≡ ys ++ x ∷ []) → All P xs → All P ys
left_of P xs ys None m h = All-same P ys [] m.1 (All-nil P)
left_of P xs ys (Some x) m h = (All-pop P xs ys (Some x) m h).0
