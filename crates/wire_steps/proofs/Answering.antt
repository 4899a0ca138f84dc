-- What holds of an answer, where a call answered.
use Rattle.std.specs.Prelude.{Err, IfOk, Ok, Result}

pub if_ok_map : {A E : Type 0} {P Q : A → Type 0} (r : Result A E) → ((a : A) → P a → Q a) → IfOk r P → IfOk r Q
if_ok_map (Ok a) f p = f a p
if_ok_map (Err e) f p = tt
