-- What follows from the clauses of a result, whichever it is.
use Rattle.std.specs.Prelude.{Result, Ok, Err, OnOk, OnErr}

pub either_way : {T E P Q Z : Type 0} (r : Result T E) → OnOk r P → OnErr r Q → (P → Z) → (Q → Z) → Z
either_way (Ok x) p q f g = f p
either_way (Err e) p q f g = g q

pub both_ok : {T E P Q Z : Type 0} (r : Result T E) → OnOk r P → OnOk r Q → (P → Q → Z) → OnOk r Z
both_ok (Ok x) p q f = f p q
both_ok (Err e) p q f = tt
