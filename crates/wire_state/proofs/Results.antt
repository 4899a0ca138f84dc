-- What holds where a call answered, and nothing is said where memory was refused.
use Rattle.std.specs.Prelude.{Err, Ok, OnOk, Result}

pub ok_map : {A E P Q : Type 0} (r : Result A E) → (P → Q) → OnOk r P → OnOk r Q
ok_map (Ok a) f p = f p
ok_map (Err e) f p = tt

pub on_ok : {A E P : Type 0} (r : Result A E) → P → OnOk r P
on_ok (Ok a) p = p
on_ok (Err e) p = tt
