-- What was received is a front of the body that came.
use Rattle.std.specs.Prelude.{List, length, take, ℕ, ◌≡◌}
use Rattle.tape_laws.specs.History.{History}
use Rattle.tape_laws.specs.Setup.{Setup}
use Rattle.tape_laws.specs.Sources.{EachLive}
use Rattle.tape_laws.specs.World.{received}

-- xs is a front of ys
abbrev pub IsFront : List ℕ → List ℕ → Type 0
IsFront xs ys = take (length xs) ys ≡ xs

abbrev pub IsTied : {Mark : Type 0} → Setup Mark → History Mark → Type 0
IsTied setup past = EachLive setup (λ f. IsFront (received f past) (setup.body f past)) past
