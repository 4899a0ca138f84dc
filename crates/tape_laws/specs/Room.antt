-- Which octets leave a write buffer for a room event.
use Rattle.std.specs.Prelude.{List, [], if◌then◌else◌, length, min, nat_lt, ℕ, ◌∷◌}
use Rattle.tape_laws.specs.History.{History}
use Rattle.tape_laws.specs.Setup.{Setup}
use Rattle.tape_laws.specs.Units.{Demand, WantsOut}
use Rattle.tape_laws.specs.World.{out}

-- as many octets leave the connection as there are and as fit
abbrev pub leaving : {Mark : Type 0} → Setup Mark → ℕ → ℕ → History Mark → ℕ
leaving setup c n past = min n (length (out setup c past))

-- that is asked for where it is at least one octet
abbrev pub room_demand : {Mark : Type 0} → Setup Mark → ℕ → ℕ → History Mark → List Demand
room_demand setup c n past =
    if nat_lt 0 (leaving setup c n past) then WantsOut c (leaving setup c n past) ∷ [] else []
