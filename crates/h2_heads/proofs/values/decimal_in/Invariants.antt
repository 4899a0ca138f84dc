use Rattle.std.proofs.Common.{◌≡◌, ◌<◌, ◌^◌, take, true}
use Rattle.std.specs.List.{list_all}
use Rattle.h2_heads.specs.Numbers.{decimal, is_digit}
use Rattle.h2_heads.proofs.values.decimal_in.Given as goal

abbrev pub invariant-loop-octet : goal.invariant-loop-octet
invariant-loop-octet l =
    (list_all is_digit (take l.octet-index l.value) ≡ true) × (l.n ≡ decimal (take l.octet-index l.value)) × (l.n < 2 ^ 63)
