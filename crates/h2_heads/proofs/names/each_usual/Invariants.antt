use Rattle.std.proofs.Common.{◌≡◌, take}
use Rattle.std.specs.List.{list_all}
use Rattle.h2_heads.specs.Passes.{is_usual}
use Rattle.h2_heads.proofs.names.each_usual.Given as goal

abbrev pub invariant-loop-octet : goal.invariant-loop-octet
invariant-loop-octet l = l.usual ≡ list_all is_usual (take l.octet-index l.octets)
