use Rattle.std.proofs.Common.{◌≡◌, ◌++◌, List, ℕ, codes, length}
use Rattle.std.specs.Prelude.{flat_map}
use Rattle.session_config.specs.Refusals.{string_octet}
use Rattle.session_config.proofs.key.put_string.Given as goal

abbrev pub invariant-loop-octet : goal.invariant-loop-octet
invariant-loop-octet l = record {
  told : (done : List ℕ) × (l.into ≡ l.fn.into ++ (codes "\"" ++ done)) × (flat_map string_octet l.name ≡ done ++ flat_map string_octet l.rest);
}

abbrev pub decreases-loop-octet : goal.decreases-loop-octet
decreases-loop-octet l = length l.rest
