-- The text so far and that of the rest are the whole.
use Rattle.std.proofs.Common.{◌≡◌, ◌++◌, ◌∷◌, length}
use Rattle.hex.specs.Hex.{encode_lower}
use Rattle.flow_notes.proofs.writing.words.push_hex.Given as goal
use Rattle.flow_notes.specs.Extends.{Extends}

abbrev pub invariant-pieces : goal.invariant-pieces
invariant-pieces l = record {
  text : l.into ++ encode_lower l.rest ≡ l.fn.into ++ (32 ∷ encode_lower l.octets);
  kept : Extends l.fn.into l.into;
}

abbrev pub decreases-pieces : goal.decreases-pieces
decreases-pieces l = length l.rest
