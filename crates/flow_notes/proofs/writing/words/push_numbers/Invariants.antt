-- The words so far stand behind the octets from before.
use Rattle.std.proofs.Common.{◌≡◌, ◌++◌, map, take}
use Rattle.std.specs.Fmt.{decimal}
use Rattle.flow_notes.specs.Line.{spaced}
use Rattle.flow_notes.proofs.writing.words.push_numbers.Given as goal

abbrev pub invariant-numbers : goal.invariant-numbers
invariant-numbers l = l.into ≡ l.fn.into ++ spaced (map decimal (take l.n-index l.numbers))
