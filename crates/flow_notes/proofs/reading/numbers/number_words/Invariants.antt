-- The numbers so far stand in front of those of the words that are left.
use Rattle.std.proofs.Common.{◌≡◌, ◌++◌, map, length}
use Rattle.std.specs.Fmt.{decimal}
use Rattle.std.specs.List.{AllByRecursion}
use Rattle.flow_notes.specs.Fields.{Fits32}
use Rattle.flow_notes.specs.Meaning.{numbers_of}
use Rattle.flow_notes.specs.Split.{words_behind}
use Rattle.flow_notes.proofs.NumberLists.{with_front}
use Rattle.flow_notes.proofs.reading.numbers.number_words.Given as goal

abbrev pub invariant-words : goal.invariant-words
invariant-words l = record {
  value : with_front l.numbers.items (numbers_of (words_behind l.left)) ≡ numbers_of (words_behind l.fn.words);
  spelled : map decimal l.numbers.items ++ words_behind l.left ≡ words_behind l.fn.words;
  fits : AllByRecursion Fits32 l.numbers.items;
}

abbrev pub decreases-words : goal.decreases-words
decreases-words l = length (words_behind l.left)
