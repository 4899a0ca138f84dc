-- The words so far stand behind the first.
use Rattle.std.proofs.Common.{◌≡◌, ◌++◌, take}
use Rattle.std.specs.List.{flat_map}
use Rattle.flow_notes.specs.Line.{spaced}
use Rattle.flow_notes.specs.Word.{words_of}
use Rattle.flow_notes.proofs.writing.push_words.Given as goal

abbrev pub invariant-words : goal.invariant-words
invariant-words l = l.into ≡ l.fn.into ++ (l.first ++ spaced (flat_map words_of (take l.word-index l.words)))
