-- All words stand behind the first.
use Rattle.std.proofs.Common.{◌≡◌, ◌++◌, ℕ, List, take, sym, ap, ◌∙◌, arith}
use Rattle.std.specs.List.{flat_map}
use Rattle.std.proofs.lemmas.List.{take_all}
use Rattle.flow_notes.specs.Line.{spaced}
use Rattle.flow_notes.specs.Word.{words_of}
use Rattle.flow_notes.specs.declared.writing.words.Word.{Word}
use Rattle.flow_notes.proofs.Lines.{line_of_cons}
use Rattle.flow_notes.proofs.writing.push_words.Goals as goal

pub returns-clause-ok : goal.returns-clause-ok
returns-clause-ok c =
    let first = c.args.first.now in
    let words = c.args.words.now in
    let all : take c.words.word-index words ≡ words = take_all _ words (omega arith) in
    c.words.invariant ∙ ap (λ (some : List Word). c.args.into.now ++ (first ++ spaced (flat_map words_of some))) all
    ∙ ap (λ (text : List ℕ). c.args.into.now ++ text) (sym (line_of_cons first (flat_map words_of words)))
