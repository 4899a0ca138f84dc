-- A line behind the word has words.
use Rattle.std.proofs.Common.{◌∷◌, ap, ◌∙◌}
use Rattle.flow_notes.specs.Split.{one_of, words_behind}
use Rattle.flow_notes.proofs.Splitting.{not_one}
use Rattle.flow_notes.proofs.reading.split.one_word.Goals as goal

pub returns-in-Some-clause-value : goal.returns-in-Some-clause-value
returns-in-Some-clause-value c =
    ap (λ words. one_of (words_behind words)) c.in_ok-words.was ∙ ap one_of c.first_word.ensures ∙ ap (λ rest. one_of (c.first_word.result.0.now ∷ words_behind rest)) c.in-Some.is ∙ not_one _ _
