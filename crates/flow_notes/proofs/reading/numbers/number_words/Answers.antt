-- One number more.
use Rattle.std.proofs.Common.{ap, ◌∙◌, arith, rules}
use Rattle.flow_notes.specs.Split.{words_behind}
use Rattle.flow_notes.proofs.NumberLists.{step_value, step_spelled, step_fits}
use Rattle.flow_notes.proofs.reading.numbers.number_words.Goals as goal

pub words-preserved : goal.words-preserved
words-preserved c =
    let word = c.first_word.result.0.now in
    let next = ap words_behind c.in-Some.is ∙ c.first_word.ensures in
    let more = c.in_ok-push.ensures.items in
    record {
      value = step_value c.words.numbers.items _ c.in-Some-u32_word.n word _ _ _ more (search rules) next c.words.invariant.value;
      spelled = step_spelled c.words.numbers.items _ c.in-Some-u32_word.n word _ _ _ more c.in-Some-u32_word.ensures.spelled next c.words.invariant.spelled;
      fits = step_fits c.words.numbers.items _ c.in-Some-u32_word.n more c.words.invariant.fits (omega arith);
    }
