-- The numbers of a line are read, and no others.
use Rattle.std.proofs.Common.{◌≡◌, ◌++◌, ◌-◌, [], Some, None, length, take, drop, sym, ◌∙◌}
use Rattle.std.proofs.lemmas.Bool.{eqb-true, eqb-false}
use Rattle.std.proofs.lemmas.Bool.Decides.{Decides-eqb}
use Rattle.std.proofs.lemmas.Slice.Eq.{strip_prefix_is}
use Rattle.flow_notes.specs.Split.{words_in}
use Rattle.flow_notes.proofs.NumberLines.{cut_none, cut_some, numbers_some, numbers_only, numbers_none, other_front, no_keyword}
use Rattle.flow_notes.proofs.reading.numbers.read_numbers.Goals as goal

pub returns-in_default-clause-none : goal.returns-in_default-clause-none
returns-in_default-clause-none c ms fit spelled =
    no_keyword c.args.keyword.now c.args.line.now (strip_prefix_is Decides-eqb c.args.line.now c.args.keyword.now None c.in_default.ensures.cases) ms spelled

pub returns-then-is_empty-clause-some : goal.returns-then-is_empty-clause-some
returns-then-is_empty-clause-some c =
    let front : c.args.line.now ≡ c.args.keyword.now ++ c.in-Some.behind.now = strip_prefix_is Decides-eqb c.args.line.now c.args.keyword.now (Some c.in-Some.behind) c.in-Some.ensures.cases in
    let cut = cut_none c.args.keyword.now c.args.line.now c.in-Some.behind.now front (eqb-true _ _ (sym c.is_empty.ensures ∙ c.if-is_empty.true)) in
    numbers_some (λ v. v.items) c.args.keyword.now c.args.line.now [] c.number_words.result cut c.number_words.ensures.spelled

pub returns-then-is_empty-clause-only : goal.returns-then-is_empty-clause-only
returns-then-is_empty-clause-only c =
    let front : c.args.line.now ≡ c.args.keyword.now ++ c.in-Some.behind.now = strip_prefix_is Decides-eqb c.args.line.now c.args.keyword.now (Some c.in-Some.behind) c.in-Some.ensures.cases in
    let cut = cut_none c.args.keyword.now c.args.line.now c.in-Some.behind.now front (eqb-true _ _ (sym c.is_empty.ensures ∙ c.if-is_empty.true)) in
    numbers_only (λ v. v.items) c.args.keyword.now c.args.line.now [] c.number_words.result cut c.number_words.ensures.value

pub returns-then-is_empty-clause-none : goal.returns-then-is_empty-clause-none
returns-then-is_empty-clause-none c =
    let front : c.args.line.now ≡ c.args.keyword.now ++ c.in-Some.behind.now = strip_prefix_is Decides-eqb c.args.line.now c.args.keyword.now (Some c.in-Some.behind) c.in-Some.ensures.cases in
    let cut = cut_none c.args.keyword.now c.args.line.now c.in-Some.behind.now front (eqb-true _ _ (sym c.is_empty.ensures ∙ c.if-is_empty.true)) in
    numbers_none (λ v. v.items) c.args.keyword.now c.args.line.now [] c.number_words.result cut c.number_words.ensures.value

pub returns-then-behind-ne32-clause-none : goal.returns-then-behind-ne32-clause-none
returns-then-behind-ne32-clause-none c ms fit spelled =
    let front : c.args.line.now ≡ c.args.keyword.now ++ c.in-Some.behind.now = strip_prefix_is Decides-eqb c.args.line.now c.args.keyword.now (Some c.in-Some.behind) c.in-Some.ensures.cases in
    let some = eqb-false _ _ (sym c.is_empty.ensures ∙ c.if-is_empty.false) in
    other_front c.args.keyword.now c.args.line.now c.in-Some.behind.now front some c.if-behind-ne32.true ms spelled

pub returns-clause-some : goal.returns-clause-some
returns-clause-some c =
    let behind = c.in-Some.behind.now in
    let front : c.args.line.now ≡ c.args.keyword.now ++ behind = strip_prefix_is Decides-eqb c.args.line.now c.args.keyword.now (Some c.in-Some.behind) c.in-Some.ensures.cases in
    let cut = cut_some c.args.keyword.now c.args.line.now behind front (eqb-false _ _ (sym c.is_empty.ensures ∙ c.if-is_empty.false)) c.if-behind-ne32.false in
    numbers_some (λ v. v.items) c.args.keyword.now c.args.line.now (words_in (take (length behind - 1) (drop 1 behind))) c.number_words-2.result cut c.number_words-2.ensures.spelled

pub returns-clause-only : goal.returns-clause-only
returns-clause-only c =
    let behind = c.in-Some.behind.now in
    let front : c.args.line.now ≡ c.args.keyword.now ++ behind = strip_prefix_is Decides-eqb c.args.line.now c.args.keyword.now (Some c.in-Some.behind) c.in-Some.ensures.cases in
    let cut = cut_some c.args.keyword.now c.args.line.now behind front (eqb-false _ _ (sym c.is_empty.ensures ∙ c.if-is_empty.false)) c.if-behind-ne32.false in
    numbers_only (λ v. v.items) c.args.keyword.now c.args.line.now (words_in (take (length behind - 1) (drop 1 behind))) c.number_words-2.result cut c.number_words-2.ensures.value

pub returns-clause-none : goal.returns-clause-none
returns-clause-none c =
    let behind = c.in-Some.behind.now in
    let front : c.args.line.now ≡ c.args.keyword.now ++ behind = strip_prefix_is Decides-eqb c.args.line.now c.args.keyword.now (Some c.in-Some.behind) c.in-Some.ensures.cases in
    let cut = cut_some c.args.keyword.now c.args.line.now behind front (eqb-false _ _ (sym c.is_empty.ensures ∙ c.if-is_empty.false)) c.if-behind-ne32.false in
    numbers_none (λ v. v.items) c.args.keyword.now c.args.line.now (words_in (take (length behind - 1) (drop 1 behind))) c.number_words-2.result cut c.number_words-2.ensures.value
