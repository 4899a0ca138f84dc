-- What std parses, but for what a number never has in front.
use Rattle.std.proofs.Common.{arith, sym, ◌∙◌}
use Rattle.std.proofs.lemmas.Bool.{eqb-true, eqb-false}
use Rattle.flow_notes.proofs.Numbers.{parsed, unparsed, is_text, no_sign, no_zeros, not_empty}
use Rattle.flow_notes.proofs.reading.meaning.digits.Goals as goal

pub returns-then-is_empty-clause-none : goal.returns-then-is_empty-clause-none
returns-then-is_empty-clause-none c n fits e = not_empty n c.args.word.now fits e (eqb-true _ _ (sym c.is_empty.ensures ∙ c.if-is_empty.true))

pub returns-then-word-eq43-clause-none : goal.returns-then-word-eq43-clause-none
returns-then-word-eq43-clause-none c n fits e = no_sign n c.args.word.now fits e c.if-word-eq43.true

pub returns-then-word-gt1-clause-none : goal.returns-then-word-gt1-clause-none
returns-then-word-gt1-clause-none c n fits e = let few = no_zeros n c.args.word.now fits e c.if-word-eq48.true in omega arith

pub returns-in_default-clause-none : goal.returns-in_default-clause-none
returns-in_default-clause-none c n fits e = c.in_default.ensures.cases.0 (is_text n c.args.word.now fits e)

pub returns-clause-some : goal.returns-clause-some
returns-clause-some c =
    let is = c.in-Ok.ensures.cases.0 in
    let some = eqb-false _ _ (sym c.is_empty.ensures ∙ c.if-is_empty.false) in
    parsed c.args.word.now c.ok.result c.parse.result
    (record { some = omega arith; plus = c.if-word-eq43.false; zeros = λ zero. omega arith })
    (rw (sym is) c.parse.ensures.value.0) c.ok.ensures.value

pub returns-clause-none : goal.returns-clause-none
returns-clause-none c = let is = c.in-Ok.ensures.cases.0 in unparsed c.args.word.now c.ok.result c.parse.result (rw (sym is) c.parse.ensures.value.0) c.ok.ensures.value
