-- Twenty digits and a space fit in front of the end.
use Rattle.std.proofs.Common.{◌≡◌, ◌-◌, ◌+◌, ◌<◌, ◌≤◌, ◌^◌, ◌∷◌, ℕ, length, drop, arith, ap, ◌∙◌}
use Rattle.std.specs.Fmt.{decimal}
use Rattle.std.proofs.lemmas.Fmt.{length-decimal-le}
use Rattle.std.proofs.lemmas.List.{drop-set}
use Rattle.flow_notes.proofs.writing.words.write_number.Goals as goal

short : (n : ℕ) → n < 2 ^ 64 → length (decimal n) ≤ 20
short n fits = length-decimal-le 20 n (omega arith) (omega arith) fits

pub write_digits-digits-requires : goal.write_digits-digits-requires
write_digits-digits-requires c = let few = short c.args.n c.ranges.n.fits in (omega arith, omega arith)

pub overflow_sub-text : goal.overflow_sub-text
overflow_sub-text c = let few = short c.args.n c.ranges.n.fits in omega arith

pub overflow_sub-result : goal.overflow_sub-result
overflow_sub-result c = let few = short c.args.n c.ranges.n.fits in omega arith

pub returns-clause-written : goal.returns-clause-written
returns-clause-written c =
    let few = short c.args.n c.ranges.n.fits in
    let start = c.write_digits-digits.result in
    let back : start - 1 + 1 ≡ start = omega arith in
    drop-set c.write_digits-digits.new.buf (start - 1) 32 (omega arith)
    ∙ ap (λ k. 32 ∷ drop k c.write_digits-digits.new.buf) back ∙ ap (λ text. 32 ∷ text) c.write_digits-digits.ensures.written
