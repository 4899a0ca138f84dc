-- Hex text has an even length and digits alone.
use Rattle.std.proofs.Common.{◌≡◌, ◌++◌, length, take, drop, true, false, true≢false, sym, subst, ap, ◌∙◌, arith, rules}
use Rattle.std.specs.List.{list_all}
use Rattle.std.proofs.lemmas.Bool.{eqb-true, eqb-false}
use Rattle.std.proofs.Math.Seq.{take-append_seam}
use Rattle.hex.specs.Hex.{IsBytes, encode_lower}
use Rattle.flow_notes.specs.Digits.{is_digit}
use Rattle.flow_notes.proofs.Octets.{octets_is, octets_isnt, hex_length, hex_digits}
use Rattle.flow_notes.proofs.reading.octets.octets_word.Goals as goal

pub returns-then-is_empty-clause-value : goal.returns-then-is_empty-clause-value
returns-then-is_empty-clause-value c =
    let none : length c.args.word.now ≡ 0 = eqb-true _ _ (sym c.is_empty.ensures ∙ c.if-is_empty.true) in
    sym (octets_isnt c.args.word.now (λ octets bytes same some. omega (arith, hex_length c.args.word.now octets same)))

pub returns-then-word-ne0-clause-value : goal.returns-then-word-ne0-clause-value
returns-then-word-ne0-clause-value c = sym (octets_isnt c.args.word.now (λ octets bytes same some. let long = hex_length c.args.word.now octets same in c.if-word-ne0.true (omega arith)))

pub returns-then-not-decode-clause-value : goal.returns-then-not-decode-clause-value
returns-then-not-decode-clause-value c = sym (octets_isnt c.args.word.now (λ octets bytes same some.
    let all : list_all is_digit c.args.word.now ≡ true = ap (list_all is_digit) (sym same) ∙ hex_digits octets bytes in
    let not_all : c.decode.result ≡ false = search rules in
    absurd (true≢false (sym all ∙ sym c.decode.ensures.digits ∙ not_all))))

pub returns-clause-value : goal.returns-clause-value
returns-clause-value c =
    let some = eqb-false _ _ (sym c.is_empty.ensures ∙ c.if-is_empty.false) in
    let new = c.decode.new.into in
    let tail = drop (length new) c.in_ok-octets.octets.items in
    let long : c.in_ok-octets.octets.len ≡ length new = omega (arith, c.decode.ensures.len, c.as_mut_slice.ensures.len) in
    let items : c.from_vec.result ≡ new = c.from_vec.ensures ∙ ap (λ n. take n (new ++ tail)) long ∙ take-append_seam new tail in
    let digits : c.decode.result ≡ true = search rules in
    let same : encode_lower c.from_vec.result ≡ c.args.word.now = ap encode_lower items ∙ c.decode.ensures.octets digits in
    let bytes : IsBytes c.from_vec.result = subst IsBytes (sym items) c.decode.ensures.bytes in
    sym (octets_is c.args.word.now c.from_vec.result same bytes (omega (arith, hex_length c.args.word.now c.from_vec.result same)))
