use Rattle.std.proofs.Common.{◌≡◌, ◌∙◌, ◌++◌, ◌∷◌, ◌+◌, ◌*◌, ◌-◌, ◌<◌, ◌≤◌, [], List, ℕ, ap, append_assoc, arith, cond, length, rules}
use Rattle.hpack_codec.specs.Encoding.{literal}
use Rattle.hpack_codec.proofs.ToldFields.{written_high, written_low}
use Rattle.hpack_codec.proofs.spelling.push_named.Goals as goal
use Rattle.hpack_codec.proofs.spelling.push_named.Goals.{then-index-lt15+in_ok-extend_from_slice, else-index-lt15+in_ok-extend_from_slice-2}

pub returns : goal.returns
returns c =
    let f = c.args.field.now in
    let out = c.args.out.now.items in
    let value = c.as_slice-value.result.now in
    let pattern = c.from-pattern.result in
    let index = c.args.index in
    let p : pattern ≡ cond f.never 1 0 = search rules in
    let short : length f.value < 127 = omega (arith, c.if-len-ge127.false, ap length c.as_slice-value.ensures) in
    let begun : c.if-index-lt15.out.items ++ value ≡ out ++ literal f = elim c.if-index-lt15.branch [
      | then-index-lt15+in_ok-extend_from_slice w ↦
          ap (λ v. v.items ++ value) w.out-is
          ∙ ap (λ xs. xs ++ value) w.in_ok-extend_from_slice.ensures.items
          ∙ append_assoc out ((16 * pattern + index) ∷ length value ∷ []) value
          ∙ ap (λ xs. out ++ xs) (written_low f index pattern value p c.as_slice-value.ensures c.requires.index short w.if-index-lt15.true)
      | else-index-lt15+in_ok-extend_from_slice-2 w ↦
          ap (λ v. v.items ++ value) w.out-is
          ∙ ap (λ xs. xs ++ value) w.in_ok-extend_from_slice-2.ensures.items
          ∙ append_assoc out ((16 * pattern + 15) ∷ (index - 15) ∷ length value ∷ []) value
          ∙ ap (λ xs. out ++ xs) (written_high f index pattern value p c.as_slice-value.ensures c.requires.index short w.if-index-lt15.false c.requires.few)
    ] in
    c.in_ok-extend_from_slice-3.ensures.items ∙ begun
