use Rattle.std.proofs.Common.{List, None, Option, Some, ℕ, ◌≡◌, ◌∙◌, ap, below_more, codes, sym, subst, true}
use Rattle.std.specs.Option.{IfSome, option_copied, option_or}
use Rattle.std.specs.Prelude.{if◌then◌else◌}
use Rattle.hpack_codec.specs.declared.fields.Field.{Field}
use Rattle.h2_heads.specs.Malformed.{IsSound, length_fault_at}
use Rattle.h2_heads.specs.Named.{is_named}
use Rattle.h2_heads.specs.Numbers.{is_length}
use Rattle.h2_heads.proofs.FirstLengths.{all_lengths_sound, first_good, no_length_fault}
use Rattle.h2_heads.proofs.FirstValues.{value_of_more}
use Rattle.h2_heads.proofs.lengths.content_length.Goals as goal

pub loop-place-preserved : goal.loop-place-preserved
loop-place-preserved c =
    let good = sym c.is_bad_length.ensures ∙ c.if-is_bad_length.false in
    let none = no_length_fault c.as_slice-list.result.now c.loop-place.place c.index-list-place.result (option_copied c.loop-place.length) c.loop-place-test.true c.index-list-place.is c.loop-place.invariant.1 good in
    let more = value_of_more (codes "content-length") c.as_slice-list.result.now c.loop-place.place c.index-list-place.result c.loop-place-test.true c.index-list-place.is in
    let next = if is_named (codes "content-length") c.index-list-place.result then Some c.index-list-place.result.value else None in
    let joined = ap (λ (first : Option (List ℕ)). option_or first next) c.loop-place.invariant.1 in
    let first = first_good (option_copied c.loop-place.length) c.index-list-place.result good c.loop-place.invariant.2 in (
      below_more _ _ c.loop-place.invariant.0 none,
      c.first_length-length.ensures ∙ joined ∙ sym more,
      subst (λ (o : Option (List ℕ)). IfSome o (λ v. is_length v ≡ true)) (sym c.first_length-length.ensures) first,
    )

pub returns-clause-sound : goal.returns-clause-sound
returns-clause-sound c =
    subst (λ (fields : List Field). IsSound (length_fault_at fields)) c.as_slice-list.ensures
    (all_lengths_sound c.as_slice-list.result.now c.loop-place.place c.loop-place.invariant.0 c.loop-place-test.false)
