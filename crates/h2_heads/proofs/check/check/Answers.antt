use Rattle.std.proofs.Common.{List, None, Option, Some, ℕ, ◌≡◌, ◌∙◌, ap, arith, below_more, codes, refl, subst, sym, take, true}
use Rattle.std.proofs.lemmas.List.{length-take-le}
use Rattle.std.specs.Option.{IfSome, option_copied, option_or}
use Rattle.std.specs.Prelude.{if◌then◌else◌}
use Rattle.h2_heads.specs.Named.{is_named}
use Rattle.h2_heads.specs.Numbers.{is_length}
use Rattle.h2_heads.specs.declared.pseudo.Pseudo.TheVariants.{Authority, Path}
use Rattle.h2_heads.proofs.Faults.{all_sound, fault_at_field, first_fault, first_missing, malformed_at, malformed_at_end, not_malformed}
use Rattle.h2_heads.proofs.FirstLengths.{first_good, good_length}
use Rattle.h2_heads.proofs.FirstValues.{more_fields, value_of_more}
use Rattle.h2_heads.proofs.Fronts.{lacks_is, same_front, whole_front}
use Rattle.h2_heads.proofs.check.check.Goals as goal

pub loop-place-init : goal.loop-place-init
loop-place-init c = (λ k h. absurd (omega arith), refl, tt, c.new-front.ensures)

pub returns-in-Some-clause-fault : goal.returns-in-Some-clause-fault
returns-in-Some-clause-fault c =
    let told = rw c.in-Some.is at c.take.ensures in
    let there = fault_at_field c.args.message c.args.fields.now c.loop-place.place c.index-fields-place.result c.loop-place-test.true c.index-fields-place.is in
    first_fault _ c.loop-place.place _ c.in-Some.kind c.loop-place.invariant.0 (there ∙ told.0.each _ c.loop-place.invariant.3 c.loop-place.invariant.1) c.at.ensures.place c.at.ensures.kind

pub returns-in-Some-clause-malformed : goal.returns-in-Some-clause-malformed
returns-in-Some-clause-malformed c =
    let told = rw c.in-Some.is at c.take.ensures in
    let there = fault_at_field c.args.message c.args.fields.now c.loop-place.place c.index-fields-place.result c.loop-place-test.true c.index-fields-place.is in
    sym (malformed_at c.args.message c.args.fields.now c.loop-place.place c.in-Some.kind (omega arith) (there ∙ told.0.each _ c.loop-place.invariant.3 c.loop-place.invariant.1))

pub loop-place-preserved : goal.loop-place-preserved
loop-place-preserved c =
    let told = rw c.in_default.is at c.take.ensures in
    let so_far = length-take-le c.loop-place.place c.args.fields.now (omega arith) in
    let there = fault_at_field c.args.message c.args.fields.now c.loop-place.place c.index-fields-place.result c.loop-place-test.true c.index-fields-place.is in
    let more = value_of_more (codes "content-length") c.args.fields.now c.loop-place.place c.index-fields-place.result c.loop-place-test.true c.index-fields-place.is in
    let next = if is_named (codes "content-length") c.index-fields-place.result then Some c.index-fields-place.result.value else None in
    let joined = ap (λ (first : Option (List ℕ)). option_or first next) c.loop-place.invariant.1 in
    let none = told.0.each _ c.loop-place.invariant.3 c.loop-place.invariant.1 in
    let kept = good_length c.args.message (take c.loop-place.place c.args.fields.now) c.index-fields-place.result (option_copied c.loop-place.length) none c.loop-place.invariant.1 in
    let first = first_good (option_copied c.loop-place.length) c.index-fields-place.result kept c.loop-place.invariant.2 in
    let longer = more_fields c.args.fields.now c.loop-place.place c.index-fields-place.result c.loop-place-test.true c.index-fields-place.is in (
      below_more _ _ c.loop-place.invariant.0 (there ∙ none),
      c.first_length-length.ensures ∙ joined ∙ sym more,
      subst (λ (o : Option (List ℕ)). IfSome o (λ v. is_length v ≡ true)) (sym c.first_length-length.ensures) first,
      same_front _ _ _ longer (told.1.each _ c.loop-place.invariant.3 so_far),
    )

pub returns-then-lacks-clause-fault : goal.returns-then-lacks-clause-fault
returns-then-lacks-clause-fault c =
    let whole = whole_front c.loop-place.front c.args.fields.now c.loop-place.place c.loop-place.invariant.3 c.loop-place-test.false in
    let lacking = sym (lacks_is c.args.message c.loop-place.front c.args.fields.now whole) ∙ sym c.lacks.ensures ∙ c.if-lacks.true in
    first_missing c.args.message c.args.fields.now c.loop-place.place _ c.loop-place.invariant.0 c.loop-place-test.false lacking c.at-then-lacks.ensures.place c.at-then-lacks.ensures.kind

pub returns-then-lacks-clause-malformed : goal.returns-then-lacks-clause-malformed
returns-then-lacks-clause-malformed c =
    let whole = whole_front c.loop-place.front c.args.fields.now c.loop-place.place c.loop-place.invariant.3 c.loop-place-test.false in
    sym (malformed_at_end c.args.message c.args.fields.now (sym (lacks_is c.args.message c.loop-place.front c.args.fields.now whole) ∙ sym c.lacks.ensures ∙ c.if-lacks.true))

pub returns-clause-sound : goal.returns-clause-sound
returns-clause-sound c =
    let whole = whole_front c.loop-place.front c.args.fields.now c.loop-place.place c.loop-place.invariant.3 c.loop-place-test.false in
    all_sound c.args.message c.args.fields.now c.loop-place.place c.loop-place.invariant.0 c.loop-place-test.false (sym (lacks_is c.args.message c.loop-place.front c.args.fields.now whole) ∙ sym c.lacks.ensures ∙ c.if-lacks.false)

pub returns-clause-authority : goal.returns-clause-authority
returns-clause-authority c =
    let whole = whole_front c.loop-place.front c.args.fields.now c.loop-place.place c.loop-place.invariant.3 c.loop-place-test.false in
    c.place_of.ensures ∙ whole.places Authority

pub returns-clause-path : goal.returns-clause-path
returns-clause-path c =
    let whole = whole_front c.loop-place.front c.args.fields.now c.loop-place.place c.loop-place.invariant.3 c.loop-place-test.false in
    c.place_of-2.ensures ∙ whole.places Path

pub returns-clause-malformed : goal.returns-clause-malformed
returns-clause-malformed c =
    let whole = whole_front c.loop-place.front c.args.fields.now c.loop-place.place c.loop-place.invariant.3 c.loop-place-test.false in
    sym (not_malformed c.args.message c.args.fields.now (all_sound c.args.message c.args.fields.now c.loop-place.place c.loop-place.invariant.0 c.loop-place-test.false (sym (lacks_is c.args.message c.loop-place.front c.args.fields.now whole) ∙ sym c.lacks.ensures ∙ c.if-lacks.false)))

pub length_named-requires : goal.length_named-requires
length_named-requires c value is =
    subst (λ (first : Option (List ℕ)). IfSome first (λ v. is_length v ≡ true)) is c.loop-place.invariant.2
