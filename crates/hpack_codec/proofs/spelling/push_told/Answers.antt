use Rattle.std.proofs.Common.{◌≡◌, ◌∙◌, ◌++◌, List, Some, ℕ, ap, arith, sym, subst}
use Rattle.std.proofs.lemmas.Result.{IfOk-weaker}
use Rattle.hpack_codec.proofs.ToldFields.{indexes_name, named_below, spells_literal, spells_whole}
use Rattle.hpack_codec.proofs.spelling.push_told.Goals as goal

pub returns-then-told-gt128 : goal.returns-then-told-gt128
returns-then-told-gt128 c =
    c.in_ok-push.ensures.items ∙ ap (λ xs. c.args.out.now.items ++ xs) (sym (spells_whole c.args.field.now c.args.told c.requires.told (omega (arith, c.if-told-gt128.true))))

pub push_named-requires-clause-index : goal.push_named-requires-clause-index
push_named-requires-clause-index c =
    indexes_name c.args.field.now c.args.told c.requires.told (omega (arith, c.if-told-gt0.true)) (omega (arith, c.if-told-gt128.false))

pub returns-then-told-gt0 : goal.returns-then-told-gt0
returns-then-told-gt0 c =
    IfOk-weaker c.push_named.result _ _ (λ _ same. same ∙ ap (λ xs. c.args.out.now.items ++ xs) (sym (spells_literal c.args.field.now c.args.told c.requires.told (omega (arith, c.if-told-gt0.true)) (omega (arith, c.if-told-gt128.false))))) c.push_named.ensures

pub push_named-requires-clause-few : goal.push_named-requires-clause-few
push_named-requires-clause-few c =
    omega (arith, named_below c.args.field.now c.args.told c.requires.told (omega (arith, c.if-told-gt0.true)) (omega (arith, c.if-told-gt128.false)))
