use Rattle.std.proofs.Common.{◌≡◌, ◌≤◌, ℕ, arith, rules, subst, sym}
use Rattle.std.proofs.lemmas.Bool.{eqb-true}
use Rattle.hpack_codec.specs.Told.{IsBareAt}
use Rattle.hpack_codec.proofs.ToldFields.{first_bare, high_bare}
use Rattle.hpack_codec.proofs.told.is_bare.Goals as goal

pub returns-then-index-eq1 : goal.returns-then-index-eq1
returns-then-index-eq1 c = λ one. subst IsBareAt (sym (eqb-true _ _ one)) first_bare

pub returns-else-index-eq1 : goal.returns-else-index-eq1
returns-else-index-eq1 c = λ among.
    let least : 17 ≤ c.args.index = search rules in
    let most : c.args.index ≤ 61 = search rules in
    high_bare c.args.index least most
