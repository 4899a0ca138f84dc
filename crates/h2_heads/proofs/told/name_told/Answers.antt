use Rattle.std.proofs.Common.{◌≡◌, ◌+◌, ◌-◌, ◌%◌, ◌≤◌, ℕ, Some, arith}
use Rattle.h2_heads.specs.declared.pseudo.Pseudo.TheVariants.{Authority, Method, Path, Scheme, Status}
use Rattle.h2_heads.proofs.ToldNames.{authority_named, method_named, path_named, scheme_named, status_named, told_plain, told_pseudo, told_one_of_two}
use Rattle.h2_heads.proofs.told.name_told.Goals as goal

pub returns-in-1 : goal.returns-in-1
returns-in-1 c = λ field told. told_pseudo c.args.told field 0 (Some Authority) told (omega (arith, c.in-1.is)) authority_named

pub returns-in-2 : goal.returns-in-2
returns-in-2 c = λ field told. told_one_of_two c.args.told field 1 (Some Method) told (omega (arith, c.in-2)) (omega (arith, c.in-2)) method_named.0 method_named.1

pub returns-in-4 : goal.returns-in-4
returns-in-4 c = λ field told. told_one_of_two c.args.told field 3 (Some Path) told (omega (arith, c.in-4)) (omega (arith, c.in-4)) path_named.0 path_named.1

pub returns-in-6 : goal.returns-in-6
returns-in-6 c = λ field told. told_one_of_two c.args.told field 5 (Some Scheme) told (omega (arith, c.in-6)) (omega (arith, c.in-6)) scheme_named.0 scheme_named.1

pub returns-in-8-to-14 : goal.returns-in-8-to-14
returns-in-8-to-14 c = λ field told.
    let p = c.args.told % 128 - 8 in
    told_pseudo c.args.told field (7 + p) (Some Status) told (omega (arith, c.in-8-to-14)) (status_named p (omega (arith, c.in-8-to-14)))

pub returns-in-15-to-61 : goal.returns-in-15-to-61
returns-in-15-to-61 c = λ field told.
    told_plain c.args.told field told (omega (arith, c.in-15-to-61)) (omega (arith, c.in-15-to-61)) (λ e. omega (arith, e)) (λ e. omega (arith, e))
