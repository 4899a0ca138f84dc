use Rattle.std.proofs.Common.{ℕ, List, sym, subst, IfOk, IfErr}
use Rattle.std.proofs.lemmas.Result.{IfOk-weaker, IfErr-weaker}
use Rattle.hpack_codec.specs.Integers.{IsInteger, BreaksInteger}
use Rattle.hpack_codec.proofs.IntegerLemmas.{in_prefix, is_full}
use Rattle.hpack_codec.proofs.integers.read_integer.Goals as goal

pub returns-then-low-most-clause-ok : goal.returns-then-low-most-clause-ok
returns-then-low-most-clause-ok c =
    in_prefix c.args.prefix c.in-Some.first.now c.args.octets.now c.in-Some.rest.now c.requires c.in-Some.ensures.cases.0 c.if-low-most.true

pub returns-clause-ok : goal.returns-clause-ok
returns-clause-ok c =
    let first = c.in-Some.first.now in
    let P : List ℕ → Type 0 = λ octets. IfOk c.read_more.result (λ x. IsInteger c.args.prefix octets x.0 x.1.now) in
    subst P (sym c.in-Some.ensures.cases.0) (IfOk-weaker c.read_more.result _ _ (λ x all. all first (is_full c.args.prefix first c.requires c.if-low-most.false)) c.read_more.ensures.ok)

pub returns-clause-err : goal.returns-clause-err
returns-clause-err c =
    let first = c.in-Some.first.now in
    let P : List ℕ → Type 0 = λ octets. IfErr c.read_more.result (λ e. BreaksInteger c.args.prefix octets e) in
    subst P (sym c.in-Some.ensures.cases.0) (IfErr-weaker c.read_more.result _ _ (λ e all. all first (is_full c.args.prefix first c.requires c.if-low-most.false)) c.read_more.ensures.err)
