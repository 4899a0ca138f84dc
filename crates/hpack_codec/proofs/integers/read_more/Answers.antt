use Rattle.std.proofs.Common.{◌≡◌, ◌+◌, ◌*◌, ◌%◌, ◌^◌, ℕ, List, refl, arith, sym, subst, bit_and, get_or, ◌∷◌}
use Rattle.hpack_codec.specs.Integers.{full, IsInteger}
use Rattle.hpack_codec.proofs.IntegerLemmas.{ReadsOn, ends_early, ends_here, passes, reads_one_more, goes_on, begun}
use Rattle.hpack_codec.proofs.integers.read_more.Goals as goal

reads_from : (octets : List ℕ) (most n value prefix : ℕ) → most ≡ full prefix → ReadsOn octets most n value → ReadsOn octets (full prefix) n value
reads_from octets most n value prefix is r = let P : ℕ → Type 0 = λ m. ReadsOn octets m n value in subst P is r

pub octets-init : goal.octets-init
octets-init c =
    let P : ℕ → Type 0 = λ m. ReadsOn c.args.octets.now m 0 m in
    subst P (sym c.requires.most) (begun c.args.octets.now c.args.prefix c.requires.prefix)

pub returns-then-n-octets-clause-err : goal.returns-then-n-octets-clause-err
returns-then-n-octets-clause-err c = λ first is.
    ends_early c.args.prefix first c.octets.n c.octets.value c.args.octets.now (omega arith) (omega arith) is (reads_from _ _ _ _ _ c.requires.most c.octets.invariant)

pub returns-then-value-clause-err : goal.returns-then-value-clause-err
returns-then-value-clause-err c = λ first is.
    passes c.args.prefix first c.octets.n c.octets.value _ c.args.octets.now (omega arith) (omega (arith, c.octets.invariant.here)) is (reads_from _ _ _ _ _ c.requires.most c.octets.invariant) refl (omega arith)

pub octets-preserved : goal.octets-preserved
octets-preserved c =
    reads_one_more c.args.most c.octets.n c.octets.value _ c.args.octets.now (omega arith) (omega (arith, c.octets.invariant.here)) c.octets.invariant refl (omega arith) (omega arith)

pub returns-clause-err : goal.returns-clause-err
returns-clause-err c = λ first is.
    let P : ℕ → Type 0 = λ n. ReadsOn c.args.octets.now c.args.most n c.octets.value in
    let five : c.octets.n ≡ 5 = omega arith in
    goes_on c.args.prefix first c.octets.value c.args.octets.now is (reads_from _ _ _ _ _ c.requires.most (subst P five c.octets.invariant))

pub returns-then-octet-lt128-clause-ok : goal.returns-then-octet-lt128-clause-ok
returns-then-octet-lt128-clause-ok c = λ first is.
    let P : List ℕ → Type 0 = λ rest. IsInteger c.args.prefix (first ∷ c.args.octets.now) (c.octets.value + bit_and (get_or c.args.octets.now c.octets.n 0) 127 * (1 * 2 ^ (7 * c.octets.n) % 2 ^ 64)) rest in
    subst P (sym c.split_at.ensures.back) (ends_here c.args.prefix first c.octets.n c.octets.value _ c.args.octets.now (omega arith) (omega (arith, c.octets.invariant.here)) is (reads_from _ _ _ _ _ c.requires.most c.octets.invariant) refl (omega arith) c.if-octet-lt128.true)
