use Rattle.std.proofs.Common.{◌∙◌, ◌++◌, ◌∷◌, ◌+◌, ◌-◌, ◌*◌, ◌%◌, ◌^◌, [], ap, sym, arith, append_assoc}
use Rattle.std.proofs.lemmas.Nat.{one_shl}
use Rattle.std.proofs.lemmas.Result.{IfOk-weaker}
use Rattle.hpack_codec.specs.Encoding.{varint}
use Rattle.hpack_codec.proofs.Spellings.{high_is, integer-short, integer_is}
use Rattle.hpack_codec.proofs.spelling.push_integer.Goals as goal

pub returns-then-n-full : goal.returns-then-n-full
returns-then-n-full c =
    let p = c.args.prefix in
    let one = one_shl p 32 (omega arith) in
    c.in_ok-push.ensures.items
    ∙ ap (λ x. c.args.out.now.items ++ x)
    (ap (λ h. (h + c.args.n) ∷ []) (high_is p c.args.pattern c.requires.prefix) ∙ sym (integer-short p c.args.pattern c.args.n (omega arith)))

pub returns : goal.returns
returns c =
    let p = c.args.prefix in
    let out = c.args.out.now.items in
    let one = one_shl p 32 (omega arith) in
    let full = 1 * 2 ^ p % 2 ^ 32 - 1 in
    let high = c.args.pattern * (1 * 2 ^ p % 2 ^ 32) in
    IfOk-weaker c.push_more.result _ _ (λ u e.
    e ∙ ap (λ x. x ++ varint 5 (c.args.n - full)) c.in_ok-push-2.ensures.items
    ∙ append_assoc out ((high + full) ∷ []) (varint 5 (c.args.n - full))
    ∙ ap (λ x. out ++ x) (integer_is p c.args.pattern c.args.n full high (omega arith) (high_is p c.args.pattern c.requires.prefix) c.if-n-full.false)) c.push_more.ensures
