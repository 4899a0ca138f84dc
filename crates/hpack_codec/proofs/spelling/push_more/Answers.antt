use Rattle.std.proofs.Common.{◌/◌, ◌∙◌, List, ℕ, sym, subst, arith}
use Rattle.hpack_codec.proofs.Spellings.{Written, nothing_yet, writes_more, writes_last}
use Rattle.hpack_codec.proofs.spelling.push_more.Goals as goal

pub octets-init : goal.octets-init
octets-init c = nothing_yet c.args.out.now.items c.args.n (omega arith)

pub octets-preserved : goal.octets-preserved
octets-preserved c =
    let P : List ℕ → Type 0 = λ x. Written c.args.out.now.items c.args.n x (c.octets.rest / 128) in
    subst P (sym c.in_ok-push.ensures.items) (writes_more c.args.out.now.items c.args.n c.octets.out.items c.octets.rest (omega arith) c.octets.invariant)

pub returns : goal.returns
returns c = c.in_ok-push-2.ensures.items ∙ writes_last c.args.out.now.items c.args.n c.octets.out.items c.octets.rest (omega arith) c.octets.invariant
