use Rattle.std.proofs.Common.{inl, inr}
use Rattle.hpack_codec.proofs.literals.read_literal.Goals as goal

pub returns-in-Err-clause-err : goal.returns-in-Err-clause-err
returns-in-Err-clause-err c = elim c.in-Err.ensures.err [ inl memory ↦ inl memory | inr breaks ↦ inr (inl breaks) ]
