use Rattle.std.proofs.lemmas.Bool.{eqb-true, eq-eqb}
use Rattle.hpack_codec.proofs.CollectedLemmas.{none_where_zero, zero_where_none}
use Rattle.hpack_codec.proofs.collected.Collected.is_empty.Goals as goal

pub returns : goal.returns
returns c = λ most fields h. (
  λ t. none_where_zero most c.args.self.now fields h (eqb-true _ _ t),
  λ none. eq-eqb _ _ (zero_where_none most c.args.self.now fields h none),
)
