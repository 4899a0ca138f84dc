use Rattle.hpack_codec.proofs.IntegerLemmas.{ReadsOn}
use Rattle.hpack_codec.proofs.integers.read_more.Given as goal

abbrev pub invariant-octets : goal.invariant-octets
invariant-octets l = ReadsOn l.octets l.most l.n l.value
