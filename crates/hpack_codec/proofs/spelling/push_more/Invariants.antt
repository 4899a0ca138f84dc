use Rattle.hpack_codec.proofs.Spellings.{Written}
use Rattle.hpack_codec.proofs.spelling.push_more.Given as goal

abbrev pub invariant-octets : goal.invariant-octets
invariant-octets l = Written l.fn.out.items l.n l.out.items l.rest

abbrev pub decreases-octets : goal.decreases-octets
decreases-octets l = l.rest
