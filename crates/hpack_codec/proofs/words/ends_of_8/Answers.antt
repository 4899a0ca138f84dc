use Rattle.std.proofs.Common.{w64}
use Rattle.std.proofs.lemmas.Nat.{le_bytes_8}
use Rattle.hpack_codec.proofs.SameEnds.{first_word, last_word, octets_from}
use Rattle.hpack_codec.proofs.words.ends_of_8.Goals as goal

pub returns-clause-first : goal.returns-clause-first
returns-clause-first c =
    first_word 8 w64 le_bytes_8 c.args.octets.now _ c.unwrap-first.result c.from_le_bytes.result c.requires (octets_from c.args.octets.now c.type_inv.octets) c.first_chunk.ensures.cases c.unwrap-first.ensures c.from_le_bytes.ensures

pub returns-clause-last : goal.returns-clause-last
returns-clause-last c =
    last_word 8 w64 le_bytes_8 c.args.octets.now _ c.unwrap-last.result c.from_le_bytes-2.result c.requires (octets_from c.args.octets.now c.type_inv.octets) c.last_chunk.ensures.cases c.unwrap-last.ensures c.from_le_bytes-2.ensures
