use Rattle.std.proofs.Common.{arith, refl}
use Rattle.huffman.specs.Huffman.{bits}
use Rattle.huffman.specs.Lookup.{top}
use Rattle.huffman.specs.declared.tables.TheConstants.{SHORT}
use Rattle.huffman.proofs.Whole.{short}
use Rattle.huffman.proofs.BitLists.{top-lt}
use Rattle.huffman.proofs.Words.{front8}
use Rattle.huffman.proofs.Lookups.{table_found, fine_at}
use Rattle.huffman.proofs.lookup.symbol_ahead.Goals as goal

pub returns-then-first-lt254 : goal.returns-then-first-lt254
returns-then-first-lt254 c =
    let w = top 30 (bits c.args.have c.args.held) in
    let small = top-lt 30 (bits c.args.have c.args.held) in
    let at = front8 c.args.have c.args.held c.requires.many in
    let e = table_found SHORT 22 0 254 short w _ _ small (omega (arith, at)) c.if-first-lt254.true refl in
    let f = fine_at w _ _ small e in
    record { found = e; symbol = f.symbol; some = f.some; short = f.short }
