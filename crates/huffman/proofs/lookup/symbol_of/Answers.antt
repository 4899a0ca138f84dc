use Rattle.std.proofs.Common.{◌≡◌, ◌/◌, ◌^◌, ◌-◌, arith, bit_and}
use Rattle.huffman.specs.Lookup.{symbol_at}
use Rattle.huffman.specs.declared.tables.TheConstants.{SHORT, MIDDLE, LOW}
use Rattle.huffman.proofs.Whole.{short, middle, low}
use Rattle.huffman.proofs.Lookups.{table_found, last_found, fine_at}
use Rattle.huffman.proofs.lookup.symbol_of.Goals as goal
use Rattle.huffman.proofs.lookup.symbol_of.Goals.{then-front, else-front+then-front-2, else-front+else-front-2+then-front-3, else-front+else-front-2+else-front-3}

pub returns : goal.returns
returns c =
    let e = c.if-front.entry in
    let found : symbol_at c.args.front ≡ (e / 32, bit_and e 31) = elim c.if-front.branch [
      | then-front w ↦ table_found SHORT 22 0 254 short c.args.front e (c.args.front / 2 ^ 22) c.requires (omega arith) (omega arith) w.entry-is
      | else-front+then-front-2 w ↦ table_found MIDDLE 14 0xfe00 510 middle c.args.front e (c.args.front / 2 ^ 14 - 0xfe00) c.requires (omega arith) (omega arith) w.entry-is
      | else-front+else-front-2+then-front-3 w ↦ table_found LOW 6 0xff_fe00 502 low c.args.front e (c.args.front / 2 ^ 6 - 0xff_fe00) c.requires (omega arith) (omega arith) w.entry-is
      | else-front+else-front-2+else-front-3 w ↦ last_found c.args.front e c.requires (omega arith) w.entry-is
    ] in
    let f = fine_at c.args.front _ _ c.requires found in
    record { found = found; symbol = f.symbol; some = f.some; short = f.short }
