use Rattle.std.proofs.Common.{◌-◌, arith, ap, sym, ◌∙◌, subst, List, ℕ}
use Rattle.std.proofs.lemmas.Bool.{both_ways}
use Rattle.huffman.specs.Huffman.{bits, octet_bits}
use Rattle.huffman.specs.Lookup.{symbol_at}
use Rattle.huffman.specs.Reading.{Reads}
use Rattle.huffman.proofs.Symbols.{reads_end}
use Rattle.huffman.proofs.Steps.{last_step, last_stop, too_short}
use Rattle.huffman.proofs.decoder.read_last.Goals as goal

pub returns-then-found-gt255-clause-none : goal.returns-then-found-gt255-clause-none
returns-then-found-gt255-clause-none c =
    let whole = octet_bits c.args.octets.now in
    let is = ap symbol_at (sym c.front_of.ensures.front) ∙ c.symbol_of-found.ensures.found in
    last_stop whole c.symbols.out.items c.symbols.have c.args.held c.symbol_of-found.result.symbol c.symbol_of-found.result.len is c.if-found-have.false c.if-found-gt255.true c.symbols.invariant.reads

pub symbols-preserved : goal.symbols-preserved
symbols-preserved c = record {
  few = omega arith;
  reads =
      (let whole = octet_bits c.args.octets.now in
      let is = ap symbol_at (sym c.front_of.ensures.front) ∙ c.symbol_of-found.ensures.found in
      let P : List ℕ → Type 0 = λ x. Reads whole (bits (c.symbols.have - c.symbol_of-found.result.len) c.args.held) x in
      subst P (sym c.in_ok-push.ensures.items) (last_step whole c.symbols.out.items c.symbols.have c.args.held c.symbol_of-found.result.symbol c.symbol_of-found.result.len is c.if-found-have.false c.if-found-gt255.false c.symbols.invariant.reads));
}

pub returns-then-is_padding-clause-found : goal.returns-then-is_padding-clause-found
returns-then-is_padding-clause-found c =
    let whole = octet_bits c.args.octets.now in
    reads_end whole (bits c.symbols.have c.args.held) c.symbols.out.items (c.is_padding.ensures.0 c.if-is_padding.true) c.symbols.invariant.reads

pub returns-else-is_padding-clause-none : goal.returns-else-is_padding-clause-none
returns-else-is_padding-clause-none c =
    let whole = octet_bits c.args.octets.now in
    let is = ap symbol_at (sym c.front_of.ensures.front) ∙ c.symbol_of-found.ensures.found in
    too_short whole c.symbols.out.items c.symbols.have c.args.held c.symbol_of-found.result.symbol c.symbol_of-found.result.len is c.if-found-have.true (λ pad. both_ways c.is_padding.result c.if-is_padding.false (c.is_padding.ensures.1 pad)) c.symbols.invariant.reads
