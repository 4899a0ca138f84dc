use Rattle.std.proofs.Common.{◌-◌, arith, sym, ◌++◌, subst, List, Bool, ℕ}
use Rattle.huffman.specs.Huffman.{bits, octet_bits}
use Rattle.huffman.specs.Reading.{Reads}
use Rattle.huffman.proofs.Steps.{step, stop}
use Rattle.huffman.proofs.decoder.read_most.Goals as goal

pub returns-then-found-gt255-clause-none : goal.returns-then-found-gt255-clause-none
returns-then-found-gt255-clause-none c =
    let w = c.in-Some.full in
    let is = c.symbol_ahead-found.ensures.found in
    let whole = octet_bits c.args.octets.now in
    let P : List Bool → Type 0 = λ x. Reads whole x c.symbols.out.items in
    stop whole (octet_bits w.rest.now) c.symbols.out.items w.have w.held c.symbol_ahead-found.result.symbol c.symbol_ahead-found.result.len is (omega (arith, c.symbol_ahead-found.ensures.short, c.in-Some.ensures.full)) c.if-found-gt255.true (subst P (sym c.in-Some.ensures.same) c.symbols.invariant.reads)

pub symbols-preserved : goal.symbols-preserved
symbols-preserved c = record {
  few = omega (arith, c.in-Some.ensures.full.1 c.symbols.invariant.few);
  reads =
      (let w = c.in-Some.full in
      let is = c.symbol_ahead-found.ensures.found in
      let whole = octet_bits c.args.octets.now in
      let P : List Bool → Type 0 = λ x. Reads whole x c.symbols.out.items in
      let Q : List ℕ → Type 0 = λ x. Reads whole (bits (w.have - c.symbol_ahead-found.result.len) w.held ++ octet_bits w.rest.now) x in
      subst Q (sym c.in_ok-push.ensures.items) (step whole (octet_bits w.rest.now) c.symbols.out.items w.have w.held c.symbol_ahead-found.result.symbol c.symbol_ahead-found.result.len is (omega (arith, c.symbol_ahead-found.ensures.short, c.in-Some.ensures.full)) c.if-found-gt255.false (subst P (sym c.in-Some.ensures.same) c.symbols.invariant.reads)));
}
