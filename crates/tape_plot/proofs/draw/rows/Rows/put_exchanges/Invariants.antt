use Rattle.std.specs.Prelude.{All}
use Rattle.tape_plot.specs.Sheets.{ExchangeDrawn, Grows}
use Rattle.tape_plot.proofs.draw.rows.Rows.put_exchanges.Given as goal

abbrev pub invariant-loop-number : goal.invariant-loop-number
invariant-loop-number l = record {
  grows : Grows l.fn.self.sheet l.self.sheet;
  drawn : All (λ v. ExchangeDrawn l.self.sheet l.limits l.pick v.0.now v.1.now) l.yielded;
}
