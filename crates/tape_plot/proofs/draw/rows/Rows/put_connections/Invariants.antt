use Rattle.std.specs.Prelude.{All}
use Rattle.tape_plot.specs.Sheets.{WriteDrawn, Grows}
use Rattle.tape_plot.proofs.draw.rows.Rows.put_connections.Given as goal

abbrev pub invariant-loop-conn : goal.invariant-loop-conn
invariant-loop-conn l = record {
  grows : Grows l.fn.self.sheet l.self.sheet;
  drawn : All (λ v. WriteDrawn l.self.sheet l.limits l.pick v.0.now v.1.now) l.yielded;
}
