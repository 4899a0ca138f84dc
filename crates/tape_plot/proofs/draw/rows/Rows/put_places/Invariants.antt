use Rattle.std.specs.Prelude.{◌-◌, ◌≤◌}
use Rattle.tape_plot.specs.Sheets.{Grows, PlacesDrawn}
use Rattle.tape_plot.proofs.draw.rows.Rows.put_places.Given as goal

abbrev pub invariant-loop-i : goal.invariant-loop-i
invariant-loop-i l = record {
  grows : Grows l.fn.self.sheet l.self.sheet;
  drawn : PlacesDrawn l.self.sheet l.limits l.pick l.id l.flow.places.items l.i;
  within : l.i ≤ l.end;
}

abbrev pub decreases-loop-i : goal.decreases-loop-i
decreases-loop-i l = l.end - l.i
