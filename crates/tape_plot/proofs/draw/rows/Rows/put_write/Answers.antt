-- The lane of a write buffer.
use Rattle.std.proofs.Common.{subst, ℕ}
use Rattle.std.specs.Prelude.{Option}
use Rattle.tape_plot.proofs.Passing.{when_ok}
use Rattle.tape_plot.specs.Lanes.{drawn_of}
use Rattle.tape_plot.specs.Limits.{known}
use Rattle.tape_plot.specs.Sheets.{Has}
use Rattle.tape_plot.proofs.draw.rows.Rows.put_write.Goals as goal

pub returns-clause-drawn : goal.returns-clause-drawn
returns-clause-drawn c =
    when_ok _ _ c.put_place.result
    (λ d is. subst (λ (v : Option ℕ). Has c.put_place.new.self.sheet (known v) (drawn_of c.args.write.now.lane)) c.of_write.ensures (d (c.takes-is_picked.ensures is))) c.put_place.ensures.drawn
