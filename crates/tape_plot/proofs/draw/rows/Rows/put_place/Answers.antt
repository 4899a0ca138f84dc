-- A lane that is level at 0 is passed over, and one that isn't picked.
use Rattle.std.proofs.Common.{sym, ◌∙◌}
use Rattle.tape_plot.proofs.Drawing.{has_flat, has_line}
use Rattle.tape_plot.proofs.Passing.{both_ok}
use Rattle.tape_plot.specs.Lanes.{drawn_of}
use Rattle.tape_plot.proofs.draw.rows.Rows.put_place.Goals as goal

pub returns-then-most-eq0-clause-drawn : goal.returns-then-most-eq0-clause-drawn
returns-then-most-eq0-clause-drawn c = λ picked. has_flat _ _ (drawn_of c.args.place.now.lane) (sym c.most.ensures ∙ c.if-most-eq0.true)

pub returns-clause-drawn : goal.returns-clause-drawn
returns-clause-drawn c =
    both_ok _ _ _ c.put_lane.result (λ g line picked. has_line c.args.self.now.sheet _ _ (drawn_of c.args.place.now.lane) (drawn_of c.in_ok-lane.lane) g c.in_ok-lane.ensures line) c.put_lane.ensures.grows c.put_lane.ensures.drawn
