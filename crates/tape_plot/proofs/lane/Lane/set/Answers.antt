-- It stays, or comes before the first column, or stands in the present one.
use Rattle.std.proofs.Common.{arith, sym, ◌∙◌}
use Rattle.tape_plot.proofs.Laning.{set_early, set_ends, set_same}
use Rattle.tape_plot.specs.Lanes.{drawn_of}
use Rattle.tape_plot.proofs.lane.Lane.set.Goals as goal

pub returns-then-level : goal.returns-then-level
returns-then-level c = set_same (drawn_of c.args.self.now) c.args.level c.args.clock.now (cc)

pub returns-in_default : goal.returns-in_default
returns-in_default c = set_early (drawn_of c.args.self.now) c.args.level c.args.clock.now (omega arith)

pub returns : goal.returns
returns c =
    set_ends (drawn_of c.args.self.now) (drawn_of c.fit.new.self) c.args.level c.args.clock.now c.in-Some.behind c.column.result c.put_point.new.points.items c.put_point.result
    c.in_ok-fit.ensures.same (omega arith) (λ e. c.if-level.false (e ∙ sym c.level.ensures)) (omega arith) c.column.ensures c.put_point.ensures
