-- The places of the flow's exchange are changed where they stand, or put in.
use Rattle.std.proofs.Common.{sym}
use Rattle.wire_summary.proofs.Lending.{lent_framed, lent_sides, put_framed, put_sides}
use Rattle.wire_summary.specs.Places.{changed_at}
use Rattle.wire_summary.proofs.levels.Levels.change.Goals as goal

pub returns-in-Some-clause-sides : goal.returns-in-Some-clause-sides
returns-in-Some-clause-sides c = lent_sides c.args.self.now _ _ c.in-Some.places.now c.change.new.self (changed_at c.args.flow.back c.args.change) c.change.result c.in-Some.ensures.value (c.get_mut.follows.holds c.change.new.self) c.change.ensures.sides

pub returns-in-Some-clause-framed : goal.returns-in-Some-clause-framed
returns-in-Some-clause-framed c = lent_framed c.args.self.now _ c.args.flow.back c.args.change c.in-Some.places.now c.change.result c.in-Some.ensures.value c.change.ensures.framed
