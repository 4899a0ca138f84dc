-- The inner connection is closed.
use Rattle.metered_wires.proofs.Passing.{closed_below, same_rising}
use Rattle.metered_wires.proofs.Rises.{closed_greatest, closed_rises, closed_untold}
use Rattle.metered_wires.specs.Rising.{untold}
use Rattle.std.proofs.Common.{ap, ◌∙◌}
use Rattle.metered_wires.proofs.metering.MeteredWiresWires.close.Goals as goal

pub invariant_of-self : goal.invariant_of-self
invariant_of-self g c = record {
  seat_of = c.args.self.now.seat_of;
  rising = same_rising _ (g.W.Wires.seen c.close.new.self) c.close.ensures.closes (closed_rises c.args.conn (g.W.Wires.seen c.args.self.now.inner) c.args.self.now.rising);
  below = closed_below c.args.self.now.greatest c.args.conn (g.W.Wires.seen c.args.self.now.inner) (g.W.Wires.seen c.close.new.self) c.close.ensures.closes (closed_greatest c.args.conn (g.W.Wires.seen c.args.self.now.inner)) c.args.self.now.below;
}

pub returns-clause-closes : goal.returns-clause-closes
returns-clause-closes g c = ap (untold c.args.self.now.greatest) c.close.ensures.closes ∙ closed_untold c.args.self.now.greatest c.args.conn (g.W.Wires.seen c.args.self.now.inner)
