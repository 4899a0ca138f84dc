-- The inner connections take what is offered.
use Rattle.metered_wires.proofs.Offering.{none_untold, offer_below, offer_rises, offer_untold}
use Rattle.metered_wires.proofs.metering.MeteredWiresWires.offer.Goals as goal

pub invariant_of-self : goal.invariant_of-self
invariant_of-self g c = record {
  seat_of = c.args.self.now.seat_of;
  rising = offer_rises c.args.conn _ (g.W.Wires.seen c.args.self.now.inner) (g.W.Wires.seen c.offer.new.self) c.offer.result c.offer.ensures.ok c.offer.ensures.err c.args.self.now.rising;
  below = offer_below c.args.self.now.greatest c.args.conn _ (g.W.Wires.seen c.args.self.now.inner) (g.W.Wires.seen c.offer.new.self) c.offer.result c.offer.ensures.ok c.offer.ensures.err c.args.self.now.below;
}

pub returns-clause-ok : goal.returns-clause-ok
returns-clause-ok g c = offer_untold c.args.self.now.greatest c.args.conn c.args.piece.now (g.W.Wires.seen c.args.self.now.inner) (g.W.Wires.seen c.offer.new.self) c.offer.result c.offer.ensures.ok

pub returns-clause-err : goal.returns-clause-err
returns-clause-err g c = none_untold c.args.self.now.greatest (g.W.Wires.seen c.args.self.now.inner) (g.W.Wires.seen c.offer.new.self) c.offer.result c.offer.ensures.err
