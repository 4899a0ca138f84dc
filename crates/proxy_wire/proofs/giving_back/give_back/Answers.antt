-- What goes back is what the worker has.
use Rattle.proxy_wire.proofs.Returning.{counts_back, none_back, seat_back, tells_back}
use Rattle.proxy_wire.proofs.giving_back.give_back.Goals as goal

pub give_parts_back-requires : goal.give_parts_back-requires
give_parts_back-requires g c = record {
  seat = seat_back c.args.permits.now c.args.worker _ c.take_apart-back.ensures c.requires.paid;
  none = none_back c.args.permits.now c.args.worker _ c.take_apart-back.ensures c.requires.paid;
}

pub returns-clause-wired : goal.returns-clause-wired
returns-clause-wired g c = tells_back g.M.Meter.bare c.args.worker c.take_apart-back.result _ _ _ c.take_apart-back.ensures c.give_parts_back.ensures.wired

pub returns-clause-count : goal.returns-clause-count
returns-clause-count g c f = counts_back g.M.Metered.Wires.faults g.T.L.Sink.faults c.args.worker c.take_apart-back.result _ _ c.take_apart-back.ensures c.give_parts_back.ensures.count f
