-- One that isn't there yet is new.
use Rattle.tape_plot.proofs.Mapping.{exchange_known, not_there}
use Rattle.tape_plot.proofs.exchanges.Exchanges.know.Goals as goal

pub returns-clause-same : goal.returns-clause-same
returns-clause-same c =
    exchange_known c.args.self.now _ c.args.exchange c.new.result c.new.ensures (not_there _ c.contains_key.result c.contains_key.ensures c.if-contains_key.false) c.in_ok-insert.ensures.updates.0
