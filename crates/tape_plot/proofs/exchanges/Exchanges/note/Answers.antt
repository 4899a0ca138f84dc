-- The exchange that is lent goes on.
use Rattle.std.proofs.Common.{ap, sym}
use Rattle.std.specs.Prelude.{is_some}
use Rattle.tape_plot.proofs.Mapping.{exchange_goes}
use Rattle.tape_plot.proofs.Passing.{when_ok}
use Rattle.tape_plot.proofs.exchanges.Exchanges.note.Goals as goal

pub returns-clause-goes : goal.returns-clause-goes
returns-clause-goes c =
    when_ok _ _ c.note.result
    (λ g. exchange_goes c.args.self.now c.know.new.self _ c.args.exchange c.in-Some.exchange.now c.note.new.self c.args.note.now c.args.clock.now c.in_ok-know.ensures.same c.in-Some.ensures.value
    ((c.get_mut.follows.holds c.note.new.self).3 (ap is_some (sym c.in-Some.ensures.value))).0 c.requires g)
    c.note.ensures.goes
