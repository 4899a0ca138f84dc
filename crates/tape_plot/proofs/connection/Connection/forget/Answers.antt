-- What it holds is dropped, or goes on.
use Rattle.tape_plot.proofs.Passing.{when_ok}
use Rattle.tape_plot.proofs.Writing.{forgets_closed, forgets_open}
use Rattle.tape_plot.proofs.connection.Connection.forget.Goals as goal

pub returns-then-self : goal.returns-then-self
returns-then-self c = when_ok _ _ c.drop_all.result (λ w. forgets_closed c.args.self.now _ c.args.clock.now c.if-self.true c.drop_all.ensures.closed w) c.drop_all.ensures.writes

pub returns : goal.returns
returns c = forgets_open c.args.self.now c.args.clock.now c.if-self.false
