-- What it holds is dropped, or goes on.
use Rattle.std.proofs.Common.{refl}
use Rattle.tape_plot.proofs.Passing.{when_ok}
use Rattle.tape_plot.proofs.Writing.{closes_kept, closes_lost}
use Rattle.tape_plot.proofs.connection.Connection.close.Goals as goal

pub returns-in-Lost : goal.returns-in-Lost
returns-in-Lost c = when_ok _ _ c.drop_all.result (λ w. closes_lost c.args.self.now _ c.args.cause c.args.clock.now c.in-Lost.is c.drop_all.ensures.closed w) c.drop_all.ensures.writes

pub returns-in_default : goal.returns-in_default
returns-in_default c = closes_kept c.args.self.now _ c.args.cause c.args.clock.now c.in_default.not-Lost refl refl
