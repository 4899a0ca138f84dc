-- The connection that is lent is filled.
use Rattle.std.proofs.Common.{ap, refl, subst, sym}
use Rattle.std.specs.Prelude.{Option, is_some}
use Rattle.tape_plot.proofs.Mapping.{connection_fills, nothing_fills}
use Rattle.tape_plot.proofs.Passing.{when_ok}
use Rattle.tape_plot.specs.Goes.{ConnectionsFill}
use Rattle.tape_plot.specs.declared.exchange.Fill.{Fill}
use Rattle.tape_plot.proofs.connections.Connections.fill.Goals as goal

pub returns-in_default : goal.returns-in_default
returns-in_default c =
    subst (λ (v : Option Fill). ConnectionsFill c.args.self.now v c.args.clock.now c.args.self.now) (sym c.in_default.is) (nothing_fills c.args.self.now c.args.self.now c.args.clock.now refl)

pub returns : goal.returns
returns c =
    when_ok _ _ c.fill.result
    (λ w. connection_fills c.args.self.now c.know.new.self _ c.args.fill c.in-Some.fill c.in-Some-get_mut.connection.now c.fill.new.self c.args.clock.now c.in_ok-know.ensures.same c.in-Some-get_mut.ensures.value
    ((c.get_mut.follows.holds c.fill.new.self).3 (ap is_some (sym c.in-Some-get_mut.ensures.value))).0 c.fill.ensures.closed w c.in-Some.is)
    c.fill.ensures.writes
