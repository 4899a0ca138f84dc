use Rattle.mio_edge.proofs.Steps.{read_none, read_some}
use Rattle.mio_edge.proofs.roll.Roll.is_read.Goals as goal
use Rattle.mio_edge.specs.Rolls.{RollValue, roll_seen}
use Rattle.std.proofs.Common.{ap, sym, ◌∙◌}
use Rattle.std.specs.Prelude.{not, ◌&&◌}
use Rattle.worker_ports.specs.Wires.{is_held, is_live}

pub returns-in-Some : goal.returns-in-Some
returns-in-Some c =
    read_some c.args.conn c.in-Some.held.now c.self.inside.live.entries c.self.invariant.rises (sym c.in-Some.ensures.value)
    ∙ ap (λ (r : RollValue). is_live c.args.conn (roll_seen r) && not (is_held c.args.conn (roll_seen r))) c.self.view_is

pub returns-in-None : goal.returns-in-None
returns-in-None c =
    read_none c.args.conn c.self.inside.live.entries (sym c.in-None.ensures.value)
    ∙ ap (λ (r : RollValue). is_live c.args.conn (roll_seen r) && not (is_held c.args.conn (roll_seen r))) c.self.view_is
