use Rattle.mio_edge.proofs.Steps.{came}
use Rattle.mio_edge.proofs.roll.Roll.come.Goals as goal
use Rattle.mio_edge.specs.Rolls.{RollValue, roll_seen}
use Rattle.relay_ports.proofs.Lists.{all_below, below_more, insert_last, rises_more}
use Rattle.std.proofs.Common.{ap, subst, sym, ◌∙◌, ◌<◌}
use Rattle.std.specs.Prelude.{false}
use Rattle.worker_ports.specs.Wires.{given}
use Rattle.worker_ports.specs.declared.wires.Wired.TheVariants as wired

pub invariant_of-self-2 : goal.invariant_of-self-2
invariant_of-self-2 c =
    let above = subst (λ (r : RollValue). r.greatest < c.args.conn) (sym c.self.view_is) c.requires in
    let below = all_below c.self.inside.greatest c.args.conn c.self.inside.live.entries c.self.invariant.below above in
    let e = c.in_ok-insert.ensures.entries ∙ insert_last c.args.conn false c.self.inside.live.entries below in
    record {
      rises = rw e (rises_more c.args.conn false c.self.inside.live.entries c.self.invariant.rises below);
      below = rw e (below_more c.self.inside.greatest c.args.conn false c.self.inside.live.entries c.self.invariant.below above);
    }

pub returns-clause-ok : goal.returns-clause-ok
returns-clause-ok c =
    let above = subst (λ (r : RollValue). r.greatest < c.args.conn) (sym c.self.view_is) c.requires in
    let below = all_below c.self.inside.greatest c.args.conn c.self.inside.live.entries c.self.invariant.below above in
    let e = c.in_ok-insert.ensures.entries ∙ insert_last c.args.conn false c.self.inside.live.entries below in
    came c.self.inside.clusters c.self.inside.greatest c.args.conn c.self.inside.live.entries _ e
    ∙ ap (λ (r : RollValue). given (wired.Accept c.args.conn) (roll_seen r)) c.self.view_is
