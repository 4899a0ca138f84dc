use Rattle.mio_edge.proofs.Steps.{left, lost, roll_of}
use Rattle.mio_edge.proofs.roll.Roll.leave.Goals as goal
use Rattle.mio_edge.specs.Rolls.{RollValue, roll_seen}
use Rattle.relay_ports.proofs.Lists.{all_less, less_none, remove_rest, rises_less, some_live}
use Rattle.relay_ports.specs.Memory.{Tap}
use Rattle.std.proofs.Common.{ap, sym, ◌∙◌, ◌≤◌}
use Rattle.std.specs.Prelude.{Bool, List, Option, is_some}
use Rattle.worker_ports.specs.Wires.{closed, given, is_live}
use Rattle.worker_ports.specs.declared.wires.Wired.TheVariants as wired

pub invariant_of-self : goal.invariant_of-self
invariant_of-self c =
    let e = c.remove.ensures.entries ∙ remove_rest c.args.conn c.self.inside.live.entries c.self.invariant.rises in
    record {
      rises = rw e (rises_less c.args.conn c.self.inside.live.entries c.self.invariant.rises);
      below = rw e (all_less (λ (t : Tap). t.0 ≤ c.self.inside.greatest) c.args.conn c.self.inside.live.entries c.self.invariant.below);
    }

pub returns-clause-was : goal.returns-clause-was
returns-clause-was c =
    c.is_some.ensures ∙ ap (λ (o : Option Bool). is_some o) c.remove.ensures.value ∙ some_live c.args.conn c.self.inside.live.entries
    ∙ ap (λ (r : RollValue). is_live c.args.conn (roll_seen r)) c.self.view_is

pub returns-clause-leaves : goal.returns-clause-leaves
returns-clause-leaves c =
    let e = c.remove.ensures.entries ∙ remove_rest c.args.conn c.self.inside.live.entries c.self.invariant.rises in
    left c.self.inside.clusters c.self.inside.greatest c.args.conn c.self.inside.live.entries _ e ∙ ap (λ (r : RollValue). closed c.args.conn (roll_seen r)) c.self.view_is

pub returns-clause-loses : goal.returns-clause-loses
returns-clause-loses c = λ was.
    let e = c.remove.ensures.entries ∙ remove_rest c.args.conn c.self.inside.live.entries c.self.invariant.rises in
    lost c.self.inside.clusters c.self.inside.greatest c.args.conn c.self.inside.live.entries _ e
    ∙ ap (λ (r : RollValue). given (wired.Lost c.args.conn) (roll_seen r)) c.self.view_is

pub returns-clause-none : goal.returns-clause-none
returns-clause-none c = λ no.
    let was = c.is_some.ensures ∙ ap (λ (o : Option Bool). is_some o) c.remove.ensures.value ∙ some_live c.args.conn c.self.inside.live.entries in
    let e = c.remove.ensures.entries ∙ remove_rest c.args.conn c.self.inside.live.entries c.self.invariant.rises ∙ less_none c.args.conn c.self.inside.live.entries (sym was ∙ no) in
    ap (λ (taps : List Tap). roll_of c.self.inside.clusters taps c.self.inside.greatest) e ∙ c.self.view_is
