use Rattle.mio_edge.proofs.Steps.{holds_one, roll_of}
use Rattle.mio_edge.proofs.roll.Roll.hold.Goals as goal
use Rattle.mio_edge.specs.Rolls.{RollValue, roll_seen}
use Rattle.paged_map.specs.PagedMap.{PagedMap}
use Rattle.relay_ports.proofs.Lists.{below_as, rises_as, set_held, set_none}
use Rattle.relay_ports.specs.Holding.{Holds}
use Rattle.std.proofs.Common.{MutBor, ap, subst, sym, ◌∙◌}
use Rattle.std.specs.Option.{option_copied_mut}
use Rattle.std.specs.Prelude.{Bool, Option, ℕ}

pub returns-in_default : goal.returns-in_default
returns-in_default c =
    let none = sym c.get_mut.ensures.value ∙ ap (λ (r : Option (MutBor Bool)). option_copied_mut r) c.in_default.is in
    let e = ap (λ (m : PagedMap Bool). m.entries) c.get_mut.follows.holds-at-none ∙ sym (set_none c.args.conn c.args.held c.self.inside.live.entries c.self.invariant.rises none) in
    subst (λ (r : RollValue). Holds c.args.conn c.args.held (roll_seen r) (roll_seen (roll_of c.self.inside.clusters c.get_mut.follows.lender-at-none.entries c.self.inside.greatest))) c.self.view_is
    (holds_one c.self.inside.clusters c.self.inside.greatest c.args.conn c.args.held c.self.inside.live.entries c.get_mut.follows.lender-at-none.entries e)

pub invariant_of-self-2 : goal.invariant_of-self-2
invariant_of-self-2 c =
    let e = (c.get_mut.follows.holds c.args.held).0 ∙ set_held c.args.conn c.args.held c.self.inside.live.entries c.self.invariant.rises in
    record {
      rises = rw e (rises_as c.args.conn c.args.held c.self.inside.live.entries c.self.invariant.rises);
      below = rw e (below_as c.self.inside.greatest c.args.conn c.args.held c.self.inside.live.entries c.self.invariant.below);
    }

pub returns : goal.returns
returns c =
    let e = (c.get_mut.follows.holds c.args.held).0 ∙ set_held c.args.conn c.args.held c.self.inside.live.entries c.self.invariant.rises in
    subst (λ (r : RollValue). Holds c.args.conn c.args.held (roll_seen r) (roll_seen (roll_of c.self.inside.clusters (c.get_mut.follows.lender c.args.held).entries c.self.inside.greatest))) c.self.view_is
    (holds_one c.self.inside.clusters c.self.inside.greatest c.args.conn c.args.held c.self.inside.live.entries (c.get_mut.follows.lender c.args.held).entries e)
