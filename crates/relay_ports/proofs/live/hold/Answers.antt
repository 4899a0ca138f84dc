use Rattle.relay_ports.proofs.Lists.{below_as, rises_as, set_held, set_none}
use Rattle.relay_ports.proofs.live.hold.Goals as goal
use Rattle.std.proofs.Common.{MutBor, ap, sym, ◌∙◌}
use Rattle.std.specs.BTreeMap.{BTreeMap}
use Rattle.std.specs.Option.{option_copied_mut}
use Rattle.std.specs.Prelude.{Bool, Option, ℕ}

pub returns-in-Some-clause-taps : goal.returns-in-Some-clause-taps
returns-in-Some-clause-taps c = (c.get_mut.follows.holds c.args.held).0 ∙ set_held c.args.conn c.args.held c.args.taps.now.entries c.requires

pub returns-in-Some-clause-rises : goal.returns-in-Some-clause-rises
returns-in-Some-clause-rises c =
    rw ((c.get_mut.follows.holds c.args.held).0 ∙ set_held c.args.conn c.args.held c.args.taps.now.entries c.requires)
    (rises_as c.args.conn c.args.held c.args.taps.now.entries c.requires)

pub returns-in-Some-clause-below : goal.returns-in-Some-clause-below
returns-in-Some-clause-below c = λ n below.
    rw ((c.get_mut.follows.holds c.args.held).0 ∙ set_held c.args.conn c.args.held c.args.taps.now.entries c.requires)
    (below_as n c.args.conn c.args.held c.args.taps.now.entries below)

pub returns-in_default-clause-taps : goal.returns-in_default-clause-taps
returns-in_default-clause-taps c =
    ap (λ (m : BTreeMap ℕ Bool). m.entries) c.get_mut.follows.holds-at-none
    ∙ sym (set_none c.args.conn c.args.held c.args.taps.now.entries c.requires (sym c.get_mut.ensures.value ∙ ap (λ (r : Option (MutBor Bool)). option_copied_mut r) c.in_default.is))
