use Rattle.relay_ports.proofs.Lists.{all_less, less_none, remove_rest, rises_less, shorter, some_live}
use Rattle.relay_ports.proofs.live.remove.Goals as goal
use Rattle.relay_ports.specs.Memory.{Tap}
use Rattle.std.proofs.Common.{ap, sym, ◌∙◌, ◌≤◌}
use Rattle.std.specs.Prelude.{Bool, Option, is_some}

pub returns-clause-was : goal.returns-clause-was
returns-clause-was c = c.is_some.ensures ∙ ap (λ (o : Option Bool). is_some o) c.remove.ensures.value ∙ some_live c.args.conn c.args.taps.now.entries

pub returns-clause-taps : goal.returns-clause-taps
returns-clause-taps c = c.remove.ensures.entries ∙ remove_rest c.args.conn c.args.taps.now.entries c.requires

pub returns-clause-same : goal.returns-clause-same
returns-clause-same c = λ none.
    c.remove.ensures.entries ∙ remove_rest c.args.conn c.args.taps.now.entries c.requires
    ∙ less_none c.args.conn c.args.taps.now.entries
    (sym (c.is_some.ensures ∙ ap (λ (o : Option Bool). is_some o) c.remove.ensures.value ∙ some_live c.args.conn c.args.taps.now.entries) ∙ none)

pub returns-clause-len : goal.returns-clause-len
returns-clause-len c =
    rw (c.remove.ensures.entries ∙ remove_rest c.args.conn c.args.taps.now.entries c.requires)
    (shorter c.args.conn c.args.taps.now.entries c.is_some.result
    (c.is_some.ensures ∙ ap (λ (o : Option Bool). is_some o) c.remove.ensures.value ∙ some_live c.args.conn c.args.taps.now.entries))

pub returns-clause-rises : goal.returns-clause-rises
returns-clause-rises c =
    rw (c.remove.ensures.entries ∙ remove_rest c.args.conn c.args.taps.now.entries c.requires) (rises_less c.args.conn c.args.taps.now.entries c.requires)

pub returns-clause-below : goal.returns-clause-below
returns-clause-below c = λ n below.
    rw (c.remove.ensures.entries ∙ remove_rest c.args.conn c.args.taps.now.entries c.requires)
    (all_less (λ (t : Tap). t.0 ≤ n) c.args.conn c.args.taps.now.entries below)
