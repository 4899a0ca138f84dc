use Rattle.std.proofs.Common.{ap, length, ◌∙◌}
use Rattle.std.proofs.lemmas.List.{take_all}
use Rattle.wire_outlet.specs.Control.{entries_of}
use Rattle.wire_outlet.proofs.Entries.{six_each}
use Rattle.wire_outlet.proofs.control.entries_of.Goals as goal

pub returns-clause-len : goal.returns-clause-len
returns-clause-len c =
    ap length (c.loop-number.invariant ∙ ap entries_of (take_all c.loop-number.number-index c.args.settings.now c.loop-number-test.false)) ∙ six_each c.args.settings.now
