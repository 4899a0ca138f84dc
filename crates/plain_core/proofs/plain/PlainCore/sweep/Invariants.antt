use Rattle.std.proofs.Common.{◌≡◌, length, []}
use Rattle.plain_core.specs.Runs.{Keeps}
use Rattle.plain_core.proofs.plain.PlainCore.sweep.Given as goal

abbrev pub invariant-loop-exchange : goal.invariant-loop-exchange
invariant-loop-exchange l = record { kept : Keeps l.fn.self l.fn.notes l.self l.notes; idle : l.self.agenda ≡ [] }

abbrev pub decreases-loop-exchange : goal.decreases-loop-exchange
decreases-loop-exchange l = length l.self.flows.exchanges.doomed
