use Rattle.h2_session.proofs.Folding.{after_all}
use Rattle.h2_session.proofs.named.values_of.Given as goal
use Rattle.h2_session.specs.Errors.{settings_of}
use Rattle.h2_session.specs.Values.{no_values}
use Rattle.std.proofs.Common.{get_or, length, ℕ, ◌<◌, ◌≡◌}

-- what is left leads from what was found so far to what the whole leads to
abbrev pub invariant-loop-rest : goal.invariant-loop-rest
invariant-loop-rest l = (length l.values ≡ 7) × ((id : ℕ) → id < 6 → after_all id (settings_of l.rest) (get_or l.values id no_values) ≡ after_all id (settings_of l.entries) no_values)

abbrev pub decreases-loop-rest : goal.decreases-loop-rest
decreases-loop-rest l = length l.rest
