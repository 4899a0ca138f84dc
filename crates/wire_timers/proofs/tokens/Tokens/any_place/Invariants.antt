use Rattle.std.proofs.Common.{◌≡◌, ℕ, ◌<◌, []}
use Rattle.wire_timers.specs.Held.{places_of}
use Rattle.wire_timers.proofs.tokens.Tokens.any_place.Given as goal

abbrev pub invariant-loop-kind : goal.invariant-loop-kind
invariant-loop-kind l = (k : ℕ) → k < l.kind → (places_of l.self k).entries ≡ []
