-- When a stream has a unit, and which.
use Rattle.flow_rules.specs.Units.{is_unit}
use Rattle.plain_laws.specs.Keeping.{KeepsStream}
use Rattle.plain_laws.specs.Next.{is_ready, unit_of}
use Rattle.std.specs.Prelude.{length, ℕ, ◌≡◌}
use Rattle.plain_laws.specs.Words.{Past}
use Rattle.tape_laws.specs.declared.PlainLimits.{PlainLimits}

-- what keeps a stream keeps whether it is ready
pub keeps_ready : (limits : PlainLimits) (x : ℕ) (a b : Past) → KeepsStream limits x a b → is_ready limits x b ≡ is_ready limits x a
keeps_ready limits x a b k = λ i. is_unit (unit_of limits.quantum (k.ended i) (k.framed i) (length (k.recv i)) (length (k.send i)))
