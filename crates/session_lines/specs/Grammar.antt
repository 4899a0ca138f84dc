-- Which lines are headers and limits.
use Rattle.session_lines.specs.Seen.{are_limits, header_line, limits_line}
use Rattle.session_lines.specs.declared.order.Format.{Format}
use Rattle.std.specs.Prelude.{List, true, ℕ, ◌≡◌}
use Rattle.tape_laws.specs.declared.PlainLimits.{PlainLimits}

pub record HasNoHeader (line : List ℕ) : Type 0 where
  pub none : (f : Format) → header_line f ≡ line → ⊥

pub record IsLimitsLine (f : Format) (line : List ℕ) (l : PlainLimits) : Type 0 where
  pub is : limits_line f l ≡ line
  pub ranges : are_limits f l ≡ true

pub record HasNoLimits (f : Format) (line : List ℕ) : Type 0 where
  pub none : (l : PlainLimits) → are_limits f l ≡ true → limits_line f l ≡ line → ⊥
