-- The step of a flow whose last free place is known.
use Rattle.std.proofs.Common.{◌≡◌, ◌≤◌, ℕ, suc, zero, refl, arith}
use Rattle.exchange_core.specs.Effects.{moved}
use Rattle.exchange_core.specs.Flow.{Flow}
use Rattle.filter_chain.specs.Effects.{released}

-- ---- no place is free
-- ---- this place is free
-- ---- a stage lets go to the next place
pub stage_moves : (flow : Flow) (p n : ℕ) → 1 ≤ p → moved p n flow ≡ record flow { chain = released flow.chain p n }
stage_moves flow zero n first = absurd (omega arith)
stage_moves flow (suc p) n first = refl

-- ---- what a buffer holds beyond so many times its limit
