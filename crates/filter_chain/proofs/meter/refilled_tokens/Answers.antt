use Rattle.std.proofs.Common.{◌≡◌, ◌*◌, ◌≤◌, ℕ, suc, zero, arith}
use Rattle.filter_chain.proofs.meter.refilled_tokens.Goals as goal
use Rattle.filter_chain.proofs.meter.refilled_tokens.Goals.{then-steps-eq0, else-steps-eq0}

no_step : (rate steps : ℕ) → steps ≡ 0 → rate * steps ≡ 0
no_step rate steps e = rw e (omega arith)

-- one step or more fill it
some_steps : (rate steps : ℕ) → 1 ≤ steps → rate ≤ rate * steps
some_steps rate zero h = absurd (omega arith)
some_steps rate (suc n) h = grind arith

pub returns : goal.returns
returns c =
    elim c.if-steps-eq0.branch [
      | then-steps-eq0 w ↦ let none : c.args.rate * c.args.steps ≡ 0 = no_step c.args.rate c.args.steps (omega arith) in omega arith
      | else-steps-eq0 w ↦ let more : c.args.rate ≤ c.args.rate * c.args.steps = some_steps c.args.rate c.args.steps (omega arith) in omega arith
    ]
