-- What holds between the steps of a core: nothing is due, and each send buffer's low was told with the frame that drained it.
use Rattle.plain_laws.specs.Owing.{nothing}
use Rattle.plain_laws.specs.Regular.{Regular}
use Rattle.std.specs.Prelude.{[], ℕ, ◌≡◌}
use Rattle.tape_laws.specs.Flows.{request}
use Rattle.tape_laws.specs.History.{History, NoMark}
use Rattle.tape_laws.specs.Pauses.{pending_lows}
use Rattle.tape_laws.specs.Plain.{plain_setup}
use Rattle.tape_laws.specs.declared.PlainLimits.{PlainLimits}
use Rattle.flow_rules.specs.declared.ids.BufferId.TheVariants as buffer

pub record Settled (limits : PlainLimits) (h : History NoMark) : Type 0 where
  pub regular : Regular limits nothing h
  pub untold : (x : ℕ) → pending_lows (plain_setup limits) (buffer.Send (request x)) h ≡ []
