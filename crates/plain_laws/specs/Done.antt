-- When a dispatch is whole.
use Rattle.std.specs.Prelude.{[], false, true, ℕ, ◌≡◌}
use Rattle.tape_laws.specs.Dispatches.{has, live}
use Rattle.tape_laws.specs.Doomed.{condemned}
use Rattle.tape_laws.specs.Flows.{request}
use Rattle.tape_laws.specs.History.{History, NoMark}
use Rattle.tape_laws.specs.Order.{Nothing, next_on}
use Rattle.tape_laws.specs.Pauses.{count, pending_lows}
use Rattle.tape_laws.specs.Plain.{plain_setup}
use Rattle.tape_laws.specs.PlainSession.{plain_must_end}
use Rattle.tape_laws.specs.Watermark.{above}
use Rattle.tape_laws.specs.World.{place}
use Rattle.tape_laws.specs.declared.PlainLimits.{PlainLimits}
use Rattle.flow_rules.specs.declared.ids.BufferId.TheVariants as buffer

-- nothing is left to do
pub record IsDone (limits : PlainLimits) (h : History NoMark) : Type 0 where
  pub write_told : pending_lows (plain_setup limits) (buffer.Write 0) h ≡ []
  pub send_told : (x : ℕ) → has (live h) x ≡ true → pending_lows (plain_setup limits) (buffer.Send (request x)) h ≡ []
  pub moved : (x : ℕ) → has (live h) x ≡ true → count (request x) h ≡ 0 → place (plain_setup limits) (request x) 0 h ≡ []
  pub framed : above (plain_setup limits) (buffer.Write 0) h ≡ false → next_on (plain_setup limits) 0 h ≡ Nothing
  pub ended : (x : ℕ) → has (live h) x ≡ true → plain_must_end x h ≡ false
  pub gone : condemned h ≡ []
