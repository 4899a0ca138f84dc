-- The limits that are kept of a summary.
use Rattle.flow_gate.specs.Ids.{same_buffer}
use Rattle.flow_rules.specs.declared.ids.BufferId.{BufferId}
use Rattle.flow_rules.specs.declared.ids.FlowId.{FlowId}
use Rattle.std.specs.Map.{lookup}
use Rattle.std.specs.Option.{option_map_or, option_or}
use Rattle.std.specs.Prelude.{List, None, Option, Some, if◌then◌else◌, ℕ, ◌+◌, ◌==◌, ◌≡◌}
use Rattle.tape_plot.specs.Highest.{limit_named}
use Rattle.tape_plot.specs.Said.{Said}
use Rattle.tape_plot.specs.declared.limits.Limits.{Limits}
use Rattle.tape_plot.specs.declared.report.Line.{Line}
use Rattle.flow_rules.specs.declared.ids.BufferId.TheVariants as id
use Rattle.tape_plot.specs.declared.report.Line.TheVariants as line

-- 0 where none is told
abbrev pub known : Option ℕ → ℕ
known limit = option_map_or (λ n. n) limit 0

-- that of a buffer by its name, and that of a place of a flow with so many
abbrev pub limit_at : Limits → BufferId → Option ℕ
limit_at limits b = lookup (same_buffer b) limits.items.entries

abbrev pub place_limit_at : Limits → FlowId → ℕ → ℕ → Option ℕ
place_limit_at limits f count p =
    if p == 0 then limit_at limits (id.Recv f)
    else option_or (limit_at limits (id.Stage f p)) (if p + 1 == count then limit_at limits (id.Send f) else None)

-- they are those that these lines tell
pub record LimitsAre (limits : Limits) (said : List Said) : Type 0 where
  pub each : (b : BufferId) → limit_at limits b ≡ limit_named b said

-- one more is told
pub record TellsLimit (old : Limits) (b : BufferId) (limit : ℕ) (new : Limits) : Type 0 where
  pub each : (c : BufferId) → limit_at new c ≡ (if same_buffer c b then Some limit else limit_at old c)

-- with a line of the summary
abbrev pub TellsLine : Limits → Line → Limits → Type 0
TellsLine old (line.Peak b limit most) new = TellsLimit old b limit new
TellsLine old other new = new ≡ old
