-- What writing the summary of a wire session does to a text.
use Rattle.flow_rules.specs.declared.ids.FlowId.{FlowId}
use Rattle.flow_notes.specs.Flow.{flow_word}
use Rattle.std.specs.BTreeMap.{get}
use Rattle.std.specs.Fmt.{decimal}
use Rattle.std.specs.Option.{option_map}
use Rattle.std.specs.Ordering.{nat_cmp}
use Rattle.std.specs.Prelude.{List, None, Option, Some, [], codes, length, ℕ, ◌++◌, ◌+◌, ◌∷◌, ◌≡◌}
use Rattle.tape_laws.specs.Flows.{request, response}
use Rattle.tape_laws.specs.History.{History, NoMark}
use Rattle.tape_laws.specs.Report.{peak_line, summary_text}
use Rattle.tape_laws.specs.Units.{StageKind}
use Rattle.tape_summary.specs.declared.level.Level.{Level}
use Rattle.wire_summary.specs.Levels.{Agrees, shaped, write_in}
use Rattle.wire_summary.specs.Logging.{WireLogIs}
use Rattle.wire_summary.specs.Places.{Side, Sides, most_at, sides_of}
use Rattle.wire_summary.specs.declared.levels.BufferLimits.{BufferLimits}
use Rattle.wire_summary.specs.declared.levels.Levels.{Levels}
use Rattle.wire_summary.specs.declared.log.WireLog.{WireLog}

-- the lines of the peaks, each where its buffer ever held an octet
abbrev pub stage_lines : FlowId → List Level → ℕ → List ℕ → List ℕ
stage_lines f levels p [] = []
stage_lines f levels p (limit ∷ limits) = peak_line (codes "stage" ∷ flow_word f ∷ decimal p ∷ []) limit (most_at p levels) ++ stage_lines f levels (p + 1) limits

abbrev pub side_lines : BufferLimits → FlowId → Side → List ℕ
side_lines limits f side =
    peak_line (codes "recv" ∷ flow_word f ∷ []) limits.recv (most_at 0 side.levels)
    ++ (stage_lines f side.levels 1 side.limits
    ++ peak_line (codes "send" ∷ flow_word f ∷ []) limits.send (most_at (length side.limits + 1) side.levels))

abbrev pub sides_lines : BufferLimits → ℕ → Option Sides → List ℕ
sides_lines limits x None = []
sides_lines limits x (Some s) = side_lines limits (request x) s.request ++ side_lines limits (response x) s.response

abbrev pub exchange_lines : Levels → ℕ → List ℕ
exchange_lines levels x = sides_lines levels.limits x (option_map sides_of (get nat_cmp levels.exchanges x))

abbrev pub write_line : Levels → ℕ → List ℕ
write_line levels c = peak_line (codes "write" ∷ decimal c ∷ []) levels.limits.write (write_in levels c).level.most

-- the summary of the history stands behind the text, where flows pass the stages that were said of them
pub record Summarizes (log : WireLog) (old new : List ℕ) : Type 0 where
  pub added : List ℕ
  pub is : new ≡ old ++ added
  pub goes : (limits : BufferLimits) (stages : FlowId → List StageKind) (h : History NoMark) → WireLogIs limits log h → Agrees stages log.levels
      → added ≡ summary_text (shaped limits stages) h
