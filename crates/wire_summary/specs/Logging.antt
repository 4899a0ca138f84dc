-- What a log of a wire session's tape stands for.
use Rattle.flow_notes.specs.declared.notes.Note.{Note}
use Rattle.std.specs.Prelude.{List, None, false, ℕ, ◌≡◌}
use Rattle.tape_laws.specs.History.{History, NoMark, onto}
use Rattle.tape_summary.specs.Pausing.{LogIs}
use Rattle.wire_summary.specs.Levels.{LevelsAre, LimitsGrow, SaysOf, StageLimits, known_limits, named, no_limits}
use Rattle.wire_summary.specs.declared.levels.BufferLimits.{BufferLimits}
use Rattle.wire_summary.specs.declared.log.WireLog.{WireLog}

pub record WireLogIs (limits : BufferLimits) (log : WireLog) (h : History NoMark) : Type 0 where
  pub levels : LevelsAre limits log.levels h
  pub pauses : LogIs log.pauses h

-- the notes were taken up
pub record WireLogs (old : WireLog) (ns : List Note) (new : WireLog) : Type 0 where
  pub goes : (limits : BufferLimits) (h : History NoMark) → WireLogIs limits old h → WireLogIs limits new (onto ns h)
  pub grow : LimitsGrow old.levels new.levels no_limits
  pub hides : (x : ℕ) → named ns x ≡ false → known_limits old.levels x ≡ None → known_limits new.levels x ≡ None

-- stages were said of an exchange
pub record WireLogPasses (x : ℕ) (old : WireLog) (said : StageLimits) (new : WireLog) : Type 0 where
  pub goes : (limits : BufferLimits) (h : History NoMark) → WireLogIs limits old h → WireLogIs limits new h
  pub grow : LimitsGrow old.levels new.levels said
  pub says : SaysOf x old.levels new.levels said
