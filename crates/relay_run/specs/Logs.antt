-- What a log of a relay's tape stands for.
use Rattle.flow_notes.specs.declared.notes.Note.{Note}
use Rattle.relay_laws.specs.Pairs.{Tape}
use Rattle.relay_run.specs.Writes.{WritesAre}
use Rattle.relay_run.specs.declared.relay_log.RelayLog.{RelayLog}
use Rattle.std.specs.Prelude.{List, ℕ}
use Rattle.tape_laws.specs.History.{onto}
use Rattle.tape_summary.specs.Pausing.{LogIs}

pub record RelayLogIs (limit : ℕ) (log : RelayLog) (h : Tape) : Type 0 where
  pub writes : WritesAre limit log.writes h
  pub pauses : LogIs log.pauses h

-- the notes were taken up
pub record RelayLogs (old : RelayLog) (ns : List Note) (new : RelayLog) : Type 0 where
  pub goes : (limit : ℕ) (h : Tape) → RelayLogIs limit old h → RelayLogIs limit new (onto ns h)
