-- What a log of a tape stands for.
use Rattle.flow_notes.specs.declared.notes.Note.{Note}
use Rattle.tape_summary.specs.Pausing.{LogIs}
use Rattle.tape_summary.specs.Peaking.{PeaksAre}
use Rattle.tape_summary.specs.declared.tape_log.TapeLog.{TapeLog}
use Rattle.std.specs.Prelude.{List}
use Rattle.tape_laws.specs.History.{History, NoMark, onto}
use Rattle.tape_laws.specs.PlainTape.{IsPlainLawful}
use Rattle.tape_laws.specs.declared.PlainLimits.{PlainLimits}

pub record TapeLogIs (limits : PlainLimits) (log : TapeLog) (h : History NoMark) : Type 0 where
  pub peaks : PeaksAre limits log.peaks h
  pub pauses : LogIs log.pauses h

-- the notes of a lawful tape were taken up
pub record TapeLogs (old : TapeLog) (ns : List Note) (new : TapeLog) : Type 0 where
  pub goes : (limits : PlainLimits) (h : History NoMark) → IsPlainLawful limits (onto ns h) → TapeLogIs limits old h
      → TapeLogIs limits new (onto ns h)
