-- The log of levels and that of pauses go on together.
use Rattle.flow_notes.specs.declared.notes.Note.{Note}
use Rattle.io_ports.specs.declared.octets.NoMemory.{NoMemory}
use Rattle.std.proofs.Common.{subst, sym}
use Rattle.std.specs.Prelude.{Err, List, Ok, OnOk, Result, ℕ, ◌≡◌}
use Rattle.tape_summary.specs.Pausing.{LogIs, Logs}
use Rattle.tape_summary.specs.declared.pauses.PauseLog.{PauseLog}
use Rattle.wire_summary.specs.Levels.{LevelsGo, LevelsPass, StageLimits}
use Rattle.wire_summary.specs.Logging.{WireLogPasses, WireLogs}
use Rattle.wire_summary.specs.declared.log.WireLog.{WireLog}

pub both_go : (old new : WireLog) (ns : List Note) (r : Result (Unit {0}) NoMemory) → LevelsGo old.levels ns new.levels → OnOk r (Logs old.pauses ns new.pauses) → OnOk r (WireLogs old ns new)
both_go old new ns (Ok u) l p = record { goes = λ limits h k. record { levels = l.goes limits h k.levels; pauses = p.goes h k.pauses }; grow = l.grow; hides = l.hides }
both_go old new ns (Err x) l p = tt

pub one_passes : (x : ℕ) (old new : WireLog) (said : StageLimits) (r : Result (Unit {0}) NoMemory) → OnOk r (LevelsPass x old.levels said new.levels) → new.pauses ≡ old.pauses → OnOk r (WireLogPasses x old said new)
one_passes x old new said (Ok u) l e = record {
  goes = λ limits h k. record { levels = l.goes limits h k.levels; pauses = (let P : PauseLog → Type 0 = λ v. LogIs v h in subst P (sym e) k.pauses) };
  grow = l.grow;
  says = l.says;
}
one_passes x old new said (Err y) l e = tt
