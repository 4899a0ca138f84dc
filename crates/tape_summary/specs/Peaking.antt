-- What a log of lengths stands for: the lengths of a plain session's buffers, and their greatest so far.
use Rattle.flow_notes.specs.declared.notes.Note.{Note}
use Rattle.tape_summary.specs.Levels.{emptied, fallen, level_of, no_level, risen}
use Rattle.tape_summary.specs.declared.peaks.FlowLevels.{FlowLevels}
use Rattle.tape_summary.specs.declared.peaks.PeakLog.{PeakLog}
use Rattle.std.specs.BTreeMap.{Updates, get}
use Rattle.std.specs.Ordering.{nat_cmp}
use Rattle.std.specs.Prelude.{List, None, Option, Some, ℕ, ◌≡◌}
use Rattle.tape_laws.specs.Dispatches.{started}
use Rattle.tape_laws.specs.Flows.{request}
use Rattle.tape_laws.specs.History.{History, NoMark, onto}
use Rattle.tape_laws.specs.PlainTape.{IsPlainLawful}
use Rattle.tape_laws.specs.declared.PlainLimits.{PlainLimits}
use Rattle.flow_rules.specs.declared.ids.BufferId.TheVariants as buffer

-- nothing is kept of a stream before its first octet
abbrev pub levels_of : Option FlowLevels → FlowLevels
levels_of None = record { recv = no_level; send = no_level }
levels_of (Some l) = l

-- the levels of a stream's buffers after a history
abbrev pub flow_levels : PlainLimits → History NoMark → ℕ → FlowLevels
flow_levels limits h x =
    record { recv = level_of limits (buffer.Recv (request x)) h; send = level_of limits (buffer.Send (request x)) h }

pub record PeaksAre (limits : PlainLimits) (log : PeakLog) (h : History NoMark) : Type 0 where
  pub limits_are : log.limits ≡ limits
  pub streams : log.started.items ≡ started h
  pub flows : (x : ℕ) → levels_of (get nat_cmp log.flows x) ≡ flow_levels limits h x
  pub write : log.write ≡ level_of limits (buffer.Write 0) h

-- the notes of a lawful tape were taken up
pub record PeaksGo (old : PeakLog) (ns : List Note) (new : PeakLog) : Type 0 where
  pub goes : (limits : PlainLimits) (h : History NoMark) → IsPlainLawful limits (onto ns h) → PeaksAre limits old h
      → PeaksAre limits new (onto ns h)

-- what a note does to the levels of its stream
abbrev pub arrived : ℕ → FlowLevels → FlowLevels
arrived n l = record { recv = risen l.recv n; send = l.send }

abbrev pub shifted : ℕ → FlowLevels → FlowLevels
shifted n l = record { recv = fallen l.recv n; send = risen l.send n }

abbrev pub framed : ℕ → FlowLevels → FlowLevels
framed n l = record { recv = l.recv; send = fallen l.send n }

abbrev pub dropped : FlowLevels → FlowLevels
dropped l = record { recv = emptied l.recv; send = emptied l.send }

-- the levels of one stream are other ones
pub record Sets (old : PeakLog) (x : ℕ) (levels : FlowLevels) (new : PeakLog) : Type 0 where
  pub limits : new.limits ≡ old.limits
  pub streams : new.started ≡ old.started
  pub flows : Updates nat_cmp old.flows new.flows x (Some levels)
  pub write : new.write ≡ old.write
