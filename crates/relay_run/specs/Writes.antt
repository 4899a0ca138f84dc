-- What a log of write buffers stands for: their lengths, and their greatest so far.
use Rattle.flow_rules.specs.declared.ids.FlowId.{FlowId}
use Rattle.flow_notes.specs.declared.events.Event.{Event}
use Rattle.flow_notes.specs.declared.notes.CloseCause.{CloseCause}
use Rattle.flow_notes.specs.declared.notes.Note.{Note}
use Rattle.relay_laws.specs.Pairs.{Tape, goes_to}
use Rattle.relay_laws.specs.Report.{connections, peak}
use Rattle.relay_laws.specs.World.{out}
use Rattle.relay_run.specs.declared.write_log.Ends.{Ends}
use Rattle.relay_run.specs.declared.write_log.WriteLog.{WriteLog}
use Rattle.std.specs.BTreeMap.{Updates, get}
use Rattle.std.specs.Ordering.{nat_cmp}
use Rattle.std.specs.Prelude.{List, None, Option, Some, [], if◌then◌else◌, length, ℕ, ◌∷◌, ◌≡◌}
use Rattle.tape_laws.specs.History.{onto}
use Rattle.tape_summary.specs.Levels.{no_level}
use Rattle.tape_summary.specs.declared.level.Level.{Level}
use Rattle.flow_notes.specs.declared.notes.Note.TheVariants as note

-- the level of a connection's write buffer after a history
abbrev pub level_of : ℕ → Tape → Level
level_of c h = record { held = length (out c h); most = peak c h }

-- nothing is kept of a connection before octets come for it
abbrev pub kept_level : Option Level → Level
kept_level None = no_level
kept_level (Some l) = l

-- the connection that a flow of a pair goes to
abbrev pub end_of : FlowId → Option Ends → Option ℕ
end_of f None = None
end_of f (Some e) = Some (if f.back then e.client else e.cluster)

pub record WritesAre (limit : ℕ) (log : WriteLog) (h : Tape) : Type 0 where
  pub limit_is : log.limit ≡ limit
  pub conns_are : log.conns.items ≡ connections h
  pub ends_are : (f : FlowId) → end_of f (get nat_cmp log.pairs f.exchange) ≡ goes_to f h
  pub levels_are : (c : ℕ) → kept_level (get nat_cmp log.levels c) ≡ level_of c h

-- the notes were taken up
pub record WritesGo (old : WriteLog) (ns : List Note) (new : WriteLog) : Type 0 where
  pub goes : (limit : ℕ) (h : Tape) → WritesAre limit old h → WritesAre limit new (onto ns h)

-- the turn note of an event, the octets of a flow, or a close note was taken up
pub record TakesTurn (old : WriteLog) (e : Event) (new : WriteLog) : Type 0 where
  pub goes : (k : ℕ) → WritesGo old (note.Turn k e ∷ []) new

pub record TakesOctets (old : WriteLog) (f : FlowId) (n : ℕ) (new : WriteLog) : Type 0 where
  pub goes : (octets : List ℕ) → length octets ≡ n → WritesGo old (note.Arrive f octets ∷ []) new

pub record TakesClose (old : WriteLog) (c : ℕ) (why : CloseCause) (new : WriteLog) : Type 0 where
  pub goes : (code : ℕ) → WritesGo old (note.Close c code why ∷ []) new

-- the level of one connection is another one
pub record SetsLevel (old : WriteLog) (c : ℕ) (level : Level) (new : WriteLog) : Type 0 where
  pub limit : new.limit ≡ old.limit
  pub conns : new.conns ≡ old.conns
  pub pairs : new.pairs ≡ old.pairs
  pub levels : Updates nat_cmp old.levels new.levels c (Some level)
