-- What a dispatch does to a wire session under way, before its notes are written.
use Rattle.flow_notes.specs.declared.events.Event.{Event}
use Rattle.proxy_config.specs.declared.routes.Route.{Route}
use Rattle.flow_notes.specs.declared.notes.Note.{Note}
use Rattle.flow_notes.specs.declared.notes.Note.TheVariants as note
use Rattle.std.specs.Prelude.{IfSome, IsSome, List, None, Option, Some, [], true, ℕ, ◌∷◌, ◌≡◌}
use Rattle.tape_laws.specs.Dispatches.{has}
use Rattle.tape_laws.specs.History.{History, NoMark}
use Rattle.wire_run.specs.Stages.{AreStages, IsRow}
use Rattle.wire_run.specs.declared.play.WirePlay.{WirePlay}
use Rattle.wire_run.specs.declared.stages.RouteStages.{RouteStages}
use Rattle.wire_state.specs.Courses.{row_of}
use Rattle.wire_summary.specs.Levels.{StageLimits, known_limits}
use Rattle.wire_summary.specs.Logging.{WireLogIs, WireLogs}
use Rattle.wire_summary.specs.declared.levels.BufferLimits.{BufferLimits}
use Rattle.wire_summary.specs.declared.log.WireLog.{WireLog}
use Rattle.worker_core.specs.Dispatching.{Dispatches}
use Rattle.worker_core.specs.declared.wire.WireSession.{WireSession}

-- the exchanges that begin in these notes
abbrev pub begun_in : List Note → List ℕ
begun_in [] = []
begun_in (note.Start x c s d ∷ ns) = x ∷ begun_in ns
begun_in (n ∷ ns) = begun_in ns

-- the row that the session tells of an exchange that began in the last dispatch
abbrev pub row_told : WireSession → ℕ → Option ℕ
row_told session x = row_of x session.core.before session.core.rows.items

-- The log learnt which stages the exchanges pass that begin in these notes, each those of its row of the table or none.
pub record PassesAll (rows : List RouteStages) (row : ℕ → Option ℕ) (ns : List Note) (old new : WireLog) : Type 0 where
  pub goes : (limits : BufferLimits) (h : History NoMark) → WireLogIs limits old h → WireLogIs limits new h
  pub stay : (x : ℕ) (l : StageLimits) → known_limits old.levels x ≡ Some l → known_limits new.levels x ≡ Some l
  pub come : (routes : List Route) → AreStages rows routes → (x : ℕ) → known_limits old.levels x ≡ None → IfSome (known_limits new.levels x) (λ l. (has (begun_in ns) x ≡ true) × IsRow routes (row x) l)
  pub all : (x : ℕ) → has (begun_in ns) x ≡ true → IsSome (known_limits new.levels x)

-- the event was carried out, and its notes were taken up
pub record CarriesOn (old : WirePlay) (e : Event) (new : WirePlay) : Type 0 where
  pub before : WireLog
  pub dispatches : Dispatches old.session [] e new.session new.notes
  pub passes : PassesAll old.stages.rows.items (row_told new.session) new.notes old.log before
  pub logs : WireLogs before new.notes new.log
  pub stages : new.stages ≡ old.stages
  pub lines : new.lines ≡ old.lines
