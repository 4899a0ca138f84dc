-- What a log of pauses stands for: the pauses of a history with the dispatches of their resumes, and what of both has no partner yet.
use Rattle.flow_notes.specs.declared.notes.Note.{Note}
use Rattle.tape_summary.specs.Placing.{ArePlaced, kept_of}
use Rattle.tape_summary.specs.Tracking.{Lone}
use Rattle.tape_summary.specs.declared.pauses.Pause.{Pause}
use Rattle.tape_summary.specs.declared.pauses.PauseLog.{PauseLog}
use Rattle.tape_summary.specs.declared.pauses.Spot.{Spot}
use Rattle.std.specs.Prelude.{List, None, Option, Some, [], drop, if◌then◌else◌, length, map, suc, zero, ℕ, ◌&&◌, ◌+◌, ◌++◌, ◌∷◌, ◌≡◌}
use Rattle.tape_laws.specs.Dispatches.{turns}
use Rattle.tape_laws.specs.Flows.{same_buffer, same_flow}
use Rattle.tape_laws.specs.History.{History, NoMark, Noted, onto}
use Rattle.tape_laws.specs.Summary.{Paused, pause_turns, paused_lines, resume_turns}
use Rattle.flow_notes.specs.declared.notes.Note.TheVariants as note

-- what a summary tells of a pause
abbrev pub told_pause : Pause → Paused
told_pause p = record { flow = p.spot.flow; buffer = p.spot.buffer; at = p.at; until = p.until }

-- how many pauses came
abbrev pub pauses_of : History NoMark → ℕ
pauses_of [] = 0
pauses_of (Noted (note.Pause f b) ∷ past) = pauses_of past + 1
pauses_of (step ∷ past) = pauses_of past

-- the places among them of those of a flow and a buffer
abbrev pub places : Spot → History NoMark → List ℕ
places s [] = []
places s (Noted (note.Pause f b) ∷ past) =
    places s past ++ (if same_flow f s.flow && same_buffer b s.buffer then pauses_of past ∷ [] else [])
places s (step ∷ past) = places s past

-- the pauses that have no resume yet, and the resumes that have no pause yet
abbrev pub lone : Spot → History NoMark → Lone
lone s h = record {
  waiting = drop (length (resume_turns s.flow s.buffer h)) (places s h);
  early = drop (length (pause_turns s.flow s.buffer h)) (resume_turns s.flow s.buffer h);
}

pub record LogIs (log : PauseLog) (h : History NoMark) : Type 0 where
  pub turn : log.turn ≡ turns h
  pub pauses : map told_pause log.pauses.items ≡ paused_lines h
  pub placed : ArePlaced log.tracks
  pub tracks : (s : Spot) → kept_of log.tracks s ≡ lone s h

-- the notes were taken up
pub record Logs (old : PauseLog) (ns : List Note) (new : PauseLog) : Type 0 where
  pub goes : (h : History NoMark) → LogIs old h → LogIs new (onto ns h)

-- the pause at this place has its resume in this dispatch
abbrev pub ended : ℕ → ℕ → List Pause → List Pause
ended i t [] = []
ended zero t (p ∷ ps) = record { spot = p.spot; at = p.at; until = Some t } ∷ ps
ended (suc i) t (p ∷ ps) = p ∷ ended i t ps

abbrev pub ended_at : Option ℕ → ℕ → List Pause → List Pause
ended_at None t ps = ps
ended_at (Some i) t ps = ended i t ps
