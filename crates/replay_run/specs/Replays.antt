-- What `replay` tells of a session.
use Rattle.flow_notes.specs.Line.{newline}
use Rattle.session_run.specs.Ending.{EndsAs}
use Rattle.session_run.specs.Tells.{numbered_line}
use Rattle.replay_run.specs.SeenTape.{IsTape}
use Rattle.session_lines.specs.Seen.{Seen, SpellsNothing, is_playing, seen_lines, seen_text}
use Rattle.session_run.specs.declared.status.Status.{Status}
use Rattle.std.specs.Io.KnownBytes.{Appends, Consumes}
use Rattle.std.specs.Prelude.{List, Option, [], codes, suc, ℕ, ◌++◌, ◌∷◌, ◌≡◌}
use Rattle.tape_laws.specs.Headline.{Headline}
use Rattle.tape_laws.specs.History.{History, NoMark}
use Rattle.tape_laws.specs.Plain.{plain_setup}
use Rattle.tape_laws.specs.Report.{summary_text}
use Rattle.tape_laws.specs.Text.{tape_text}
use Rattle.tape_laws.specs.declared.PlainLimits.{PlainLimits}
use Rattle.session_run.specs.declared.status.Status.TheVariants as status

-- the last line or lines, by the status
abbrev pub last_text : Status → Seen → PlainLimits → History NoMark → List ℕ
last_text status.Done seen limits history = summary_text (plain_setup limits) history
last_text status.Session seen limits history = numbered_line (codes "refused" ∷ codes "line" ∷ []) (suc (seen_lines seen))
last_text status.TooLong seen limits history = codes "refused length session" ++ newline
last_text status seen limits history = []

-- the text is that of a lawful tape of the events of the lines that were read before the first one that was refused
-- or not read, with the last line or lines of the status
pub record Tells (status : Status) (read told : List ℕ) (left : Option (List ℕ)) : Type 0 where
  pub seen : Seen
  pub limits : PlainLimits
  pub history : History NoMark
  pub rest : List ℕ
  pub reads : read ≡ seen_text seen ++ rest
  pub tape : IsTape seen limits history
  -- what it promises to an operator, for every flow and buffer
  pub headline : Headline (plain_setup limits) history
  pub ends : EndsAs (SpellsNothing seen) (is_playing seen) status (seen_text seen) rest left
  pub is : told ≡ tape_text [] history ++ last_text status seen limits history

-- where the sink failed, what was written is a front of such a text
pub record TellsFront (read text : List ℕ) (left : Option (List ℕ)) : Type 0 where
  pub status : Status
  pub whole : List ℕ
  pub rest : List ℕ
  pub front : whole ≡ text ++ rest
  pub tells : Tells status read whole left

abbrev pub TellsAs : Status → List ℕ → List ℕ → Option (List ℕ) → Type 0
TellsAs status.WriteFault read text left = TellsFront read text left
TellsAs status.Usage read text left = (read ≡ []) × (text ≡ [])
TellsAs status read text left = Tells status read text left

-- what was read of the source, and written to the sink
pub record Replays (left_old left_new out_old out_new : Option (List ℕ)) (status : Status) : Type 0 where
  pub read : List ℕ
  pub text : List ℕ
  pub consumes : Consumes left_old left_new read
  pub appends : Appends out_old out_new text
  pub tells : TellsAs status read text left_new
