-- What a run of a wire session tells.
use Rattle.flow_notes.specs.Line.{newline}
use Rattle.flow_notes.specs.Note.{IsNote}
use Rattle.config_tables.specs.Reading.{config_of}
use Rattle.proxy_config.specs.declared.config.Config.{Config}
use Rattle.session_config.specs.ClusterNames.{names_in, resources_in}
use Rattle.session_lines.specs.WireLines.{IsWireSeen, SpellsNoWire, WireSeen, is_headed, wire_events, wire_lines, wire_text}
use Rattle.session_run.specs.Ending.{EndsAs}
use Rattle.session_run.specs.Tells.{numbered_line}
use Rattle.session_run.specs.declared.status.Status.{Status}
use Rattle.std.specs.Io.KnownBytes.{Appends, Consumes}
use Rattle.std.specs.List.{AllByRecursion}
use Rattle.std.specs.Prelude.{List, Ok, Option, [], codes, suc, ℕ, ◌++◌, ◌+◌, ◌<◌, ◌∷◌, ◌≡◌}
use Rattle.tape_laws.specs.Dispatches.{events_back, turns}
use Rattle.tape_laws.specs.History.{History, NoMark, Noted, notes_of}
use Rattle.tape_laws.specs.Report.{summary_text}
use Rattle.tape_laws.specs.Text.{tape_text}
use Rattle.wire_state.specs.Marks.{row_in}
use Rattle.wire_run.specs.Rows.{limits_of, passes}
use Rattle.wire_run.specs.Worlds.{HasWorld}
use Rattle.wire_summary.specs.Levels.{shaped}
use Rattle.flow_notes.specs.declared.notes.Note.TheVariants as note
use Rattle.session_run.specs.declared.status.Status.TheVariants as status

-- the turn notes are numbered from 1, and nothing stands before the first
abbrev pub AreTurnsInOrder : History NoMark → Type 0
AreTurnsInOrder [] = Unit {0}
AreTurnsInOrder (Noted (note.Turn k e) ∷ past) = (k ≡ turns past + 1) × AreTurnsInOrder past
AreTurnsInOrder (step ∷ past) = (0 < turns past) × AreTurnsInOrder past

-- The tape of a session's lines: whole dispatches, of whose turn notes each shows the event of a line, in order and once. A
-- law that wire tapes are proved to keep is a field more.
pub record WireTape (config : Config) (seen : WireSeen) (history : History NoMark) : Type 0 where
  pub may : IsWireSeen (names_in config) (resources_in config) seen
  pub shown : events_back history ≡ wire_events seen
  pub in_order : AreTurnsInOrder history
  pub spelled : AllByRecursion (IsNote (names_in config)) (notes_of history)
  -- what is sent on is what was read, no buffer holds more than its bound, and octets leave the connections by events of room alone
  pub octets : HasWorld config history

-- the last line or lines, by the status; the stages are those of the exchanges' route rows
abbrev pub last_wire_text : Status → Config → (ℕ → Option ℕ) → WireSeen → History NoMark → List ℕ
last_wire_text status.Done config rows seen history = summary_text (shaped (limits_of config) (passes config.routes rows)) history
last_wire_text status.Session config rows seen history = numbered_line (codes "refused" ∷ codes "line" ∷ []) (suc (wire_lines seen))
last_wire_text status.TooLong config rows seen history = codes "refused length session" ++ newline
last_wire_text status config rows seen history = []

-- the configuration is that of its whole text, and what is told is the text of a tape of the lines before the first one that
-- was refused or not read, with the last line or lines of the status
pub record TellsWire (status : Status) (config_text read told : List ℕ) (left : Option (List ℕ)) : Type 0 where
  pub config : Config
  pub configured : config_of config_text ≡ Ok config
  pub seen : WireSeen
  pub rows : ℕ → Option ℕ
  pub history : History NoMark
  pub rest : List ℕ
  pub reads : read ≡ wire_text (names_in config) seen ++ rest
  pub tape : WireTape config seen history
  pub ends : EndsAs (SpellsNoWire (names_in config) (resources_in config) seen) (is_headed seen) status (wire_text (names_in config) seen) rest left
  -- the rows are those that the marks of the tape's world name
  pub marks : (x : ℕ) → rows x ≡ row_in x tape.octets.marked
  pub is : told ≡ tape_text (names_in config) history ++ last_wire_text status config rows seen history

-- where the sink failed, what was written is a front of such a text
pub record TellsWireFront (config_text read text : List ℕ) (left : Option (List ℕ)) : Type 0 where
  pub status : Status
  pub whole : List ℕ
  pub rest : List ℕ
  pub front : whole ≡ text ++ rest
  pub tells : TellsWire status config_text read whole left

abbrev pub TellsWireAs : Status → (config_text read text : List ℕ) → Option (List ℕ) → Type 0
TellsWireAs status.WriteFault config_text read text left = TellsWireFront config_text read text left
TellsWireAs status config_text read text left = TellsWire status config_text read text left

-- what was read of the source and written to the sink, under the configuration of this text
pub record RunsWire (config_text : List ℕ) (left_old left_new out_old out_new : Option (List ℕ)) (status : Status) : Type 0 where
  pub read : List ℕ
  pub text : List ℕ
  pub consumes : Consumes left_old left_new read
  pub appends : Appends out_old out_new text
  pub tells : TellsWireAs status config_text read text left_new
