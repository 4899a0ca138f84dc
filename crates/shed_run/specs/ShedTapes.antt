-- What a run tells of a session whose arrivals pass the load shed points: what a run of a wire session tells of the shed list, with a
-- line for each event that was shed.
use Rattle.config_tables.specs.Reading.{config_of}
use Rattle.proxy_config.specs.declared.config.Config.{Config}
use Rattle.session_config.specs.ClusterNames.{names_in, resources_in}
use Rattle.session_lines.specs.WireLines.{WireSeen, is_headed, wire_events, wire_text}
use Rattle.session_run.specs.Ending.{EndsAs}
use Rattle.session_run.specs.declared.status.Status.{Status}
use Rattle.shed_run.specs.ShedLines.{IsShedSeen, SpellsNoShed, shed_seen}
use Rattle.shed_run.specs.ShedText.{lines_of, text_with}
use Rattle.std.specs.Io.KnownBytes.{Appends, Consumes}
use Rattle.std.specs.Prelude.{List, Ok, Option, ℕ, ◌++◌, ◌≡◌}
use Rattle.tape_laws.specs.History.{History, NoMark}
use Rattle.wire_run.specs.Tapes.{WireTape, last_wire_text}
use Rattle.wire_state.specs.Marks.{row_in}
use Rattle.session_run.specs.declared.status.Status.TheVariants as status

-- As a run of a wire session tells (`TellsWire`), but the tape is that of the shed list of the lines' events, and each event that is shed
-- has its line. No post of a session is one of those that stand for drains that were shed.
pub record TellsShed (status : Status) (config_text read told : List ℕ) (left : Option (List ℕ)) : Type 0 where
  pub config : Config
  pub configured : config_of config_text ≡ Ok config
  pub seen : WireSeen
  pub rows : ℕ → Option ℕ
  pub history : History NoMark
  pub rest : List ℕ
  pub reads : read ≡ wire_text (names_in config) seen ++ rest
  pub may : IsShedSeen (names_in config) (resources_in config) seen
  pub tape : WireTape config (shed_seen config.overload.shed seen) history
  pub ends : EndsAs (SpellsNoShed (names_in config) (resources_in config) seen) (is_headed seen) status (wire_text (names_in config) seen) rest left
  pub marks : (x : ℕ) → rows x ≡ row_in x tape.octets.marked
  pub is : told ≡ text_with (names_in config) (lines_of config.overload.shed (wire_events seen)) history ++ last_wire_text status config rows seen history

-- where the sink failed, what was written is a front of such a text
pub record TellsShedFront (config_text read text : List ℕ) (left : Option (List ℕ)) : Type 0 where
  pub status : Status
  pub whole : List ℕ
  pub rest : List ℕ
  pub front : whole ≡ text ++ rest
  pub tells : TellsShed status config_text read whole left

abbrev pub TellsShedAs : Status → (config_text read text : List ℕ) → Option (List ℕ) → Type 0
TellsShedAs status.WriteFault config_text read text left = TellsShedFront config_text read text left
TellsShedAs status config_text read text left = TellsShed status config_text read text left

-- what was read of the source and written to the sink, under the configuration of this text
pub record RunsShed (config_text : List ℕ) (left_old left_new out_old out_new : Option (List ℕ)) (status : Status) : Type 0 where
  pub read : List ℕ
  pub text : List ℕ
  pub consumes : Consumes left_old left_new read
  pub appends : Appends out_old out_new text
  pub tells : TellsShedAs status config_text read text left_new
