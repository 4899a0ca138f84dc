-- What the replay of a relay's session tells.
use Rattle.flow_notes.specs.Line.{newline}
use Rattle.config_tables.specs.Reading.{config_of}
use Rattle.proxy_config.specs.declared.config.Config.{Config}
use Rattle.relay_laws.specs.Lawful.{IsRelayWhole}
use Rattle.relay_laws.specs.Pairs.{Tape}
use Rattle.relay_laws.specs.Promise.{Relays}
use Rattle.relay_laws.specs.Report.{relay_summary}
use Rattle.relay_run.specs.Lines.{IsRelaySeen, SpellsNoRelay, seen_tape}
use Rattle.relay_run.specs.Terms.{limit_of}
use Rattle.session_config.specs.ClusterNames.{names_in}
use Rattle.session_lines.specs.WireLines.{WireSeen, is_headed, wire_events, wire_lines, wire_text}
use Rattle.session_run.specs.Ending.{EndsAs}
use Rattle.session_run.specs.Tells.{numbered_line}
use Rattle.session_run.specs.declared.status.Status.{Status}
use Rattle.std.specs.Io.KnownBytes.{Appends, Consumes}
use Rattle.std.specs.Prelude.{List, Ok, Option, [], codes, suc, ℕ, ◌++◌, ◌∷◌, ◌≡◌}
use Rattle.tape_laws.specs.Dispatches.{events_back}
use Rattle.tape_laws.specs.Text.{tape_text}
use Rattle.session_run.specs.declared.status.Status.TheVariants as status

-- Lines of which each may come after those before it, none of which reads a paused flow, and the tape of their events: its turn
-- notes show them in order, it is a lawful relay tape of whole dispatches, and it keeps what is promised to an operator.
pub record IsTapeOf (config : Config) (seen : WireSeen) (history : Tape) : Type 0 where
  pub may : IsRelaySeen config seen
  pub is : history ≡ seen_tape config seen
  pub shown : events_back history ≡ wire_events seen
  pub lawful : IsRelayWhole (limit_of config) history
  pub promise : Relays (limit_of config) history

-- the last line or lines, by the status
abbrev pub last_text : Status → Config → WireSeen → Tape → List ℕ
last_text status.Done config seen history = relay_summary (limit_of config) history
last_text status.Session config seen history = numbered_line (codes "refused" ∷ codes "line" ∷ []) (suc (wire_lines seen))
last_text status.TooLong config seen history = codes "refused length session" ++ newline
last_text status config seen history = []

-- the configuration is that of the whole text that was read, and the text told is that of the tape of the lines before the
-- first one that was refused or not read, with the last line or lines of the status
pub record TellsRelay (status : Status) (config_text read told : List ℕ) (left : Option (List ℕ)) : Type 0 where
  pub config : Config
  pub configured : config_of config_text ≡ Ok config
  pub seen : WireSeen
  pub history : Tape
  pub rest : List ℕ
  pub reads : read ≡ wire_text (names_in config) seen ++ rest
  pub tape : IsTapeOf config seen history
  pub ends : EndsAs (SpellsNoRelay config seen) (is_headed seen) status (wire_text (names_in config) seen) rest left
  pub is : told ≡ tape_text (names_in config) history ++ last_text status config seen history

-- where the sink failed, what was written is a front of such a text
pub record TellsRelayFront (config_text read text : List ℕ) (left : Option (List ℕ)) : Type 0 where
  pub status : Status
  pub whole : List ℕ
  pub rest : List ℕ
  pub front : whole ≡ text ++ rest
  pub tells : TellsRelay status config_text read whole left

abbrev pub TellsRelayAs : Status → (config_text read text : List ℕ) → Option (List ℕ) → Type 0
TellsRelayAs status.WriteFault config_text read text left = TellsRelayFront config_text read text left
TellsRelayAs status config_text read text left = TellsRelay status config_text read text left

-- what was read of the session, and written to the sink, under this configuration
pub record ReplaysRelay (config_text : List ℕ) (left_old left_new out_old out_new : Option (List ℕ)) (status : Status) : Type 0 where
  pub read : List ℕ
  pub text : List ℕ
  pub consumes : Consumes left_old left_new read
  pub appends : Appends out_old out_new text
  pub tells : TellsRelayAs status config_text read text left_new
