-- What a wire session under way stands for.
use Rattle.flow_notes.specs.Name.{AreNames}
use Rattle.flow_notes.specs.declared.events.Event.{Event}
use Rattle.flow_notes.specs.declared.notes.Note.{Note}
use Rattle.io_ports.specs.declared.octets.NoMemory.{NoMemory}
use Rattle.config_tables.specs.Reading.{config_of}
use Rattle.proxy_config.specs.declared.config.Config.{Config}
use Rattle.session_config.specs.ClusterNames.{names_in, resources_in}
use Rattle.session_lines.specs.WireLines.{IsWireSeen, SpellsNoWire, WireLinesAre, WireSeen, wire_events, wire_lines, wire_text}
use Rattle.session_run.specs.Kinds.{Kind, kind_of}
use Rattle.session_run.specs.declared.player.Went.{Went}
use Rattle.std.specs.Prelude.{Bool, Err, List, Ok, Result, [], false, ℕ, ◌++◌, ◌+◌, ◌∷◌, ◌≡◌}
use Rattle.tape_laws.specs.Dispatches.{turns}
use Rattle.tape_laws.specs.History.{History, NoMark, onto}
use Rattle.tape_laws.specs.Report.{summary_text}
use Rattle.tape_laws.specs.Text.{tape_text}
use Rattle.wire_run.specs.Rows.{limits_of, passes}
use Rattle.wire_run.specs.Stages.{AreStages, HaveRows}
use Rattle.wire_run.specs.Tapes.{WireTape}
use Rattle.wire_run.specs.Worlds.{IsNewTo, StandsFor}
use Rattle.wire_run.specs.declared.play.WirePlay.{WirePlay}
use Rattle.wire_state.specs.Marks.{row_in}
use Rattle.wire_state.specs.Sound.{IsSound}
use Rattle.wire_summary.specs.Levels.{shaped}
use Rattle.wire_summary.specs.Logging.{WireLogIs}
use Rattle.worker_core.specs.Dispatching.{Tells}
use Rattle.session_run.specs.declared.player.Went.TheVariants as went

-- the core is sound and stands behind the last turn note, and the log is that of the notes so far
pub record PlayRests (play : WirePlay) (config : Config) (history : History NoMark) : Type 0 where
  pub well : play.session.failed ≡ false
  pub sound : IsSound play.session.core
  pub turn : play.session.turn ≡ turns history
  pub logs : WireLogIs (limits_of config) play.log history
  pub stages : AreStages play.stages.rows.items config.routes
  -- what waits for the sockets and lies in the places of the bodies is that of the tape's world
  pub octets : StandsFor play.session config history
  pub rows : HaveRows config.routes play.log.levels octets.world.marked

-- the lines were read under the configuration that its octets spell, their events were dispatched, and this is the text of
-- the tape
pub record Played (play : WirePlay) (config_text lines : List ℕ) (count : ℕ) (told : List ℕ) : Type 0 where
  pub config : Config
  pub configured : config_of config_text ≡ Ok config
  pub named : AreNames (names_in config)
  pub seen : WireSeen
  pub history : History NoMark
  pub read : WireLinesAre play.lines (names_in config) (resources_in config) seen
  pub rests : PlayRests play config history
  pub tape : WireTape config seen history
  pub lines_are : lines ≡ wire_text (names_in config) seen
  pub count_is : count ≡ wire_lines seen
  pub told_is : told ≡ tape_text (names_in config) history

-- the line spells nothing that may come next
pub record RefusesLine (play : WirePlay) (line : List ℕ) : Type 0 where
  pub goes : (names : List (List ℕ)) (resources : ℕ) (seen : WireSeen) → WireLinesAre play.lines names resources seen → SpellsNoWire names resources seen line

abbrev pub can_end : WirePlay → Bool
can_end play = play.lines.headed

-- the text is the summary of the tape, where each exchange passes the stages of the route row that its mark names
pub record SumsPlay (play : WirePlay) (text : List ℕ) : Type 0 where
  pub goes : (config : Config) (h : History NoMark) (rests : PlayRests play config h) → text ≡ summary_text (shaped (limits_of config) (passes config.routes (λ x. row_in x rests.octets.world.marked))) h

abbrev pub wire_kind : Kind WirePlay
wire_kind = kind_of Played RefusesLine can_end SumsPlay

-- what one event does: it was dispatched and its notes stand in the text, or nothing of it does
pub record Dispatched (old : WirePlay) (e : Event) (new : WirePlay) (config : Config) (h : History NoMark) (text_old text_new : List ℕ) : Type 0 where
  pub history : History NoMark
  pub notes : List Note
  pub added : List ℕ
  -- the notes of one dispatch, with the next number, stand behind the tape so far
  pub tells : Tells (turns h + 1) e [] notes
  pub behind : history ≡ onto notes h
  pub rests : PlayRests new config history
  pub tape : (seen after : WireSeen) → WireTape config seen h → wire_events after ≡ e ∷ wire_events seen → IsWireSeen (names_in config) (resources_in config) after → WireTape config after history
  pub told : tape_text (names_in config) history ≡ tape_text (names_in config) h ++ added
  pub text : text_new ≡ text_old ++ added
  pub lines : new.lines ≡ old.lines

abbrev pub DispatchedAs : (old : WirePlay) (e : Event) (new : WirePlay) (config : Config) (h : History NoMark) (text_old text_new : List ℕ) → Result Went NoMemory → Type 0
DispatchedAs old e new config h text_old text_new (Ok went.On) = Dispatched old e new config h text_old text_new
DispatchedAs old e new config h text_old text_new (Ok went.Refused) = ⊥
DispatchedAs old e new config h text_old text_new (Err x) = text_new ≡ text_old

pub record PlaysEvent (old : WirePlay) (e : Event) (text_old : List ℕ) (new : WirePlay) (text_new : List ℕ) (result : Result Went NoMemory) : Type 0 where
  pub goes : (config : Config) (h : History NoMark) → old.lines.names ≡ names_in config → IsNewTo e h → PlayRests old config h → DispatchedAs old e new config h text_old text_new result
