-- What a relay's session under way stands for.
use Rattle.flow_notes.specs.Name.{AreNames}
use Rattle.flow_notes.specs.declared.events.Event.{Event}
use Rattle.io_ports.specs.declared.octets.NoMemory.{NoMemory}
use Rattle.config_tables.specs.Reading.{config_of}
use Rattle.proxy_config.specs.declared.config.Config.{Config}
use Rattle.relay_laws.specs.Order.{MayCome}
use Rattle.relay_laws.specs.Pairs.{Tape}
use Rattle.relay_laws.specs.Session.{reads_paused}
use Rattle.relay_run.specs.Lines.{IsRelaySeen, SpellsNoRelay, seen_tape}
use Rattle.relay_run.specs.Logs.{RelayLogIs}
use Rattle.relay_run.specs.Summaries.{SumsLog}
use Rattle.relay_run.specs.Terms.{limit_of}
use Rattle.session_config.specs.ClusterNames.{names_in, resources_in}
use Rattle.relay_run.specs.declared.play.RelayPlay.{RelayPlay}
use Rattle.session_lines.specs.WireLines.{WireLinesAre, WireSeen, wire_events, wire_lines, wire_text}
use Rattle.session_run.specs.Kinds.{Kind, kind_of}
use Rattle.session_run.specs.declared.player.Went.{Went}
use Rattle.std.specs.Prelude.{Bool, Err, List, Ok, Result, false, true, ℕ, ◌++◌, ◌∷◌, ◌≡◌}
use Rattle.tape_laws.specs.Dispatches.{events_back}
use Rattle.tape_laws.specs.Text.{tape_text}
use Rattle.tcp_relay.specs.Rests.{Rests}
use Rattle.session_run.specs.declared.player.Went.TheVariants as went

-- it stands for these lines, under this configuration: the relay and the log for the tape of their events
pub record PlayIs (config : Config) (play : RelayPlay) (seen : WireSeen) : Type 0 where
  pub named : AreNames (names_in config)
  pub lines : WireLinesAre play.lines (names_in config) (resources_in config) seen
  pub rests : Rests (limit_of config) (names_in config) play.relay (seen_tape config seen)
  pub logs : RelayLogIs (limit_of config) play.log (seen_tape config seen)
  pub may : IsRelaySeen config seen
  pub shown : events_back (seen_tape config seen) ≡ wire_events seen

-- the lines were read, their events were dispatched, and this is the text of the tape
pub record Played (play : RelayPlay) (config_text lines : List ℕ) (count : ℕ) (told : List ℕ) : Type 0 where
  pub config : Config
  pub configured : config_of config_text ≡ Ok config
  pub seen : WireSeen
  pub plays : PlayIs config play seen
  pub lines_are : lines ≡ wire_text (names_in config) seen
  pub count_is : count ≡ wire_lines seen
  pub told_is : told ≡ tape_text (names_in config) (seen_tape config seen)

-- the line spells nothing that may come next
pub record RefusesLine (play : RelayPlay) (line : List ℕ) : Type 0 where
  pub goes : (config : Config) (seen : WireSeen) → PlayIs config play seen → SpellsNoRelay config seen line

abbrev pub can_end : RelayPlay → Bool
can_end play = play.lines.headed

abbrev pub SumsPlay : RelayPlay → List ℕ → Type 0
SumsPlay play text = SumsLog play.log text

abbrev pub relay_kind : Kind RelayPlay
relay_kind = kind_of Played RefusesLine can_end SumsPlay

-- a relay at rest, and an event that may come
pub record CanTake (play : RelayPlay) (e : Event) : Type 0 where
  pub limit : ℕ
  pub names : List (List ℕ)
  pub history : Tape
  pub named : play.lines.names ≡ names
  pub rests : Rests limit names play.relay history
  pub may : MayCome names (events_back history) e

-- what one event does: it was dispatched and its notes stand in the text
pub record Dispatched (limit : ℕ) (names : List (List ℕ)) (old : RelayPlay) (e : Event) (new : RelayPlay) (h : Tape) (text_old text_new : List ℕ) : Type 0 where
  pub history : Tape
  pub added : List ℕ
  pub rests : Rests limit names new.relay history
  pub logs : RelayLogIs limit new.log history
  pub events : events_back history ≡ e ∷ events_back h
  pub tape : tape_text names history ≡ tape_text names h ++ added
  pub text : text_new ≡ text_old ++ added
  pub lines : new.lines ≡ old.lines

-- or it reads a paused flow
pub record IsHeldBack (limit : ℕ) (e : Event) (h : Tape) (text_old text_new : List ℕ) : Type 0 where
  pub paused : reads_paused limit e h ≡ true
  pub text : text_new ≡ text_old

abbrev pub DispatchedAs : (limit : ℕ) (names : List (List ℕ)) (old : RelayPlay) (e : Event) (new : RelayPlay) (h : Tape) (text_old text_new : List ℕ) → Result Went NoMemory → Type 0
DispatchedAs limit names old e new h text_old text_new (Ok went.On) = Dispatched limit names old e new h text_old text_new
DispatchedAs limit names old e new h text_old text_new (Ok went.Refused) = IsHeldBack limit e h text_old text_new
DispatchedAs limit names old e new h text_old text_new (Err x) = text_new ≡ text_old

pub record PlaysEvent (old : RelayPlay) (e : Event) (text_old : List ℕ) (new : RelayPlay) (text_new : List ℕ) (result : Result Went NoMemory) : Type 0 where
  pub goes : (limit : ℕ) (names : List (List ℕ)) (h : Tape) → old.lines.names ≡ names → Rests limit names old.relay h → MayCome names (events_back h) e
      → RelayLogIs limit old.log h → DispatchedAs limit names old e new h text_old text_new result
