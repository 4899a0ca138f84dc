-- What a session under way stands for whose arrivals pass the load shed points.
use Rattle.config_tables.specs.Reading.{config_of}
use Rattle.flow_notes.specs.Name.{AreNames}
use Rattle.flow_notes.specs.declared.events.Event.{Event}
use Rattle.io_ports.specs.declared.octets.NoMemory.{NoMemory}
use Rattle.proxy_config.specs.declared.config.Config.{Config}
use Rattle.session_config.specs.ClusterNames.{names_in, resources_in}
use Rattle.session_lines.specs.WireLines.{WireLinesAre, WireSeen, wire_events, wire_lines, wire_text}
use Rattle.session_run.specs.Kinds.{Kind, kind_of}
use Rattle.session_run.specs.declared.player.Went.{Went}
use Rattle.shed_points.specs.Shedders.{ShedderIs}
use Rattle.shed_points.specs.Shedding.{judged}
use Rattle.shed_run.specs.ShedLines.{IsShedSeen, SpellsNoShed, is_own, shed_seen}
use Rattle.shed_run.specs.ShedText.{lines_of, text_with}
use Rattle.shed_run.specs.declared.play.ShedPlay.{ShedPlay}
use Rattle.std.specs.Prelude.{Bool, Err, List, Ok, Result, false, length, true, ℕ, ◌++◌, ◌∷◌, ◌≡◌}
use Rattle.tape_laws.specs.History.{History, NoMark}
use Rattle.wire_run.specs.Played as wire
use Rattle.wire_run.specs.Played.{PlayRests}
use Rattle.wire_run.specs.Tapes.{WireTape}
use Rattle.session_run.specs.declared.player.Went.TheVariants as went

-- the events were judged, what they come to was dispatched, and the tape and the core are those of the shed list
pub record PlayIs (play : ShedPlay) (config : Config) (seen : WireSeen) (history : History NoMark) : Type 0 where
  pub shedder : ShedderIs play.shedder config.overload.shed (judged config.overload.shed (wire_events seen))
  pub events : play.events ≡ length (wire_events seen)
  pub rests : PlayRests play.play config history
  pub may : IsShedSeen (names_in config) (resources_in config) seen
  pub tape : WireTape config (shed_seen config.overload.shed seen) history

-- the lines were read under the configuration that its octets spell, and this is the text of the tape with its shed lines
pub record Played (play : ShedPlay) (config_text lines : List ℕ) (count : ℕ) (told : List ℕ) : Type 0 where
  pub config : Config
  pub configured : config_of config_text ≡ Ok config
  pub named : AreNames (names_in config)
  pub seen : WireSeen
  pub history : History NoMark
  pub read : WireLinesAre play.play.lines (names_in config) (resources_in config) seen
  pub is : PlayIs play config seen history
  pub lines_are : lines ≡ wire_text (names_in config) seen
  pub count_is : count ≡ wire_lines seen
  pub told_is : told ≡ text_with (names_in config) (lines_of config.overload.shed (wire_events seen)) history

-- the line spells nothing that may come
pub record RefusesLine (play : ShedPlay) (line : List ℕ) : Type 0 where
  pub goes : (names : List (List ℕ)) (resources : ℕ) (seen : WireSeen) → WireLinesAre play.play.lines names resources seen → SpellsNoShed names resources seen line

abbrev pub can_end : ShedPlay → Bool
can_end play = play.play.lines.headed

-- the text is the summary of the tape of the shed list
abbrev pub SumsPlay : ShedPlay → List ℕ → Type 0
SumsPlay play text = wire.SumsPlay play.play text

abbrev pub shed_kind : Kind ShedPlay
shed_kind = kind_of Played RefusesLine can_end SumsPlay

-- what one event does: it was judged, and what it comes to was dispatched and stands in the text, or nothing of it does
pub record Happens (play : ShedPlay) (e : Event) (new : ShedPlay) (config : Config) (seen after : WireSeen) (h : History NoMark) (text_old text_new : List ℕ) : Type 0 where
  pub history : History NoMark
  pub added : List ℕ
  pub is : PlayIs new config after history
  pub told : text_with (names_in config) (lines_of config.overload.shed (wire_events after)) history ≡ text_with (names_in config) (lines_of config.overload.shed (wire_events seen)) h ++ added
  pub text : text_new ≡ text_old ++ added
  pub lines : new.play.lines ≡ play.play.lines

abbrev pub HappensAs : (old : ShedPlay) (e : Event) (new : ShedPlay) (config : Config) (seen after : WireSeen) (h : History NoMark) (text_old text_new : List ℕ) → Result Went NoMemory → Type 0
HappensAs old e new config seen after h text_old text_new (Ok went.On) = Happens old e new config seen after h text_old text_new
HappensAs old e new config seen after h text_old text_new (Ok went.Refused) = ⊥
HappensAs old e new config seen after h text_old text_new (Err x) = text_new ≡ text_old

pub record PlaysEvent (old : ShedPlay) (e : Event) (text_old : List ℕ) (new : ShedPlay) (text_new : List ℕ) (result : Result Went NoMemory) : Type 0 where
  pub goes : (config : Config) (seen after : WireSeen) (h : History NoMark) → old.play.lines.names ≡ names_in config → wire_events after ≡ e ∷ wire_events seen → IsShedSeen (names_in config) (resources_in config) after → PlayIs old config seen h
      → HappensAs old e new config seen after h text_old text_new result

-- the event may come next
pub record CanTake (play : ShedPlay) (e : Event) : Type 0 where
  pub config : Config
  pub seen : WireSeen
  pub after : WireSeen
  pub history : History NoMark
  pub named : play.play.lines.names ≡ names_in config
  pub is : PlayIs play config seen history
  pub more : wire_events after ≡ e ∷ wire_events seen
  pub may : IsShedSeen (names_in config) (resources_in config) after

-- an event that came next, where the shedder's own posts are refused
pub record TakesEvent (old : ShedPlay) (e : Event) (text_old : List ℕ) (new : ShedPlay) (text_new : List ℕ) (result : Result Went NoMemory) : Type 0 where
  pub own : is_own e ≡ true → (result ≡ Ok went.Refused) × (text_new ≡ text_old)
  pub other : is_own e ≡ false → PlaysEvent old e text_old new text_new result
