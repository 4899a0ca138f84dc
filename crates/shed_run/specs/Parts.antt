-- What playing events does to the wire session under way, and to a text that has lines of what was shed.
use Rattle.flow_notes.specs.declared.events.Event.{Event}
use Rattle.proxy_config.specs.declared.config.Config.{Config}
use Rattle.session_config.specs.ClusterNames.{names_in, resources_in}
use Rattle.session_lines.specs.WireLines.{Behind}
use Rattle.session_lines.specs.WireOrder.{MayFollowWireAll}
use Rattle.shed_points.specs.declared.verdict.Verdict.{Verdict}
use Rattle.shed_run.specs.ShedLines.{At, Placed, conn_of, lines_at}
use Rattle.shed_run.specs.ShedText.{text_with}
use Rattle.std.specs.Prelude.{List, [], length, reverse, ℕ, ◌++◌, ◌+◌, ◌<◌, ◌∷◌, ◌≡◌}
use Rattle.tape_laws.specs.Dispatches.{turns}
use Rattle.tape_laws.specs.History.{History, NoMark}
use Rattle.wire_run.specs.Played.{PlayRests}
use Rattle.wire_run.specs.Tapes.{WireTape}
use Rattle.wire_run.specs.declared.play.WirePlay.{WirePlay}
use Rattle.shed_points.specs.declared.verdict.Verdict.TheVariants as verdict

-- the session stands for a tape of these events, newest first, with no line behind more than all its dispatches
pub record StandsAt (play : WirePlay) (config : Config) (fs : List Event) (lines : List Placed) (h : History NoMark) : Type 0 where
  pub rests : PlayRests play config h
  pub tape : WireTape config (Behind fs) h
  pub none : (n : ℕ) → turns h < n → lines_at n lines ≡ []

-- these events, the first of them first, may come
pub record MayPlay (play : WirePlay) (es : List Event) : Type 0 where
  pub config : Config
  pub fs : List Event
  pub history : History NoMark
  pub named : play.lines.names ≡ names_in config
  pub stands : StandsAt play config fs [] history
  pub may : MayFollowWireAll (names_in config) (resources_in config) (reverse es ++ fs)

-- the session stands for a tape with these events and lines, and what its text has more stands behind what was told
pub record Lands (config : Config) (lines_old : List Placed) (h : History NoMark) (old new : WirePlay) (fs : List Event) (lines : List Placed) (text_old text_new : List ℕ) : Type 0 where
  pub history : History NoMark
  pub added : List ℕ
  pub stands : StandsAt new config fs lines history
  pub told : text_with (names_in config) lines history ≡ text_with (names_in config) lines_old h ++ added
  pub text : text_new ≡ text_old ++ added
  pub lines_stay : new.lines ≡ old.lines

-- the events were played, one after the other
pub record Plays (old : WirePlay) (es : List Event) (text_old : List ℕ) (new : WirePlay) (text_new : List ℕ) : Type 0 where
  pub goes : (config : Config) (fs : List Event) (lines : List Placed) (h : History NoMark) → old.lines.names ≡ names_in config → StandsAt old config fs lines h
      → MayFollowWireAll (names_in config) (resources_in config) (reverse es ++ fs) → Lands config lines h old new (reverse es ++ fs) lines text_old text_new

-- the lines with that of an event that was shed, if it was
abbrev pub with_line : Event → Verdict → (number behind : ℕ) → List Placed → List Placed
with_line e (verdict.Shed p x) number behind lines = At behind (record { number = number; point = p; conn = conn_of e; state = x }) ∷ lines
with_line e v number behind lines = lines

-- what an event comes to was played, the event itself before its line and what is dispatched in its stead behind it
pub record PlaysAs (old : WirePlay) (e : Event) (v : Verdict) (number : ℕ) (before behind : List Event) (text_old : List ℕ) (new : WirePlay) (text_new : List ℕ) : Type 0 where
  pub goes : (config : Config) (fs : List Event) (lines : List Placed) (h : History NoMark) → old.lines.names ≡ names_in config → StandsAt old config fs lines h
      → MayFollowWireAll (names_in config) (resources_in config) (reverse (before ++ behind) ++ fs)
      → Lands config lines h old new (reverse (before ++ behind) ++ fs) (with_line e v number (turns h + length before) lines) text_old text_new
