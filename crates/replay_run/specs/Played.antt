-- What a plain session under way stands for.
use Rattle.flow_notes.specs.declared.events.Event.{Event}
use Rattle.io_ports.specs.declared.octets.NoMemory.{NoMemory}
use Rattle.plain_core.specs.Stands.{Rests}
use Rattle.replay_run.specs.SeenTape.{IsTape}
use Rattle.replay_run.specs.declared.play.Play.{Play}
use Rattle.session_lines.specs.Orders.{OrderIs, has_played}
use Rattle.session_lines.specs.Seen.{Seen, SpellsNothing, seen_lines, seen_text}
use Rattle.session_run.specs.Kinds.{Kind, kind_of}
use Rattle.session_run.specs.declared.player.Went.{Went}
use Rattle.std.specs.Prelude.{Bool, Err, List, Ok, Result, [], ℕ, ◌++◌, ◌∷◌, ◌≡◌}
use Rattle.tape_laws.specs.Connections.{connections}
use Rattle.tape_laws.specs.Dispatches.{events_back}
use Rattle.tape_laws.specs.Following.{MayFollowAll}
use Rattle.tape_laws.specs.History.{History, NoMark}
use Rattle.tape_laws.specs.Plain.{plain_setup}
use Rattle.tape_laws.specs.Report.{summary_text}
use Rattle.tape_laws.specs.Text.{tape_text}
use Rattle.tape_laws.specs.declared.PlainLimits.{PlainLimits}
use Rattle.tape_summary.specs.Logging.{TapeLogIs}
use Rattle.session_run.specs.declared.player.Went.TheVariants as went

-- the lines were read, their events were dispatched, and this is the text of the tape; a plain session has no configuration
pub record Played (play : Play) (config lines : List ℕ) (count : ℕ) (told : List ℕ) : Type 0 where
  pub seen : Seen
  pub limits : PlainLimits
  pub history : History NoMark
  pub order : OrderIs play.order seen
  pub rests : Rests limits play.core history
  pub logs : TapeLogIs limits play.log history
  pub tape : IsTape seen limits history
  pub lines_are : lines ≡ seen_text seen
  pub count_is : count ≡ seen_lines seen
  pub told_is : told ≡ tape_text [] history

-- the limits of a session were read: no event of it has come
pub record IsBegun (limits : PlainLimits) (old new : Play) : Type 0 where
  pub order : new.order ≡ old.order
  pub rests : Rests limits new.core []
  pub logs : TapeLogIs limits new.log []

-- the line spells nothing that may come next
pub record RefusesLine (play : Play) (line : List ℕ) : Type 0 where
  pub goes : (seen : Seen) → OrderIs play.order seen → SpellsNothing seen line

abbrev pub can_end : Play → Bool
can_end play = has_played play.order

-- the text is the summary of the tape, of one connection
pub record SumsPlay (play : Play) (text : List ℕ) : Type 0 where
  pub goes : (limits : PlainLimits) (h : History NoMark) → TapeLogIs limits play.log h → connections (plain_setup limits) h ≡ 0 ∷ []
      → text ≡ summary_text (plain_setup limits) h

abbrev pub plain_kind : Kind Play
plain_kind = kind_of Played RefusesLine can_end SumsPlay

-- what one event does: it was dispatched and its notes stand in the text, or nothing of it does
pub record Dispatched (old : Play) (e : Event) (new : Play) (limits : PlainLimits) (h : History NoMark) (text_old text_new : List ℕ) : Type 0 where
  pub history : History NoMark
  pub added : List ℕ
  pub rests : Rests limits new.core history
  pub logs : TapeLogIs limits new.log history
  pub events : events_back history ≡ e ∷ events_back h
  pub tape : tape_text [] history ≡ tape_text [] h ++ added
  pub text : text_new ≡ text_old ++ added
  pub order : new.order ≡ old.order

abbrev pub DispatchedAs : (old : Play) (e : Event) (new : Play) (limits : PlainLimits) (h : History NoMark) (text_old text_new : List ℕ) → Result Went NoMemory → Type 0
DispatchedAs old e new limits h text_old text_new (Ok went.On) = Dispatched old e new limits h text_old text_new
DispatchedAs old e new limits h text_old text_new (Ok went.Refused) = ⊥
DispatchedAs old e new limits h text_old text_new (Err x) = text_new ≡ text_old

pub record PlaysEvent (old : Play) (e : Event) (text_old : List ℕ) (new : Play) (text_new : List ℕ) (result : Result Went NoMemory) : Type 0 where
  pub goes : (limits : PlainLimits) (h : History NoMark) → Rests limits old.core h → MayFollowAll (e ∷ events_back h) → TapeLogIs limits old.log h
      → DispatchedAs old e new limits h text_old text_new result
