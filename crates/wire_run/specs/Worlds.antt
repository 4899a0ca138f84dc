-- What the tape of a wire session promises, and what left the connections, in its world.
use Rattle.flow_notes.specs.declared.events.Event.{Event}
use Rattle.proxy_config.specs.declared.config.Config.{Config}
use Rattle.session_lines.specs.WireOrder.{named}
use Rattle.std.specs.Prelude.{List, Option, Some, [], false, if◌then◌else◌, take, ℕ, ◌++◌, ◌==◌, ◌∷◌, ◌≡◌}
use Rattle.tape_laws.specs.Dispatches.{before_dispatch, events_back, has, this_event}
use Rattle.tape_laws.specs.Headline.{Headline}
use Rattle.tape_laws.specs.History.{BeforeTurn, EachFollows, History, NoMark, notes_of}
use Rattle.tape_laws.specs.World.{gone, out}
use Rattle.wire_state.specs.Counts.{EachHeeds}
use Rattle.wire_state.specs.Marks.{AreWays}
use Rattle.wire_state.specs.Taking.{EachTakesWhatLies}
use Rattle.wire_state.specs.Tapes.{tape_setup}
use Rattle.wire_state.specs.Ways.{WayHistory, world_setup}
use Rattle.worker_core.specs.Sessions.{StandsAt}
use Rattle.worker_core.specs.declared.wire.WireSession.{WireSession}
use Rattle.flow_notes.specs.declared.events.Event.TheVariants as event
use Rattle.worker_core.specs.declared.worker.Kind.TheVariants as kind

-- Of what waited for a connection, this leaves by an event: by room the first octets, as many as it tells, or all that wait.
-- No other event lets any go.
abbrev pub leaves_by : Option Event → ℕ → List ℕ → List ℕ
leaves_by (Some (event.Room d n)) c waiting = if d == c then take n waiting else []
leaves_by e c waiting = []

-- in the dispatch that ends here, octets left each connection as its event says
abbrev pub LeavesByRoom : WayHistory → Type 0
LeavesByRoom past = (c : ℕ) → gone world_setup c past ≡ gone world_setup c (before_dispatch past) ++ leaves_by (this_event past) c (out world_setup c (before_dispatch past))

-- The tape with marks: the stages that each exchange passes, which are those of one row of the routes or none, and the stream that its
-- request gets, which no note tells. At each moment what each flow sent on is a front of its body and no buffer holds more than its
-- bound, after each dispatch each live flow is held back as often as it has sources that are above, and octets had left each
-- connection as its event says. No note takes more octets than lie there, and none leave a receive buffer but at count 0.
pub record HasWorld (config : Config) (history : History NoMark) : Type 0 where
  pub marked : WayHistory
  pub notes : notes_of marked ≡ notes_of history
  pub ways : AreWays config marked
  pub promises : Headline (tape_setup config.limits) marked
  pub left : EachFollows (BeforeTurn LeavesByRoom) marked
  pub last : LeavesByRoom marked
  pub taking : EachTakesWhatLies marked
  pub heeding : EachHeeds config.limits marked

-- the session has this configuration, and stands for that tape
pub record StandsFor (session : WireSession) (config : Config) (history : History NoMark) : Type 0 where
  pub under : session.core.config ≡ config
  pub world : HasWorld config history
  pub stands : StandsAt (kind.Wire session) world.marked

-- a connection that comes is none of those that came before
abbrev pub IsNewTo : Event → History NoMark → Type 0
IsNewTo (event.Accept c) h = has (named (events_back h)) c ≡ false
IsNewTo (event.Join c cluster) h = has (named (events_back h)) c ≡ false
IsNewTo e h = Unit {0}
