-- A core of plain sessions, or of wire sessions.
use Rattle.flow_notes.specs.declared.events.Event.{Event}
use Rattle.flow_notes.specs.declared.notes.Note.{Note}
use Rattle.plain_core.specs.Runs.{CutsTurn, Turns}
use Rattle.plain_core.specs.Stands.{CanTake, Rests, WaitsInFront}
use Rattle.overload_core.specs.ActionStates.{is_saturated}
use Rattle.proxy_config.specs.declared.config.Config.{Config}
use Rattle.std.specs.Prelude.{Bool, List, None, Option, [], false, not, true, ℕ, ◌<◌, ◌≡◌}
use Rattle.tape_laws.specs.Headline.{Headline}
use Rattle.tape_laws.specs.World.{gone}
use Rattle.tape_laws.specs.declared.PlainLimits.{PlainLimits}
use Rattle.wire_state.specs.Counts.{EachHeeds}
use Rattle.wire_state.specs.Marks.{AreWays}
use Rattle.wire_state.specs.Sound.{IsSound, is_open_at}
use Rattle.wire_state.specs.Taking.{EachTakesWhatLies}
use Rattle.wire_state.specs.Tapes.{tape_setup}
use Rattle.wire_state.specs.Ways.{WayHistory, WayStep, after, shown, world_setup}
use Rattle.wire_state.specs.Worlds.{Rests as RestsAt, left_after}
use Rattle.worker_core.specs.Dispatching.{Breaks, Dispatches}
use Rattle.worker_core.specs.Fronts.{IsFront, IsLeastAbove, has_octets, is_there, octets_at}
use Rattle.worker_core.specs.declared.worker.Kind.{Kind}
use Rattle.worker_core.specs.declared.worker.Kind.TheVariants as kind

-- wire sessions before or between dispatches that were carried out
abbrev pub RestsWire : Kind → Type 0
RestsWire (kind.Plain core) = ⊥
RestsWire (kind.Wire session) = (session.failed ≡ false) × IsSound session.core

-- wire sessions before their first event, under this configuration
abbrev pub IsNew : Config → Kind → Type 0
IsNew config (kind.Plain core) = ⊥
IsNew config (kind.Wire session) = (session.core.config ≡ config) × (session.core.conns.entries ≡ []) × (session.turn ≡ 0) × (session.obeyed ≡ 0)

-- a plain session before its first event
abbrev pub RestsPlain : PlainLimits → Kind → Type 0
RestsPlain limits (kind.Plain core) = Rests limits core []
RestsPlain limits (kind.Wire session) = ⊥

-- it ran out of memory in an earlier dispatch
abbrev pub has_failed : Kind → Bool
has_failed (kind.Plain core) = core.failed
has_failed (kind.Wire session) = session.failed

-- it may take the event
abbrev pub MayTake : Kind → List Note → Event → Type 0
MayTake (kind.Plain core) notes e = core.failed ≡ false → CanTake core e notes
MayTake (kind.Wire session) notes e = session.failed ≡ false → IsSound session.core

-- it carried the event out
abbrev pub CarriesOut : Kind → List Note → Event → Kind → List Note → Type 0
CarriesOut (kind.Plain old) before e (kind.Plain new) after = Turns old before e new after
CarriesOut (kind.Wire old) before e (kind.Wire new) after = Dispatches old before e new after
CarriesOut old before e new after = ⊥

-- what was told of it, also where memory was refused
abbrev pub BreaksOff : Kind → List Note → Event → List Note → Type 0
BreaksOff (kind.Plain old) before e after = CutsTurn old before e after
BreaksOff (kind.Wire old) before e after = Breaks old before e after

-- a plain session has connection 0 alone
abbrev pub LendsFront : Kind → ℕ → List ℕ → Type 0
LendsFront (kind.Plain core) c octets = (c ≡ 0 → WaitsInFront core octets) × (0 < c → octets ≡ [])
LendsFront (kind.Wire session) c octets = IsFront octets (octets_at c session.core)

-- the connection, which came, isn't open any more
abbrev pub is_closing : Kind → ℕ → Bool
is_closing (kind.Plain core) c = false
is_closing (kind.Wire session) c = not (is_open_at c session.core)

-- the version that was obeyed last
abbrev pub version_of : Kind → ℕ
version_of (kind.Plain core) = 0
version_of (kind.Wire session) = session.obeyed

-- whether `stop_accepting` isn't saturated
abbrev pub takes_clients : Kind → Bool
takes_clients (kind.Plain core) = true
takes_clients (kind.Wire session) = not (is_saturated session.core.load.actions.stop_accepting)

-- a plain session has no connection above 0
abbrev pub IsNextConn : Kind → ℕ → Option ℕ → Type 0
IsNextConn (kind.Plain core) after next = next ≡ None
IsNextConn (kind.Wire session) after next = IsLeastAbove after (is_there session.core) next

-- the next connection with octets that wait for its socket
abbrev pub IsNextOut : Kind → ℕ → Option ℕ → Type 0
IsNextOut (kind.Plain core) after next = next ≡ None
IsNextOut (kind.Wire session) after next = IsLeastAbove after (has_octets session.core) next

-- ---- the octets of a tape's world
-- The core stands for the history: what waits for each socket and lies in each place of a body, each stream, and which
-- connections are open, are those of its world, and at each moment so far what each flow had sent on was a front of what had been
-- read for it, and no buffer had held more than its bound. It counts as the history does, and nobody is still to be told of a
-- drain.
abbrev pub StandsAt : Kind → WayHistory → Type 0
StandsAt (kind.Plain core) h = ⊥
StandsAt (kind.Wire session) h = RestsAt session.core.config.limits session.core.conns session.core.flows session.core.links h

-- the history has all that a tape of whole dispatches promises, by the limits of the core
abbrev pub PromisesAt : Kind → WayHistory → Type 0
PromisesAt (kind.Plain core) h = ⊥
PromisesAt (kind.Wire session) h = Headline (tape_setup session.core.config.limits) h

-- each note so far took no more octets than lay there, and heeded the counts
abbrev pub KeepsTo : Kind → WayHistory → Type 0
KeepsTo (kind.Plain core) h = ⊥
KeepsTo (kind.Wire session) h = EachTakesWhatLies h × EachHeeds session.core.config.limits h

-- the configuration is as it was
abbrev pub SameConfig : Kind → Kind → Type 0
SameConfig (kind.Wire old) (kind.Wire new) = new.core.config ≡ old.core.config
SameConfig old new = ⊥

-- the marks of the history are those of its start notes, by the routes of the core
abbrev pub WaysAt : Kind → WayHistory → Type 0
WaysAt (kind.Plain core) h = ⊥
WaysAt (kind.Wire session) h = AreWays session.core.config h

-- what has left each connection once an event was carried out, where g had left it before
abbrev pub left_at : Event → Kind → (ℕ → List ℕ) → ℕ → List ℕ
left_at e (kind.Plain core) g = g
left_at e (kind.Wire session) g = left_after e session.core.conns g

-- The notes are those of some steps, and the core, with the configuration that it had, stands for the history with these behind it.
-- What has left each connection then is told beside it, and that the marks are tied.
pub record GoesOn (old : Kind) (h : WayHistory) (g : ℕ → List ℕ) (new : Kind) (notes : List Note) : Type 0 where
  pub steps : List WayStep
  pub is : notes ≡ shown steps
  pub stands : StandsAt new (after steps h)
  pub left : (c : ℕ) → gone world_setup c (after steps h) ≡ g c
  pub under : SameConfig old new
  pub ways : WaysAt old h → WaysAt old (after steps h)
