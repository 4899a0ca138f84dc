-- How what is kept goes on, note by note.
use Rattle.flow_rules.specs.declared.ids.FlowId.{FlowId}
use Rattle.flow_notes.specs.declared.events.Event.{Event}
use Rattle.flow_rules.specs.declared.causes.Cause.{Cause}
use Rattle.flow_notes.specs.declared.notes.CloseCause.{CloseCause}
use Rattle.flow_notes.specs.declared.notes.Note.{Note}
use Rattle.std.specs.Prelude.{Bool, List, None, Option, Some, length, min, ℕ, ◌+◌, ◌∷◌, ◌≡◌}
use Rattle.tape_laws.specs.Connections.{was_closed}
use Rattle.tape_laws.specs.Dispatches.{turns}
use Rattle.tape_laws.specs.History.{History, NoMark, Noted, Step}
use Rattle.tape_plot.specs.Flows.{FlowIs, IsFresh}
use Rattle.tape_plot.specs.Kept.{ConnectionIs, ConnectionsAre, ExchangeIs, ExchangesAre, LevelsAre, PlotIs}
use Rattle.tape_plot.specs.Lanes.{last_of}
use Rattle.tape_plot.specs.Levels.{at, relayed, top, written}
use Rattle.tape_plot.specs.Subjects.{filled_at, flow_id, flow_named, subject_of}
use Rattle.tape_plot.specs.declared.clock.Clock.{Clock}
use Rattle.tape_plot.specs.declared.connection.Connection.{Connection}
use Rattle.tape_plot.specs.declared.connections.Connections.{Connections}
use Rattle.tape_plot.specs.declared.exchange.Exchange.{Exchange}
use Rattle.tape_plot.specs.declared.exchange.Fill.{Fill}
use Rattle.tape_plot.specs.declared.exchanges.Exchanges.{Exchanges}
use Rattle.tape_plot.specs.declared.flow.Flow.{Flow}
use Rattle.tape_plot.specs.declared.levels.Levels.{Levels}
use Rattle.tape_plot.specs.declared.plot.Plot.{Plot}
use Rattle.flow_notes.specs.declared.events.Event.TheVariants as event
use Rattle.flow_notes.specs.declared.notes.Note.TheVariants as note
use Rattle.tape_plot.specs.declared.subject.Subject.TheVariants as subject

-- ---- a flow

-- octets of a flow that is relayed enter no place of its own
abbrev pub Enters : Note → History NoMark → Type 0
Enters (note.Arrive f octets) h = relayed f h ≡ None
Enters other h = Unit {0}

-- with a note of its own
pub record FlowGoes (old : Flow) (n : Note) (clock : Clock) (new : Flow) : Type 0 where
  pub goes : (f : FlowId) (h : History NoMark) → flow_named n ≡ Some f → Enters n h → turns h ≡ clock.turn
      → FlowIs old f clock.first h → FlowIs new f clock.first (Noted n ∷ h)

-- how many octets leave it with a note, where so many lie at its places
abbrev pub framed_by : Note → List ℕ → ℕ
framed_by (note.Frame c f n last) held = min n (at held (top held))
framed_by other held = 0

-- it stands for the same
pub record FlowStays (old new : Flow) : Type 0 where
  pub goes : (f : FlowId) (first : ℕ) (h : History NoMark) → FlowIs old f first h → FlowIs new f first h

-- ---- an exchange

-- before the first note
pub record IsNew (e : Exchange) : Type 0 where
  pub request : IsFresh e.request
  pub response : IsFresh e.response
  pub relay : e.relay ≡ None

-- it begins, perhaps as a relay's pair
pub record Starts (old : Exchange) (c s d : ℕ) (new : Exchange) : Type 0 where
  pub goes : (x first : ℕ) (h : History NoMark) → ExchangeIs old x first h → ExchangeIs new x first (Noted (note.Start x c s d) ∷ h)

-- it is given up
pub record DoomsBoth (old : Exchange) (clock : Clock) (new : Exchange) : Type 0 where
  pub goes : (x : ℕ) (why : Cause) (h : History NoMark) → turns h ≡ clock.turn → ExchangeIs old x clock.first h → ExchangeIs new x clock.first (Noted (note.Doom x why) ∷ h)

-- a note of octets that enter such a flow, and of a frame of one on a connection
abbrev pub IsArrival : Note → Bool → ℕ → Type 0
IsArrival (note.Arrive f octets) back n = (f.back ≡ back) × (length octets ≡ n)
IsArrival other back n = ⊥

abbrev pub IsFrame : Note → Bool → ℕ → Type 0
IsFrame (note.Frame d f n last) back c = (f.back ≡ back) × (d ≡ c)
IsFrame other back c = ⊥

-- with a note of one of its flows
pub record HandsOn (old : Exchange) (back : Bool) (n : Note) (clock : Clock) (new : Exchange) : Type 0 where
  pub goes : (x : ℕ) (h : History NoMark) → flow_named n ≡ Some (flow_id x back) → Enters n h → turns h ≡ clock.turn
      → ExchangeIs old x clock.first h → ExchangeIs new x clock.first (Noted n ∷ h)

-- with a note of it
pub record ExchangeGoes (old : Exchange) (n : Note) (clock : Clock) (new : Exchange) : Type 0 where
  pub goes : (x : ℕ) (h : History NoMark) → subject_of n ≡ subject.Exchange x → turns h ≡ clock.turn
      → ExchangeIs old x clock.first h → ExchangeIs new x clock.first (Noted n ∷ h)

-- what the note brings into write buffers
pub record ExchangeFills (old : Exchange) (n : Note) (fill : Option Fill) : Type 0 where
  pub fills : (x first : ℕ) (h : History NoMark) → subject_of n ≡ subject.Exchange x → ExchangeIs old x first h
      → (c : ℕ) → written c (Noted n ∷ h) ≡ written c h + filled_at fill c

pub record ExchangeStays (old new : Exchange) : Type 0 where
  pub goes : (x first : ℕ) (h : History NoMark) → ExchangeIs old x first h → ExchangeIs new x first h

-- ---- all exchanges

pub record ExchangesGo (old : Exchanges) (n : Note) (clock : Clock) (new : Exchanges) : Type 0 where
  pub goes : (h : History NoMark) → turns h ≡ clock.turn → ExchangesAre old clock.first h → ExchangesAre new clock.first (Noted n ∷ h)

pub record ExchangesFill (old : Exchanges) (n : Note) (fill : Option Fill) : Type 0 where
  pub fills : (first : ℕ) (h : History NoMark) → ExchangesAre old first h → (c : ℕ) → written c (Noted n ∷ h) ≡ written c h + filled_at fill c

pub record ExchangesStay (old new : Exchanges) : Type 0 where
  pub goes : (first : ℕ) (h : History NoMark) → ExchangesAre old first h → ExchangesAre new first h

-- ---- a connection

-- what its write buffer holds
abbrev pub level_of : Connection → ℕ
level_of k = last_of k.write.lane.base k.write.lane.points.items

-- it is closed, and with it lost perhaps; or lost after it was closed
pub record Closes (old : Connection) (cause : CloseCause) (clock : Clock) (new : Connection) : Type 0 where
  pub goes : (c code : ℕ) (h : History NoMark) → turns h ≡ clock.turn → ConnectionIs old c clock.first h → ConnectionIs new c clock.first (Noted (note.Close c code cause) ∷ h)

pub record Forgets (old : Connection) (clock : Clock) (new : Connection) : Type 0 where
  pub goes : (c k : ℕ) (h : History NoMark) → turns (Noted (note.Turn k (event.Gone c)) ∷ h) ≡ clock.turn
      → ConnectionIs old c clock.first h → ConnectionIs new c clock.first (Noted (note.Turn k (event.Gone c)) ∷ h)

pub record ConnectionStays (old new : Connection) : Type 0 where
  pub goes : (c first : ℕ) (h : History NoMark) → ConnectionIs old c first h → ConnectionIs new c first h

-- with a note of it
pub record ConnectionGoes (old : Connection) (n : Note) (clock : Clock) (new : Connection) : Type 0 where
  pub goes : (c : ℕ) (h : History NoMark) → subject_of n ≡ subject.Connection c → turns (Noted n ∷ h) ≡ clock.turn
      → ConnectionIs old c clock.first h → ConnectionIs new c clock.first (Noted n ∷ h)

-- with the turn note of an event
pub record Turns (old : Connection) (e : Event) (clock : Clock) (new : Connection) : Type 0 where
  pub goes : (k : ℕ) → ConnectionGoes old (note.Turn k e) clock new

-- ---- all connections

pub record ConnectionsGo (old : Connections) (n : Note) (clock : Clock) (new : Connections) : Type 0 where
  pub goes : (h : History NoMark) → turns (Noted n ∷ h) ≡ clock.turn → ConnectionsAre old clock.first h → ConnectionsAre new clock.first (Noted n ∷ h)

-- with a step that brings octets to one of them
pub record ConnectionsFill (old : Connections) (fill : Option Fill) (clock : Clock) (new : Connections) : Type 0 where
  pub goes : (step : Step NoMark) (h : History NoMark) → turns (step ∷ h) ≡ clock.turn
      → ((c : ℕ) → written c (step ∷ h) ≡ written c h + filled_at fill c) → ((c : ℕ) → was_closed c (step ∷ h) ≡ was_closed c h)
      → ConnectionsAre old clock.first h → ConnectionsAre new clock.first (step ∷ h)

pub record ConnectionsStay (old new : Connections) : Type 0 where
  pub goes : (first : ℕ) (h : History NoMark) → ConnectionsAre old first h → ConnectionsAre new first h

-- ---- all of it

pub record LevelsGo (old : Levels) (n : Note) (clock : Clock) (new : Levels) : Type 0 where
  pub goes : (h : History NoMark) → turns (Noted n ∷ h) ≡ clock.turn → LevelsAre old clock.first h → LevelsAre new clock.first (Noted n ∷ h)

pub record LevelsStay (old new : Levels) : Type 0 where
  pub goes : (first : ℕ) (h : History NoMark) → LevelsAre old first h → LevelsAre new first h

pub record PlotGoes (old : Plot) (n : Note) (new : Plot) : Type 0 where
  pub goes : (first last : ℕ) (h : History NoMark) → PlotIs old first last h → PlotIs new first last (Noted n ∷ h)

pub record PlotStays (old new : Plot) : Type 0 where
  pub goes : (first last : ℕ) (h : History NoMark) → PlotIs old first last h → PlotIs new first last h
