-- What is kept of a tape: the lanes of all places, counts and write buffers stand for what the tape tells.
use Rattle.flow_rules.specs.declared.ids.FlowId.{FlowId}
use Rattle.std.specs.BTreeMap.{get}
use Rattle.std.specs.Ordering.{nat_cmp}
use Rattle.std.specs.Prelude.{Bool, None, Option, Some, [], false, if◌then◌else◌, nat_lt, true, ℕ, ◌∷◌, ◌≡◌}
use Rattle.tape_laws.specs.Connections.{was_closed}
use Rattle.tape_laws.specs.Dispatches.{turns}
use Rattle.tape_laws.specs.History.{History, NoMark}
use Rattle.tape_laws.specs.Pauses.{pauses, resumes}
use Rattle.tape_plot.specs.Flows.{FlowIs, LanesAre}
use Rattle.tape_plot.specs.Lanes.{LaneIs, drawn_of, fresh}
use Rattle.tape_plot.specs.Levels.{places, relayed, shown_count, was_doomed, written}
use Rattle.tape_plot.specs.Subjects.{flow_id}
use Rattle.tape_plot.specs.declared.connection.Connection.{Connection}
use Rattle.tape_plot.specs.declared.connections.Connections.{Connections}
use Rattle.tape_plot.specs.declared.exchange.Exchange.{Exchange}
use Rattle.tape_plot.specs.declared.exchange.Relay.{Relay}
use Rattle.tape_plot.specs.declared.exchanges.Exchanges.{Exchanges}
use Rattle.tape_plot.specs.declared.levels.Levels.{Levels}
use Rattle.tape_plot.specs.declared.plot.Plot.{Plot}

-- ---- exchanges

-- the connection that a flow of a relay's pair goes to
abbrev pub goes_to : Option Relay → Bool → Option ℕ
goes_to None back = None
goes_to (Some relay) back = Some (if back then relay.client else relay.cluster)

-- what is kept of an exchange, after a history
pub record ExchangeIs (e : Exchange) (x first : ℕ) (h : History NoMark) : Type 0 where
  pub request : FlowIs e.request (flow_id x false) first h
  pub response : FlowIs e.response (flow_id x true) first h
  pub relay : (back : Bool) → goes_to e.relay back ≡ relayed (flow_id x back) h

-- nothing was told of a flow
pub record IsUntold (f : FlowId) (first : ℕ) (h : History NoMark) : Type 0 where
  pub held : [] ≡ places f h
  pub lanes : LanesAre [] (places f) first h
  pub pauses : 0 ≡ pauses f h
  pub resumes : 0 ≡ resumes f h
  pub doomed : false ≡ was_doomed f.exchange h
  pub count : LaneIs fresh (shown_count f) first h
  pub relay : None ≡ relayed f h

-- an exchange that isn't kept is one that nothing was told of
abbrev pub ExchangeAt : Option Exchange → ℕ → ℕ → History NoMark → Type 0
ExchangeAt None x first h = (back : Bool) → IsUntold (flow_id x back) first h
ExchangeAt (Some e) x first h = ExchangeIs e x first h

pub record ExchangesAre (es : Exchanges) (first : ℕ) (h : History NoMark) : Type 0 where
  pub each : (x : ℕ) → ExchangeAt (get nat_cmp es.items x) x first h

-- ---- connections

-- what is kept of a connection
pub record ConnectionIs (k : Connection) (c first : ℕ) (h : History NoMark) : Type 0 where
  pub write : LaneIs (drawn_of k.write.lane) (written c) first h
  pub closed : k.is_closed ≡ was_closed c h

-- nothing was told of a connection that isn't kept
pub record IsQuiet (c first : ℕ) (h : History NoMark) : Type 0 where
  pub write : LaneIs fresh (written c) first h
  pub closed : false ≡ was_closed c h

abbrev pub ConnectionAt : Option Connection → ℕ → ℕ → History NoMark → Type 0
ConnectionAt None c first h = IsQuiet c first h
ConnectionAt (Some k) c first h = ConnectionIs k c first h

pub record ConnectionsAre (ks : Connections) (first : ℕ) (h : History NoMark) : Type 0 where
  pub each : (c : ℕ) → ConnectionAt (get nat_cmp ks.items c) c first h

-- ---- all of it

pub record LevelsAre (levels : Levels) (first : ℕ) (h : History NoMark) : Type 0 where
  pub exchanges : ExchangesAre levels.exchanges first h
  pub connections : ConnectionsAre levels.connections first h

-- what stands up to the end of a dispatch
abbrev pub until : ℕ → History NoMark → History NoMark
until last [] = []
until last (step ∷ past) = if nat_lt last (turns (step ∷ past)) then until last past else step ∷ past

-- what is kept of a tape of which the dispatches from the first to the last are drawn
pub record PlotIs (plot : Plot) (first last : ℕ) (h : History NoMark) : Type 0 where
  pub starts : plot.clock.first ≡ first
  pub ends : plot.clock.last ≡ last
  pub turn : plot.clock.turn ≡ turns h
  pub levels : LevelsAre plot.levels first (until last h)
