-- What the flows of a plain session stand for: a history whose octets, counts and marks they keep.
use Rattle.exchange_core.specs.declared.exchange.Exchange.{Exchange}
use Rattle.exchange_core.specs.Exchanges.{Exchanges, IsSound as AreSoundExchanges, exchange_at}
use Rattle.exchange_core.specs.Plain.{Plain, plain_exchange}
use Rattle.flow_gate.specs.Board.{Board, IsSound as IsSoundBoard, count as count_on, is_known, is_marked, is_open as is_there, pending_on, watchers_of}
use Rattle.flow_rules.specs.declared.ids.FlowId.{FlowId}
use Rattle.plain_laws.specs.Regular.{AtMost}
use Rattle.plain_laws.specs.Settled.{Settled as IsSettledHistory}
use Rattle.proxy_config.specs.Ranges.{IsBetween, most_octets}
use Rattle.std.specs.BTreeMap.{get}
use Rattle.std.specs.BTreeSet.{BTreeSet, contains}
use Rattle.std.specs.Ordering.{nat_cmp}
use Rattle.std.specs.Prelude.{None, Option, Some, [], false, if◌then◌else◌, length, map, nat_lt, true, ℕ, ◌&&◌, ◌<◌, ◌^◌, ◌≡◌, ◌≤◌, ◌∷◌, ◌⊎◌}
use Rattle.tape_laws.specs.Dispatches.{has, live, started}
use Rattle.tape_laws.specs.Doomed.{condemned}
use Rattle.tape_laws.specs.Ends.{end_framed}
use Rattle.tape_laws.specs.Framing.{next_unit}
use Rattle.flow_rules.specs.declared.unit.Unit.{Unit as FlowUnit}
use Rattle.flow_rules.specs.declared.unit.Unit.TheVariants.{Body as BodyUnit}
use Rattle.tape_laws.specs.Flows.{request}
use Rattle.tape_laws.specs.History.{History, NoMark}
use Rattle.tape_laws.specs.Order.{framed_last}
use Rattle.tape_laws.specs.Pauses.{count, pending_lows}
use Rattle.tape_laws.specs.Plain.{plain_ended, plain_setup}
use Rattle.tape_laws.specs.Sources.{is_live}
use Rattle.tape_laws.specs.Watermark.{above}
use Rattle.tape_laws.specs.World.{out, place}
use Rattle.tape_laws.specs.declared.PlainLimits.{PlainLimits}
use Rattle.plain_core.specs.declared.conn.Connection.{Connection}
use Rattle.exchange_core.specs.declared.step.Piece.{Piece}
use Rattle.plain_core.specs.declared.flows.Flows.{Flows}
use Rattle.flow_rules.specs.declared.ids.BufferId.TheVariants as buffer

-- the ranges of a session's limits
pub record AreLimits (limits : PlainLimits) : Type 0 where
  pub recv : limits.recv ≤ most_octets
  pub send : limits.send ≤ most_octets
  pub write : limits.write ≤ most_octets
  pub quantum : IsBetween 16384 1048576 limits.quantum

-- what a live stream is kept as
pub record StreamIs (limits : PlainLimits) (x : ℕ) (h : History NoMark) (found : Option Exchange) : Type 0 where
  pub plain : Plain
  pub is : found ≡ Some (plain_exchange x plain)
  pub window : plain.window ≡ limits.recv
  pub limit : plain.limit ≡ limits.send
  pub quantum : plain.quantum ≡ limits.quantum
  pub started : plain.started ≡ 0
  pub recv : plain.recv ≡ place (plain_setup limits) (request x) 0 h
  pub send : plain.send ≡ place (plain_setup limits) (request x) 1 h
  pub above : plain.above ≡ above (plain_setup limits) (buffer.Send (request x)) h
  pub ended : plain.ended ≡ plain_ended x h
  pub end_framed : plain.end_framed ≡ end_framed (plain_setup limits) (request x) h

-- the exchanges are the live streams, and behind them the doomed ones that aren't gone
pub record ExchangesAre (limits : PlainLimits) (exchanges : Exchanges) (h : History NoMark) : Type 0 where
  pub sound : AreSoundExchanges exchanges
  pub time : exchanges.time ≡ 0
  -- each is the number of a stream
  pub small : exchanges.last < 2 ^ 32
  pub most : AtMost exchanges.last (started h)
  pub last : (exchanges.last ≡ 0) ⊎ (has (started h) exchanges.last ≡ true)
  pub doomed : exchanges.doomed ≡ condemned h
  pub there : (x : ℕ) → has (live h) x ≡ true → StreamIs limits x h (exchange_at exchanges x)
  pub gone : (x : ℕ) → has (live h) x ≡ false → exchange_at exchanges x ≡ None

-- the gates have the counts of the live flows and the marks of their sources
pub record GatesAre (limits : PlainLimits) (board : Board) (h : History NoMark) : Type 0 where
  pub sound : IsSoundBoard board
  pub flows : (f : FlowId) → is_there board f ≡ is_live (plain_setup limits) f h
  pub counts : (x : ℕ) → has (live h) x ≡ true → count_on board (request x) ≡ count (request x) h
  pub write_known : is_known board (buffer.Write 0) ≡ true
  pub write_mark : is_marked board (buffer.Write 0) ≡ above (plain_setup limits) (buffer.Write 0) h
  pub write_watchers : watchers_of board (buffer.Write 0) ≡ map request (live h)
  pub write_pending : pending_on board (buffer.Write 0) ≡ pending_lows (plain_setup limits) (buffer.Write 0) h
  pub send_known : (x : ℕ) → is_known board (buffer.Send (request x)) ≡ has (live h) x
  pub send_mark : (x : ℕ) → is_marked board (buffer.Send (request x)) ≡ above (plain_setup limits) (buffer.Send (request x)) h
  pub send_watchers : (x : ℕ) → watchers_of board (buffer.Send (request x)) ≡ (if has (live h) x then request x ∷ [] else [])
  pub send_pending : (x : ℕ) → pending_on board (buffer.Send (request x)) ≡ []

-- a unit that is a piece of a body
abbrev pub piece_of : FlowUnit → Option Piece
piece_of (BodyUnit n last) = Some (record { n = n; last = last })
piece_of u = None

abbrev pub next_piece : PlainLimits → ℕ → History NoMark → Option Piece
next_piece limits x h = piece_of (next_unit (plain_setup limits) (request x) h)

-- the connection has the octets of its write buffer, and the next units of the live streams
pub record ConnectionIs (limits : PlainLimits) (conn : Connection) (h : History NoMark) : Type 0 where
  pub limit : conn.write.limit ≡ limits.write
  pub octets : conn.write.octets ≡ out (plain_setup limits) 0 h
  pub above : conn.write.above ≡ above (plain_setup limits) (buffer.Write 0) h
  pub framed_last : conn.framed_last ≡ framed_last (plain_setup limits) 0 h
  pub ready : (x : ℕ) → get nat_cmp conn.ready x ≡ (if has (live h) x then next_piece limits x h else None)

-- these are the live streams whose receive buffer holds octets
pub record HoldingIs (limits : PlainLimits) (holding : BTreeSet ℕ) (h : History NoMark) : Type 0 where
  pub holds : (x : ℕ) → contains nat_cmp holding x ≡ (has (live h) x && nat_lt 0 (length (place (plain_setup limits) (request x) 0 h)))

pub record FlowsStand (limits : PlainLimits) (flows : Flows) (h : History NoMark) : Type 0 where
  pub limits_are : flows.limits ≡ limits
  pub ranges : AreLimits limits
  pub exchanges : ExchangesAre limits flows.exchanges h
  pub gates : GatesAre limits flows.gates h
  pub conn : ConnectionIs limits flows.conn h
  pub holding : HoldingIs limits flows.holding h

-- between two small steps
pub record Settled (limits : PlainLimits) (flows : Flows) (h : History NoMark) : Type 0 where
  pub stands : FlowsStand limits flows h
  pub lawful : IsSettledHistory limits h

-- there is such a history
pub record IsSettled (flows : Flows) : Type 0 where
  pub limits : PlainLimits
  pub history : History NoMark
  pub settled : Settled limits flows history
