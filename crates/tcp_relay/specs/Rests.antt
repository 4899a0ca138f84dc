-- What a relay at rest stands for, and what a dispatch makes of that.
use Rattle.flow_notes.specs.declared.events.Event.{Event}
use Rattle.flow_notes.specs.declared.notes.Note.{Note}
use Rattle.relay_laws.specs.Dispatch.{dispatch_notes}
use Rattle.relay_laws.specs.Order.{MayCome}
use Rattle.relay_laws.specs.Pairs.{Tape, feed, is_open}
use Rattle.relay_laws.specs.Session.{IsTape}
use Rattle.relay_laws.specs.Watermark.{above}
use Rattle.relay_laws.specs.World.{out}
use Rattle.relay_laws.specs.declared.Feed.{Feed}
use Rattle.std.specs.Prelude.{Bool, List, None, Option, Result, Some, false, if◌then◌else◌, length, nat_lt, not, option_map, ℕ, ◌++◌, ◌||◌, ◌∷◌, ◌≡◌}
use Rattle.tape_laws.specs.Dispatches.{events_back, turns}
use Rattle.tape_laws.specs.History.{onto}
use Rattle.tcp_relay.specs.Board.{board_of}
use Rattle.tcp_relay.specs.Noting.{AppendsSome}
use Rattle.tcp_relay.specs.Seen.{IsFront, IsLeast}
use Rattle.tcp_relay.specs.Stands.{tape_board}
use Rattle.tcp_relay.specs.Turns.{AreSpelled, Refuses}
use Rattle.tcp_relay.specs.declared.fault.RelayFault.{RelayFault}
use Rattle.tcp_relay.specs.declared.relay.Relay.{Relay}
use Rattle.flow_notes.specs.declared.events.Event.TheVariants as event

-- Between dispatches: the relay's connections are those of a session's tape. The names are those of the clusters.
pub record Rests (limit : ℕ) (names : List (List ℕ)) (relay : Relay) (h : Tape) : Type 0 where
  pub tape : IsTape limit names h
  pub board : board_of relay.table ≡ tape_board limit h
  pub turn : relay.turn ≡ turns h
  pub well : relay.failed ≡ false

-- after a whole dispatch it stands for the tape with the dispatch's notes, of which the first is the turn note of this event
pub record GoesOn (limit : ℕ) (names : List (List ℕ)) (before : List Note) (e : Event) (new : Relay) (after : List Note) (h : Tape) : Type 0 where
  pub notes : after ≡ before ++ dispatch_notes limit e (onto before h)
  pub rests : Rests limit names new (onto after h)
  pub shows : events_back (onto after h) ≡ e ∷ events_back (onto before h)
  pub spelled : AreSpelled names before → AreSpelled names after

pub record GoesOnFrom (old : Relay) (before : List Note) (e : Event) (new : Relay) (after : List Note) : Type 0 where
  pub goes : (limit : ℕ) (names : List (List ℕ)) (h : Tape) → Rests limit names old (onto before h)
      → MayCome names (events_back (onto before h)) e → GoesOn limit names before e new after h

-- a dispatch that was cut short leaves a front of its notes
pub record Stops (limit : ℕ) (names : List (List ℕ)) (before : List Note) (e : Event) (after : List Note) (h : Tape) : Type 0 where
  pub notes : AppendsSome before (dispatch_notes limit e (onto before h)) after
  pub spelled : AreSpelled names before → AreSpelled names after

pub record StopsFrom (old : Relay) (before : List Note) (e : Event) (after : List Note) : Type 0 where
  pub goes : (limit : ℕ) (names : List (List ℕ)) (h : Tape) → Rests limit names old (onto before h)
      → MayCome names (events_back (onto before h)) e → Stops limit names before e after h

-- what waits where a connection's octets go to, if that write buffer is above
abbrev pub held_behind : ℕ → Option Feed → Tape → Option ℕ
held_behind limit None h = None
held_behind limit (Some f) h = if above limit f.to h then Some (length (out f.to h)) else None

abbrev pub held_by : ℕ → Event → Tape → Option ℕ
held_by limit (event.Read c octets) h = held_behind limit (feed c h) h
held_by limit e h = None

-- An event that reads a paused flow is refused, with what waits, and nothing changes. No other is refused so.
pub record RefusesFrom {A : Type 0} (old : Relay) (before : List Note) (e : Event) (result : Result A RelayFault) (new : Relay) (after : List Note) : Type 0 where
  pub goes : (limit : ℕ) (names : List (List ℕ)) (h : Tape) → Rests limit names old (onto before h)
      → Refuses (held_by limit e (onto before h)) old before result new after

-- ---- what is seen of a relay at rest
-- octets wait for the connection
abbrev pub has_octets : ℕ → Tape → Bool
has_octets c h = nat_lt 0 (length (out c h))

-- what it feeds isn't above
abbrev pub goes_on : ℕ → Option Feed → Tape → Bool
goes_on limit None h = false
goes_on limit (Some f) h = not (above limit f.to h)

pub record ShowsFront (relay : Relay) (c : ℕ) (front : List ℕ) : Type 0 where
  pub goes : (limit : ℕ) (names : List (List ℕ)) (h : Tape) → Rests limit names relay h → IsFront (out c h) front

pub record ShowsReads (relay : Relay) (c : ℕ) (answer : Bool) : Type 0 where
  pub goes : (limit : ℕ) (names : List (List ℕ)) (h : Tape) → Rests limit names relay h → answer ≡ goes_on limit (feed c h) h

pub record ShowsPeer (relay : Relay) (c : ℕ) (answer : Option ℕ) : Type 0 where
  pub goes : (limit : ℕ) (names : List (List ℕ)) (h : Tape) → Rests limit names relay h → answer ≡ option_map (λ f. f.to) (feed c h)

pub record ShowsClosing (relay : Relay) (c : ℕ) (answer : Bool) : Type 0 where
  pub goes : (limit : ℕ) (names : List (List ℕ)) (h : Tape) → Rests limit names relay h → answer ≡ not (is_open c h)

pub record ShowsConn (relay : Relay) (after : ℕ) (answer : Option ℕ) : Type 0 where
  pub goes : (limit : ℕ) (names : List (List ℕ)) (h : Tape) → Rests limit names relay h → IsLeast (λ c. is_open c h || has_octets c h) after answer

pub record ShowsOut (relay : Relay) (after : ℕ) (answer : Option ℕ) : Type 0 where
  pub goes : (limit : ℕ) (names : List (List ℕ)) (h : Tape) → Rests limit names relay h → IsLeast (λ c. has_octets c h) after answer
