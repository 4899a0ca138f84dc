-- Which connections there are, and which of them are to be read: whether an event leaves that as it was.
use Rattle.flow_notes.specs.declared.events.Event.{Event}
use Rattle.relay_laws.specs.Dispatch.{dispatch_notes}
use Rattle.relay_laws.specs.Order.{MayCome}
use Rattle.relay_laws.specs.Pairs.{Tape, feed, is_open}
use Rattle.std.specs.Prelude.{Bool, List, false, if◌then◌else◌, is_some, true, ℕ, ◌||◌, ◌≡◌}
use Rattle.tape_laws.specs.Dispatches.{events_back}
use Rattle.tape_laws.specs.History.{onto}
use Rattle.tcp_relay.specs.Board.{board_of, effect_of}
use Rattle.tcp_relay.specs.Rests.{Rests, goes_on}
use Rattle.tcp_relay.specs.declared.effect.Effect.{Effect}
use Rattle.tcp_relay.specs.declared.interests.Interests.{Interests}
use Rattle.tcp_relay.specs.declared.relay.Relay.{Relay}
use Rattle.flow_notes.specs.declared.events.Event.TheVariants as event
use Rattle.tcp_relay.specs.declared.effect.Effect.TheVariants as effect
use Rattle.tcp_relay.specs.declared.interests.Interests.TheVariants as interests

-- the event is of a connection that comes
abbrev pub comes : Event → Bool
comes (event.Accept c) = true
comes (event.Join c cluster) = true
comes e = false

-- a connection was opened or closed, or a flow was paused or goes on
abbrev pub changes : Effect → Bool
changes effect.Nothing = false
changes (effect.Carried f c rose) = rose
changes (effect.Left l) = l.closed || is_some l.resumed
changes (effect.Paired x c d) = true
changes (effect.Refused c) = true
changes (effect.Lost c ended) = true

abbrev pub interests_of : Event → Effect → Interests
interests_of e done = if comes e || changes done then interests.Changed else interests.Kept

-- of two tapes of a relay: the same connections are open, and the same of them are to be read
pub record SameInterests (limit : ℕ) (h next : Tape) : Type 0 where
  pub opened : (c : ℕ) → is_open c next ≡ is_open c h
  pub reads : (c : ℕ) → goes_on limit (feed c next) next ≡ goes_on limit (feed c h) h

-- none has come, and with the event's dispatch they are the same
pub record KeepsInterests (limit : ℕ) (e : Event) (h : Tape) : Type 0 where
  pub none : comes e ≡ false
  pub same : SameInterests limit h (onto (dispatch_notes limit e h) h)

abbrev pub AreKept : Interests → ℕ → Event → Tape → Type 0
AreKept interests.Kept limit e h = KeepsInterests limit e h
AreKept interests.Changed limit e h = Unit {0}

pub record TellsInterests (old : Relay) (e : Event) (answer : Interests) : Type 0 where
  pub is : answer ≡ interests_of e (effect_of e (board_of old.table))
  pub goes : (limit : ℕ) (names : List (List ℕ)) (h : Tape) → Rests limit names old h → MayCome names (events_back h) e → AreKept answer limit e h
