-- The tape of a session: what the events of a wire session give, one dispatch after the other.
use Rattle.flow_notes.specs.declared.events.Event.{Event}
use Rattle.relay_laws.specs.Dispatch.{dispatch_notes}
use Rattle.relay_laws.specs.Order.{MayCome}
use Rattle.relay_laws.specs.Pairs.{Tape, feed}
use Rattle.relay_laws.specs.Watermark.{above}
use Rattle.relay_laws.specs.declared.Feed.{Feed}
use Rattle.std.specs.Prelude.{Bool, List, None, Option, Some, [], false, ℕ, ◌∷◌, ◌≡◌}
use Rattle.tape_laws.specs.Dispatches.{events_back}
use Rattle.tape_laws.specs.History.{onto}
use Rattle.flow_notes.specs.declared.events.Event.TheVariants as event

-- the tape of whole dispatches of these events, which stand newest first
abbrev pub relay_tape : ℕ → List Event → Tape
relay_tape limit [] = []
relay_tape limit (e ∷ es) = onto (dispatch_notes limit e (relay_tape limit es)) (relay_tape limit es)

-- what a connection feeds is held back: the write buffer that it goes to is above
abbrev pub is_held : ℕ → Option Feed → Tape → Bool
is_held limit None past = false
is_held limit (Some f) past = above limit f.to past

-- the event reads a connection whose flow is paused
abbrev pub reads_paused : ℕ → Event → Tape → Bool
reads_paused limit (event.Read c octets) past = is_held limit (feed c past) past
reads_paused limit e past = false

-- an event that may follow these, and doesn't read a paused flow; the names are those of the clusters
pub record MayRelay (limit : ℕ) (names : List (List ℕ)) (es : List Event) (e : Event) : Type 0 where
  pub comes : MayCome names es e
  pub backs_off : reads_paused limit e (relay_tape limit es) ≡ false

abbrev pub MayRelayAll : ℕ → List (List ℕ) → List Event → Type 0
MayRelayAll limit names [] = Unit {0}
MayRelayAll limit names (e ∷ es) = MayRelay limit names es e × MayRelayAll limit names es

-- the history is the tape of the events that it shows, and these may follow one another
pub record IsTape (limit : ℕ) (names : List (List ℕ)) (h : Tape) : Type 0 where
  pub is : h ≡ relay_tape limit (events_back h)
  pub follows : MayRelayAll limit names (events_back h)
