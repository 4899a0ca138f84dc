-- The timers of a wire session: which are armed, in the order of arming.
use Rattle.flow_rules.specs.declared.causes.FireKind.{FireKind}
use Rattle.h2_session.specs.Acts.{stream_of as stream_of_act}
use Rattle.h2_session.specs.declared.act.Act.{Act}
use Rattle.proxy_config.specs.declared.config.Config.{Config}
use Rattle.std.specs.List.{list_any}
use Rattle.std.specs.Option.{option_and_then}
use Rattle.std.specs.Prelude.{Bool, List, None, Option, Some, [], false, filter, if◌then◌else◌, not, true, ℕ, ◌&&◌, ◌++◌, ◌==◌, ◌∷◌}
use Rattle.tape_laws.specs.Dispatches.{has, live, time}
use Rattle.tape_laws.specs.History.{Marked, Noted}
use Rattle.tape_laws.specs.Units.{HeadOf, TrailersOf}
use Rattle.wire_laws.specs.Base.{is_open_conn}
use Rattle.wire_laws.specs.Came.{end_came, ends_stream}
use Rattle.wire_laws.specs.Marks.{Picked, Took, WireHistory}
use Rattle.wire_laws.specs.Peers.{is_client}
use Rattle.wire_laws.specs.Streams.{exchanges_of, live_at, origin}
use Rattle.flow_notes.specs.declared.events.Event.TheVariants as event
use Rattle.flow_rules.specs.declared.causes.FireKind.TheVariants as kind
use Rattle.flow_notes.specs.declared.notes.Note.TheVariants as note

-- a timer that was armed for an exchange or a connection
pub record Armed : Type 0 where
  pub kind : FireKind
  pub id : ℕ
  pub at : ℕ

abbrev pub same_kind : FireKind → FireKind → Bool
same_kind kind.Route kind.Route = true
same_kind kind.StreamIdle kind.StreamIdle = true
same_kind kind.ConnectionIdle kind.ConnectionIdle = true
same_kind _ _ = false

abbrev pub is_timer : FireKind → ℕ → Armed → Bool
is_timer which id a = same_kind a.kind which && (a.id == id)

-- the greatest and the least time of a kind, in milliseconds; one whose greatest is 0 isn't armed
abbrev pub longest : Config → FireKind → ℕ
longest config kind.Route = config.timeouts.route
longest config kind.StreamIdle = config.timeouts.stream_idle
longest config kind.ConnectionIdle = config.timeouts.connection_idle

abbrev pub shortest : Config → FireKind → ℕ
shortest config kind.Route = config.timeouts.route
shortest config kind.StreamIdle = config.timeouts.stream_idle_min
shortest config kind.ConnectionIdle = config.timeouts.connection_idle_min

abbrev pub disarm : FireKind → ℕ → List Armed → List Armed
disarm which id timers = filter (λ a. not (is_timer which id a)) timers

-- the timer is armed anew, as the last
abbrev pub arm : Config → FireKind → ℕ → ℕ → List Armed → List Armed
arm config which id now timers =
    disarm which id timers ++ (if longest config which == 0 then [] else record { kind = which; id = id; at = now } ∷ [])

abbrev pub arm_idle : Config → ℕ → List ℕ → List Armed → List Armed
arm_idle config now [] timers = timers
arm_idle config now (x ∷ xs) timers = arm_idle config now xs (arm config kind.StreamIdle x now timers)

-- the exchanges of which this dispatch brought, moved or framed something
abbrev pub touched : WireHistory → List ℕ
touched [] = []
touched (Noted (note.Turn k e) ∷ past) = []
touched (Noted (note.Arrive f octets) ∷ past) = f.exchange ∷ touched past
touched (Noted (note.Move f p n) ∷ past) = f.exchange ∷ touched past
touched (Noted (note.Frame c f n last) ∷ past) = f.exchange ∷ touched past
touched (Marked (Picked c (HeadOf f)) ∷ past) = f.exchange ∷ touched past
touched (Marked (Picked c (TrailersOf f)) ∷ past) = f.exchange ∷ touched past
touched (step ∷ past) = touched past

-- At a dispatch's end the touched exchanges that live on are armed anew, by number. That end has no note: it is told at the turn
-- note of the next dispatch, so until then the timers of a history are those before it.
abbrev pub rearmed : Config → WireHistory → List Armed → List Armed
rearmed config past timers = arm_idle config (time past) (filter (λ x. has (touched past) x) (live past)) timers

-- the open connection of a client to which no exchange is left once x is doomed
abbrev pub left_alone : Config → ℕ → WireHistory → Option ℕ
left_alone config x past = option_and_then
    (λ o. if is_open_conn config o.conn past && not (list_any (λ y. not (y == x)) (exchanges_of o.conn past)) then Some o.conn else None)
    (origin x past)

abbrev pub arm_if : Config → FireKind → Option ℕ → ℕ → List Armed → List Armed
arm_if config which None now timers = timers
arm_if config which (Some id) now timers = arm config which id now timers

-- the exchange whose request a frame ends
abbrev pub ends_request : ℕ → Act → WireHistory → Option ℕ
ends_request c a past =
    if is_client c past && ends_stream (stream_of_act a) a then live_at c (stream_of_act a) past else None

-- `route` runs from a request's end, `stream_idle` from an exchange's start and its last touch, `connection_idle` while a client
-- has no exchange
abbrev pub armed : Config → WireHistory → List Armed
armed config [] = []
armed config (Noted (note.Turn k (event.Accept c)) ∷ past) =
    arm config kind.ConnectionIdle c (time past) (rearmed config past (armed config past))
armed config (Noted (note.Turn k e) ∷ past) = rearmed config past (armed config past)
armed config (Noted (note.Start x c s d) ∷ past) =
    arm_if config kind.Route (if end_came c s past then Some x else None) (time past)
    (arm config kind.StreamIdle x (time past) (disarm kind.ConnectionIdle c (armed config past)))
armed config (Marked (Took c frame a reading) ∷ past) =
    arm_if config kind.Route (ends_request c a past) (time past) (armed config past)
armed config (Noted (note.Doom x why) ∷ past) =
    arm_if config kind.ConnectionIdle (left_alone config x past) (time past)
    (disarm kind.Route x (disarm kind.StreamIdle x (armed config past)))
armed config (Noted (note.Close c code why) ∷ past) = disarm kind.ConnectionIdle c (armed config past)
armed config (Noted (note.Fire which id) ∷ past) = disarm which id (armed config past)
armed config (step ∷ past) = armed config past
