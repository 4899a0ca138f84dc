-- A core's octets are those of the world of its tape.
use Rattle.exchange_core.specs.Flow.{Flow, last_place as send_place, octets_in}
use Rattle.flow_rules.specs.declared.ids.FlowId.{FlowId}
use Rattle.flow_laws.specs.Octets.{LosesNothing}
use Rattle.flow_notes.specs.declared.events.Event.{Event}
use Rattle.flow_notes.specs.declared.events.Event.TheVariants as event
use Rattle.flow_notes.specs.declared.notes.CloseCause.{CloseCause}
use Rattle.flow_notes.specs.declared.notes.CloseCause.TheVariants as cause
use Rattle.flow_notes.specs.declared.notes.Note.{Note}
use Rattle.flow_notes.specs.declared.notes.Note.TheVariants as note
use Rattle.paged_map.specs.PagedMap.{PagedMap, value_at}
use Rattle.proxy_config.specs.declared.config.Config.{Config}
use Rattle.proxy_config.specs.declared.config.LimitKeys.{LimitKeys}
use Rattle.std.specs.Option.{option_and_then, option_map_or}
use Rattle.std.specs.Prelude.{Bool, IfOk, IfSome, List, None, OnOk, Option, Result, Some, [], false, if◌then◌else◌, is_some, length, not, take, true, ℕ, ◌++◌, ◌<◌, ◌==◌, ◌∷◌, ◌≡◌}
use Rattle.tape_laws.specs.Connections.{connections, was_closed}
use Rattle.tape_laws.specs.Dispatches.{has, started}
use Rattle.tape_laws.specs.Flows.{request, response}
use Rattle.tape_laws.specs.Headline.{SendsItsBody}
use Rattle.tape_laws.specs.History.{AtEachMoment}
use Rattle.tape_laws.specs.World.{gone, last_place, out, place, received, sent}
use Rattle.wire_flows.specs.Flows.{Flows, flow_in, is_there}
use Rattle.wire_links.specs.Links.{Links, ends_of, is_known}
use Rattle.wire_links.specs.declared.links.exchanges.Ends.{Ends}
use Rattle.wire_outlet.specs.declared.outlet.Framed.{Framed}
use Rattle.wire_outlet.specs.declared.outlet.Framed.TheVariants as framed
use Rattle.wire_state.specs.Counts.{Counts}
use Rattle.wire_state.specs.Limits.{Fits, HasShape}
use Rattle.wire_state.specs.Marks.{AreWays, Footing, MarksAre, NoneBegan, footing_of, rows_in}
use Rattle.wire_state.specs.Noting.{answers_of, heads_of}
use Rattle.wire_state.specs.Taking.{EachTakesWhatLies}
use Rattle.wire_state.specs.Ways.{WayHistory, WayStep, after, shown, stages_passed, stream_to, world_setup}
use Rattle.wire_state.specs.declared.conn.Conn.{Conn}
use Rattle.wire_state.specs.declared.wire_core.WireCore.{WireCore}

-- the octets that wait for the socket of a connection
abbrev pub octets_of : ℕ → PagedMap Conn → List ℕ
octets_of c conns = option_map_or (λ conn. conn.outlet.write.octets) (value_at c conns) []

abbrev pub has_conn : ℕ → PagedMap Conn → Bool
has_conn c conns = is_some (value_at c conns)

-- it is there, and isn't open
abbrev pub is_shut : ℕ → PagedMap Conn → Bool
is_shut c conns = option_map_or (λ conn. not conn.open) (value_at c conns) false

-- a flow's places are those of the world and hold what they do, and nothing that came for it is lost
pub record FlowIs (l : LimitKeys) (f : FlowId) (h : WayHistory) (flow : Flow) : Type 0 where
  pub last : send_place flow ≡ last_place world_setup f h
  pub holds : (p : ℕ) → octets_in flow p ≡ place world_setup f p h
  pub loses : LosesNothing world_setup f h
  pub shape : HasShape l (stages_passed f h) flow

-- a flow that isn't there yet: nothing came for it, and nothing was sent on
pub record IsUnborn (f : FlowId) (flows : Flows) (h : WayHistory) : Type 0 where
  pub there : is_there flows f ≡ false
  pub unread : received f h ≡ []
  pub unsent : sent world_setup f h ≡ []

-- at each moment what each flow sent on is a front of the body that was read for it
abbrev pub SendsOn : WayHistory → Type 0
SendsOn h = AtEachMoment (SendsItsBody world_setup) h

-- its streams are those that it has there
pub record EndsAre (x : ℕ) (h : WayHistory) (ends : Ends) : Type 0 where
  pub client : ends.stream ≡ stream_to (response x) h
  pub cluster : IfSome ends.cluster_stream (λ s. s ≡ stream_to (request x) h)

pub record Stands (l : LimitKeys) (conns : PagedMap Conn) (flows : Flows) (links : Links) (h : WayHistory) : Type 0 where
  pub writes : (c : ℕ) → octets_of c conns ≡ out world_setup c h
  pub flows_are : (f : FlowId) → IfSome (flow_in flows f) (FlowIs l f h)
  -- a flow that isn't there holds nothing
  pub empty : (f : FlowId) (p : ℕ) → is_there flows f ≡ false → place world_setup f p h ≡ []
  pub ends : (x : ℕ) → IfSome (ends_of x links) (EndsAre x h)
  -- a number that isn't known has no connection, and a connection isn't open exactly where a note closed it
  pub known : (c : ℕ) → is_known c links ≡ false → has_conn c conns ≡ false
  pub closed : (c : ℕ) → has_conn c conns ≡ true → was_closed c h ≡ is_shut c conns
  -- one that never came has none, and wasn't closed
  pub come : (c : ℕ) → has (connections world_setup h) c ≡ false → (has_conn c conns ≡ false) × (was_closed c h ≡ false)
  -- no exchange has a number above the last that was given
  pub unborn : (f : FlowId) → flows.exchanges.last < f.exchange → IsUnborn f flows h
  pub fronts : SendsOn h
  pub taking : EachTakesWhatLies h
  pub fits : AtEachMoment (Fits l) h
  pub marks : MarksAre flows links h

-- Between two dispatches the core stands for its tape, and nobody is still to be told of a drain.
pub record Rests (l : LimitKeys) (conns : PagedMap Conn) (flows : Flows) (links : Links) (h : WayHistory) : Type 0 where
  pub stands : Stands l conns flows links h
  pub counts : Counts l None None conns flows h

-- The notes were made by these steps behind that history, and the core, on this footing, stands for what they lead to, and counts as
-- they do. What left each connection's write buffer up to there is told beside it, that the configuration is that of the session, that
-- the marks are tied, and that the rows are those of the exchanges that began in these steps. Somebody may still be to be told of a
-- drain of the write buffer of `conn`, or of a Meter of `exchange`.
pub record ToldBy (k : Config) (l : Footing) (conn exchange : Option ℕ) (h : WayHistory) (g : ℕ → List ℕ) (start : List Note) (conns : PagedMap Conn) (flows : Flows) (links : Links) (notes : List Note) : Type 0 where
  pub steps : List WayStep
  pub is : notes ≡ start ++ shown steps
  pub stands : Stands l.config.limits conns flows links (after steps h)
  pub counts : Counts l.config.limits conn exchange conns flows (after steps h)
  pub left : (c : ℕ) → gone world_setup c (after steps h) ≡ g c
  pub under : l.config ≡ k
  pub ways : AreWays l.config h → AreWays l.config (after steps h)
  pub rows : l.rows ≡ rows_in steps
  pub since : l.before ≡ length (started h)

abbrev pub Told : Config → Option ℕ → Option ℕ → WayHistory → (ℕ → List ℕ) → List Note → WireCore → List Note → Type 0
Told k conn exchange h g start core notes = ToldBy k (footing_of core) conn exchange h g start core.conns core.flows core.links notes

-- Words between a core and its notes before a call and after it. Where memory was refused nothing is said.
-- it goes on to
pub record Goes {A E : Type 0} (r : Result A E) (old : WireCore) (before : List Note) (new : WireCore) (now : List Note) : Type 0 where
  pub goes : {k : Config} {t : Option ℕ} → (h : WayHistory) (g : ℕ → List ℕ) (start : List Note) → Told k t None h g start old before → OnOk r (Told k t None h g start new now)

-- it ends the exchange, if there is one, that overflowed
pub record Settles {A E : Type 0} (late : Option ℕ) (r : Result A E) (old : WireCore) (before : List Note) (new : WireCore) (now : List Note) : Type 0 where
  pub goes : {k : Config} {t : Option ℕ} → (h : WayHistory) (g : ℕ → List ℕ) (start : List Note) → Told k t late h g start old before → OnOk r (Told k t None h g start new now)

-- it tells all who are still to be told of the drain of a write buffer, if there is one
pub record TellsAll {A E : Type 0} (conn : Option ℕ) (r : Result A E) (old : WireCore) (before : List Note) (new : WireCore) (now : List Note) : Type 0 where
  pub goes : {k : Config} → (h : WayHistory) (g : ℕ → List ℕ) (start : List Note) → Told k conn None h g start old before → OnOk r (Told k None None h g start new now)

-- whatever was noted, also what is still to be noted
pub record Keeps (old new : WireCore) : Type 0 where
  pub goes : {k : Config} {t u : Option ℕ} → (h : WayHistory) (g : ℕ → List ℕ) (start notes : List Note) → Told k t u h g start old notes → Told k t u h g start new notes

pub record KeepsOk {A E : Type 0} (r : Result A E) (old new : WireCore) : Type 0 where
  pub goes : {k : Config} {t u : Option ℕ} → (h : WayHistory) (g : ℕ → List ℕ) (start notes : List Note) → Told k t u h g start old notes → OnOk r (Told k t u h g start new notes)

-- this is still to be noted
pub record Owes (owed : List Note) (old new : WireCore) : Type 0 where
  pub goes : {k : Config} {t u : Option ℕ} → (h : WayHistory) (g : ℕ → List ℕ) (start notes : List Note) → Told k t u h g start old notes → Told k t u h g start new (notes ++ owed)

-- the same, and from then on the flows that go to this connection may still be to be told that its write buffer drained
pub record Eases (c : ℕ) (owed : List Note) (old new : WireCore) : Type 0 where
  pub goes : {k : Config} → (h : WayHistory) (g : ℕ → List ℕ) (start notes : List Note) → Told k None None h g start old notes → Told k (Some c) None h g start new (notes ++ owed)

-- the same, and no more of this exchange is to be told of
pub record EndsOne (x : ℕ) (owed : List Note) (old new : WireCore) : Type 0 where
  pub goes : {k : Config} {t : Option ℕ} → (h : WayHistory) (g : ℕ → List ℕ) (start notes : List Note) → Told k t (Some x) h g start old notes → Told k t None h g start new (notes ++ owed)

-- ---- notes
-- what was still to be noted is, and if it was a front of that, the rest is still to be
pub record Pays {A E : Type 0} (r : Result A E) (owed before now : List Note) : Type 0 where
  pub goes : {k : Config} {l : Footing} {t u : Option ℕ} → (h : WayHistory) (g : ℕ → List ℕ) (start : List Note) (conns : PagedMap Conn) (flows : Flows) (links : Links) → ToldBy k l t u h g start conns flows links (before ++ owed) → OnOk r (ToldBy k l t u h g start conns flows links now)
  pub front : {k : Config} {l : Footing} {t u : Option ℕ} → (h : WayHistory) (g : ℕ → List ℕ) (start rest : List Note) (conns : PagedMap Conn) (flows : Flows) (links : Links) → ToldBy k l t u h g start conns flows links (before ++ (owed ++ rest)) → OnOk r (ToldBy k l t u h g start conns flows links (now ++ rest))

-- what was noted moves no octets, and holds no flow back
pub record Shows {A E : Type 0} (r : Result A E) (before now : List Note) : Type 0 where
  pub goes : {k : Config} {l : Footing} {t u : Option ℕ} → (h : WayHistory) (g : ℕ → List ℕ) (start : List Note) (conns : PagedMap Conn) (flows : Flows) (links : Links) → ToldBy k l t u h g start conns flows links before → OnOk r (ToldBy k l t u h g start conns flows links now)

-- the note moves no octets and holds no flow back, wherever it stands
abbrev pub IsIdle : Note → Type 0
IsIdle (note.Waste c s n) = Unit {0}
IsIdle (note.Fire k x) = Unit {0}
IsIdle (note.Gone x) = Unit {0}
IsIdle n = ⊥

-- the notes of a unit that waited, and of octets that left for a socket
abbrev pub waited_of : ℕ → Framed → List Note
waited_of c (framed.Answer octets) = answers_of c octets
waited_of c (framed.Reply stream octets) = heads_of c stream octets

abbrev pub outs_of : ℕ → ℕ → List Note
outs_of c n = if n == 0 then [] else note.Out c n ∷ []

-- what a close leaves of a connection's octets: nothing where it is lost
abbrev pub left_by : CloseCause → List ℕ → List ℕ
left_by cause.Lost octets = []
left_by why octets = octets

-- the stream that a flow has where it goes
abbrev pub stream_in : Links → FlowId → Option ℕ
stream_in links f = option_and_then (λ e. if f.back then Some e.stream else e.cluster_stream) (ends_of f.exchange links)

-- ---- a dispatch
-- a connection that comes is a new one
abbrev pub IsFresh : Event → WayHistory → Type 0
IsFresh (event.Accept c) h = has (connections world_setup h) c ≡ false
IsFresh (event.Join c cluster) h = has (connections world_setup h) c ≡ false
IsFresh e h = Unit {0}

-- what has left each connection once the event was carried out: room takes a front of what waits
abbrev pub left_after : Event → PagedMap Conn → (ℕ → List ℕ) → ℕ → List ℕ
left_after (event.Room d n) conns g = λ c. g c ++ (if d == c then take n (octets_of c conns) else [])
left_after e conns g = g

-- by which event the write buffer of a connection may drain
abbrev pub eased_by : Event → Option ℕ
eased_by (event.Room c n) = Some c
eased_by (event.Gone c) = Some c
eased_by e = None

-- From before the turn note of an event on, where no exchange began yet: the core stood for a history, and stands for it with the
-- dispatch's steps.
pub record Turns {A E : Type 0} (r : Result A E) (e : Event) (old : WireCore) (noted : List Note) (new : WireCore) (now : List Note) : Type 0 where
  pub goes : (h : WayHistory) (g : ℕ → List ℕ) (before : List Note) (k : ℕ) → noted ≡ before ++ note.Turn k e ∷ [] → Rests old.config.limits old.conns old.flows old.links h → ((c : ℕ) → gone world_setup c h ≡ g c)
      → IsFresh e h → NoneBegan old → OnOk r (Told old.config (eased_by e) None h (left_after e old.conns g) before new now)

-- The same, where the answer is the connection whose write buffer may have drained, if there is one: of no other somebody may still be
-- to be told.
pub record TurnsTo {E : Type 0} (r : Result (Option ℕ) E) (e : Event) (old : WireCore) (noted : List Note) (new : WireCore) (now : List Note) : Type 0 where
  pub goes : (h : WayHistory) (g : ℕ → List ℕ) (before : List Note) (k : ℕ) → noted ≡ before ++ note.Turn k e ∷ [] → Rests old.config.limits old.conns old.flows old.links h → ((c : ℕ) → gone world_setup c h ≡ g c)
      → IsFresh e h → NoneBegan old → IfOk r (λ conn. Told old.config conn None h (left_after e old.conns g) before new now)

-- All of a dispatch behind its turn note, from a core that may have the rows of the dispatch before: nobody is still to be told.
pub record TurnsAnew {A E : Type 0} (r : Result A E) (e : Event) (old : WireCore) (noted : List Note) (new : WireCore) (now : List Note) : Type 0 where
  pub goes : (h : WayHistory) (g : ℕ → List ℕ) (before : List Note) (k : ℕ) → noted ≡ before ++ note.Turn k e ∷ [] → Rests old.config.limits old.conns old.flows old.links h → ((c : ℕ) → gone world_setup c h ≡ g c)
      → IsFresh e h → OnOk r (Told old.config None None h (left_after e old.conns g) before new now)

-- The whole dispatch: from the notes before it on.
pub record Follows (old : WireCore) (before : List Note) (e : Event) (new : WireCore) (now : List Note) : Type 0 where
  pub goes : (h : WayHistory) (g : ℕ → List ℕ) → Rests old.config.limits old.conns old.flows old.links h → ((c : ℕ) → gone world_setup c h ≡ g c) → IsFresh e h → Told old.config None None h (left_after e old.conns g) before new now

-- A connection comes: it is among those that came, and wasn't closed.
pub record Comes {A E : Type 0} (r : Result A E) (c : ℕ) (old new : WireCore) : Type 0 where
  pub goes : {k : Config} {t u : Option ℕ} → (h : WayHistory) (g : ℕ → List ℕ) (start notes : List Note) (told : Told k t u h g start old notes) → has (connections world_setup (after told.steps h)) c ≡ true → was_closed c (after told.steps h) ≡ false → OnOk r (Told k t u h g start new notes)

-- Up to n octets left a connection's write buffer, k of them there were. Who is held back by that of `conn` may still be to be told that
-- it drained: of no other, and where there is none nobody.
pub record Leaves (c n k : ℕ) (conn : Option ℕ) (old new : WireCore) : Type 0 where
  pub goes : {m : Config} → (h : WayHistory) (g : ℕ → List ℕ) (start notes : List Note) → Told m None None h g start old notes → Told m conn None h (left_after (event.Room c n) old.conns g) start new (notes ++ outs_of c k)
