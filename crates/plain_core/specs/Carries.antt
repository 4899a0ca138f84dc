-- What each effect carries: from each history that the flows stood for to the one with the step's notes.
use Rattle.exchange_core.specs.Exchanges.{flow_at}
use Rattle.exchange_core.specs.declared.step.Received.{Received}
use Rattle.flow_notes.specs.declared.events.PlainEvent.{PlainEvent}
use Rattle.flow_rules.specs.declared.causes.Cause.{Cause}
use Rattle.plain_laws.specs.StepNotes.{begin_notes, body_notes, frame_notes, move_notes, room_notes}
use Rattle.std.specs.Prelude.{Bool, List, None, Option, IfSome, Some, [], false, length, min, nat_lt, take, true, ℕ, ◌&&◌, ◌+◌, ◌<◌, ◌==◌, ◌∷◌, ◌≡◌, ◌≤◌, ◌⊎◌}
use Rattle.tape_laws.specs.Dispatches.{has, live, started}
use Rattle.tape_laws.specs.Doomed.{condemned, is_swept}
use Rattle.flow_rules.specs.declared.unit.Unit.TheVariants.{Body as BodyUnit}
use Rattle.tape_laws.specs.Flows.{request}
use Rattle.tape_laws.specs.History.{History, NoMark, Noted, onto}
use Rattle.tape_laws.specs.Order.{Flows as FlowsNext, Nothing, next_on}
use Rattle.tape_laws.specs.Pauses.{count, pending_lows}
use Rattle.tape_laws.specs.Plain.{plain_setup}
use Rattle.tape_laws.specs.Watermark.{above, drains_at, rises_at}
use Rattle.tape_laws.specs.World.{place}
use Rattle.tape_laws.specs.declared.PlainLimits.{PlainLimits}
use Rattle.plain_core.specs.Flows.{FlowsStand, Settled}
use Rattle.plain_core.specs.Noting.{resumes_of}
use Rattle.plain_core.specs.declared.flows.Flows.{Flows}
use Rattle.plain_core.specs.declared.flows.Framed.{Framed}
use Rattle.plain_core.specs.declared.flows.Moved.{Moved}
use Rattle.plain_core.specs.declared.flows.NextFrame.{NextFrame}
use Rattle.plain_core.specs.declared.flows.Outcome.{Outcome}
use Rattle.exchange_core.specs.declared.step.Received.TheVariants as received
use Rattle.flow_rules.specs.declared.ids.BufferId.TheVariants as buffer
use Rattle.flow_notes.specs.declared.events.Event.TheVariants as event
use Rattle.flow_notes.specs.declared.events.PlainEvent.TheVariants as plain
use Rattle.flow_notes.specs.declared.notes.Note.TheVariants as note
use Rattle.plain_core.specs.declared.flows.Outcome.TheVariants as outcome

-- ---- what is seen
-- whether the stream is live
pub record Lives (flows : Flows) (x : ℕ) (answer : Bool) : Type 0 where
  pub goes : (limits : PlainLimits) (h : History NoMark) → Settled limits flows h → answer ≡ has (live h) x

-- whether n more octets fit into its receive buffer
pub record Fits (flows : Flows) (x n : ℕ) (answer : Bool) : Type 0 where
  pub yes : (limits : PlainLimits) (h : History NoMark) → Settled limits flows h → has (live h) x ≡ true → answer ≡ true
      → length (place (plain_setup limits) (request x) 0 h) + n ≤ limits.recv
  pub no : (limits : PlainLimits) (h : History NoMark) → Settled limits flows h → has (live h) x ≡ true → answer ≡ false
      → limits.recv < length (place (plain_setup limits) (request x) 0 h) + n

-- whether its receive buffer holds octets
pub record Holds (flows : Flows) (x : ℕ) (answer : Bool) : Type 0 where
  pub goes : (limits : PlainLimits) (h : History NoMark) → Settled limits flows h → has (live h) x ≡ true
      → answer ≡ nat_lt 0 (length (place (plain_setup limits) (request x) 0 h))

-- nothing of it moves when it is told that the write buffer drained: that is above, or its receive buffer is empty
pub record IsStill (limits : PlainLimits) (x : ℕ) (h : History NoMark) : Type 0 where
  pub still : (above (plain_setup limits) (buffer.Write 0) h ≡ true) ⊎ (nat_lt 0 (length (place (plain_setup limits) (request x) 0 h)) ≡ false)

-- octets of it may move when it is told, or those of some stream may be framed
pub record WakesAt (limits : PlainLimits) (x : ℕ) (h : History NoMark) : Type 0 where
  pub low : above (plain_setup limits) (buffer.Write 0) h ≡ false
  pub some : (nat_lt 0 (length (place (plain_setup limits) (request x) 0 h)) ≡ true) ⊎ (next_on (plain_setup limits) 0 h ≡ Nothing → ⊥)

pub record Wakes (flows : Flows) (x : ℕ) (answer : Bool) : Type 0 where
  pub yes : (limits : PlainLimits) (h : History NoMark) → Settled limits flows h → has (live h) x ≡ true → answer ≡ true → WakesAt limits x h
  pub no : (limits : PlainLimits) (h : History NoMark) → Settled limits flows h → has (live h) x ≡ true → answer ≡ false → IsStill limits x h

-- the frame that goes next, where the write buffer isn't above
pub record NextIs (next : NextFrame) (limits : PlainLimits) (h : History NoMark) : Type 0 where
  pub live : has (live h) next.exchange ≡ true
  pub low : above (plain_setup limits) (buffer.Write 0) h ≡ false
  pub turn : next_on (plain_setup limits) 0 h ≡ FlowsNext (request next.exchange) (BodyUnit next.n next.last)

pub record NoNext (limits : PlainLimits) (h : History NoMark) : Type 0 where
  pub none : (above (plain_setup limits) (buffer.Write 0) h ≡ true) ⊎ (next_on (plain_setup limits) 0 h ≡ Nothing)

abbrev pub NextAt : Option NextFrame → PlainLimits → History NoMark → Type 0
NextAt (Some next) limits h = NextIs next limits h
NextAt None limits h = NoNext limits h

pub record IsNextFrame (flows : Flows) (next : Option NextFrame) : Type 0 where
  pub goes : (limits : PlainLimits) (h : History NoMark) → Settled limits flows h → NextAt next limits h

-- the same, but none where the connection is being drained
abbrev pub IsNextUnless : Bool → Flows → Option NextFrame → Type 0
IsNextUnless true flows next = next ≡ None
IsNextUnless false flows next = IsNextFrame flows next

-- ---- small steps
-- octets of the stream may move: it isn't held back, and its receive buffer holds some
abbrev pub may_move : PlainLimits → ℕ → History NoMark → Bool
may_move limits x h = (count (request x) h == 0) && nat_lt 0 (length (place (plain_setup limits) (request x) 0 h))

-- all that may move of a live stream moves
pub record MovesAt (x : ℕ) (m : Moved) (limits : PlainLimits) (new : Flows) (h : History NoMark) : Type 0 where
  pub live : has (live h) x ≡ true
  pub some : 0 < m.n
  pub all : m.n ≡ min limits.quantum (length (place (plain_setup limits) (request x) 0 h))
  pub free : count (request x) h ≡ 0
  pub rises : m.rose ≡ rises_at (plain_setup limits) (buffer.Send (request x)) (Noted (note.Move (request x) 0 m.n)) h
  pub stands : FlowsStand limits new (onto (move_notes limits x m.n h) h)

-- nothing of a live stream may move
pub record StaysAt (x : ℕ) (limits : PlainLimits) (new : Flows) (h : History NoMark) : Type 0 where
  pub live : has (live h) x ≡ true
  pub still : may_move limits x h ≡ false
  pub stands : FlowsStand limits new h

-- the stream isn't live
pub record IdlesAt (x : ℕ) (limits : PlainLimits) (new : Flows) (h : History NoMark) : Type 0 where
  pub dead : has (live h) x ≡ false
  pub stands : FlowsStand limits new h

abbrev pub StepsAt : ℕ → Outcome → PlainLimits → Flows → History NoMark → Type 0
StepsAt x (outcome.Moved m) limits new h = MovesAt x m limits new h
StepsAt x outcome.Still limits new h = StaysAt x limits new h
StepsAt x outcome.NotLive limits new h = IdlesAt x limits new h

pub record Steps (x : ℕ) (o : Outcome) (old new : Flows) : Type 0 where
  pub goes : (limits : PlainLimits) (h : History NoMark) → Settled limits old h → StepsAt x o limits new h

-- a frame, the pauses of a rise, and the resume of its own low
pub record FramesAt (next : NextFrame) (framed : Framed) (limits : PlainLimits) (new : Flows) (h : History NoMark) : Type 0 where
  pub rises : framed.rose ≡ rises_at (plain_setup limits) (buffer.Write 0) (Noted (note.Frame 0 (request next.exchange) next.n next.last)) h
  pub drains : framed.drained ≡ drains_at (plain_setup limits) (buffer.Send (request next.exchange)) (Noted (note.Frame 0 (request next.exchange) next.n next.last)) h
  pub stands : FlowsStand limits new (onto (frame_notes limits next.exchange next.n next.last h) h)

pub record Frames (next : NextFrame) (framed : Framed) (old new : Flows) : Type 0 where
  pub goes : (limits : PlainLimits) (h : History NoMark) → Settled limits old h → NextIs next limits h → FramesAt next framed limits new h

-- the first n watchers of the write buffer that are to be told that it drained are told, or all where there are fewer
pub record Tells (n : ℕ) (old new : Flows) : Type 0 where
  pub goes : (limits : PlainLimits) (h : History NoMark) → Settled limits old h → is_swept h ≡ false
      → FlowsStand limits new (onto (resumes_of (buffer.Write 0) (take n (pending_lows (plain_setup limits) (buffer.Write 0) h))) h)

-- a live stream is doomed, by a step or by the event of a turn note
pub record Dooms (x : ℕ) (why : Cause) (old new : Flows) : Type 0 where
  pub goes : (limits : PlainLimits) (h : History NoMark) → Settled limits old h → has (live h) x ≡ true → FlowsStand limits new (Noted (note.Doom x why) ∷ h)
  pub turned : (limits : PlainLimits) (k : ℕ) (e : PlainEvent) (h : History NoMark) → Settled limits old h → has (live h) x ≡ true
      → FlowsStand limits old (Noted (note.Turn k (event.Plain e)) ∷ h) → FlowsStand limits new (Noted (note.Doom x why) ∷ Noted (note.Turn k (event.Plain e)) ∷ h)

-- the first of the doomed is gone, where there is one
pub record SweepsAt (x : ℕ) (limits : PlainLimits) (new : Flows) (h : History NoMark) : Type 0 where
  pub rest : List ℕ
  pub first : condemned h ≡ x ∷ rest
  pub stands : FlowsStand limits new (Noted (note.Gone x) ∷ h)

pub record NoneDoomed (limits : PlainLimits) (new : Flows) (h : History NoMark) : Type 0 where
  pub none : condemned h ≡ []
  pub stands : FlowsStand limits new h

abbrev pub SweepsAs : Option ℕ → PlainLimits → Flows → History NoMark → Type 0
SweepsAs (Some x) limits new h = SweepsAt x limits new h
SweepsAs None limits new h = NoneDoomed limits new h

pub record Sweeps (swept : Option ℕ) (old new : Flows) : Type 0 where
  pub goes : (limits : PlainLimits) (h : History NoMark) → Settled limits old h → SweepsAs swept limits new h
  pub less : IfSome swept (λ x. length new.exchanges.doomed < length old.exchanges.doomed)

-- ---- what events do, with their turn note
-- a stream starts, and is paused where the write buffer is above
pub record BeginsAt (x : ℕ) (is_held : Bool) (limits : PlainLimits) (new : Flows) (k : ℕ) (h : History NoMark) : Type 0 where
  pub held : is_held ≡ above (plain_setup limits) (buffer.Write 0) h
  pub stands : FlowsStand limits new (onto (begin_notes limits k x h) h)

pub record Begins (x : ℕ) (is_held : Bool) (old new : Flows) : Type 0 where
  pub goes : (limits : PlainLimits) (k : ℕ) (h : History NoMark) → Settled limits old h → has (started h) x ≡ false → BeginsAt x is_held limits new k h
  pub last : new.exchanges.last ≡ x

-- octets arrive
pub record Arrives (x : ℕ) (octets : List ℕ) (old new : Flows) : Type 0 where
  pub goes : (limits : PlainLimits) (k : ℕ) (h : History NoMark) → Settled limits old h → has (live h) x ≡ true → FlowsStand limits new (onto (body_notes k x octets) h)

-- the end of a live stream comes
pub record Ends (x : ℕ) (old new : Flows) : Type 0 where
  pub goes : (limits : PlainLimits) (k : ℕ) (h : History NoMark) → Settled limits old h → has (live h) x ≡ true
      → FlowsStand limits new (Noted (note.Turn k (event.Plain (plain.Finish x))) ∷ h)

-- n octets leave the write buffer
pub record LeavesAt (n : ℕ) (low : Bool) (limits : PlainLimits) (new : Flows) (k m : ℕ) (h : History NoMark) : Type 0 where
  pub drains : low ≡ drains_at (plain_setup limits) (buffer.Write 0) (Noted (note.Out 0 n)) h
  pub stands : FlowsStand limits new (onto (room_notes k m n) h)

pub record Leaves (n : ℕ) (low : Bool) (old new : Flows) : Type 0 where
  pub goes : (limits : PlainLimits) (k m : ℕ) (h : History NoMark) → Settled limits old h → pending_lows (plain_setup limits) (buffer.Write 0) h ≡ [] → LeavesAt n low limits new k m h

-- ---- others
-- it is doomed where it is live
abbrev pub GivesUpAs : ℕ → Cause → Flows → Bool → Flows → Type 0
GivesUpAs x why old true new = Lives old x true × Dooms x why old new
GivesUpAs x why old false new = Lives old x false × (new ≡ old)

pub record GivesUp (x : ℕ) (why : Cause) (old : Flows) (was_live : Bool) (new : Flows) : Type 0 where
  pub is : GivesUpAs x why old was_live new

-- what became of octets that came for the exchange
abbrev pub ReceivesAs : ℕ → List ℕ → Received → Flows → Flows → Type 0
ReceivesAs x octets received.NotLive old new = Lives old x false × (new ≡ old)
ReceivesAs x octets received.TooMany old new = Lives old x true × Fits old x (length octets) false × (new ≡ old)
ReceivesAs x octets received.Arrived old new = Lives old x true × Fits old x (length octets) true × Arrives x octets old new

pub record Receives (x : ℕ) (octets : List ℕ) (answer : Received) (old new : Flows) : Type 0 where
  pub is : ReceivesAs x octets answer old new

-- its end hasn't come
abbrev pub GoesOn : Flows → ℕ → Type 0
GoesOn flows x = IfSome (flow_at flows.exchanges (request x)) (λ f. f.message.ended ≡ false)

-- the event brings more than the receive buffer has room for
abbrev pub IsOverrunBy : Flows → ℕ → PlainEvent → Type 0
IsOverrunBy flows x (plain.Body y octets) = (y ≡ x) × Fits flows x (length octets) false
IsOverrunBy flows x e = ⊥

pub record IsOverrun (flows : Flows) (x : ℕ) (e : PlainEvent) : Type 0 where
  pub is : IsOverrunBy flows x e
