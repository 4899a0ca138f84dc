-- What a core knows at a step, by the kind of step: the facts from which every law of what may follow is met.
use Rattle.flow_rules.specs.declared.ids.BufferId.{BufferId}
use Rattle.flow_rules.specs.declared.ids.FlowId.{FlowId}
use Rattle.flow_laws.specs.Balance.{LeavesClosed}
use Rattle.flow_laws.specs.Endings.{HeadInTime}
use Rattle.flow_laws.specs.Fitting.{FitsWindow}
use Rattle.flow_laws.specs.Octets.{GoesOn}
use Rattle.flow_laws.specs.Rest.{IsResting}
use Rattle.flow_notes.specs.declared.events.Event.{Event}
use Rattle.flow_rules.specs.declared.causes.Cause.{Cause}
use Rattle.flow_rules.specs.declared.causes.FireKind.{FireKind}
use Rattle.flow_rules.specs.Moves.{overfills}
use Rattle.std.specs.Bool.{OnTrue}
use Rattle.std.specs.Prelude.{Bool, IfSome, IsTrue, List, Some, [], false, length, ℕ, ◌++◌, ◌+◌, ◌<◌, ◌≡◌, ◌≤◌}
use Rattle.tape_laws.specs.Bounds.{unit_size}
use Rattle.tape_laws.specs.Demands.{Answers, is_at_once, obligations}
use Rattle.tape_laws.specs.Dispatches.{has, live, started, turns}
use Rattle.tape_laws.specs.Doomed.{condemned, is_swept, named}
use Rattle.tape_laws.specs.Ends.{end_framed}
use Rattle.tape_laws.specs.Framing.{MayPick}
use Rattle.tape_laws.specs.History.{History, Marked, Noted, Step}
use Rattle.tape_laws.specs.Order.{Flows, Grants, PickedInTurn, next_on}
use Rattle.tape_laws.specs.Pauses.{Heads, due_pauses, is_silent, pending_lows}
use Rattle.tape_laws.specs.Release.{MayMove, MayWrite}
use Rattle.tape_laws.specs.Setup.{Session}
use Rattle.tape_laws.specs.Sources.{is_live}
use Rattle.tape_laws.specs.State.{state_of}
use Rattle.tape_laws.specs.Tied.{IsFront}
use Rattle.tape_laws.specs.Units.{Pick, WantsDoom, WantsStart}
use Rattle.tape_laws.specs.World.{received}
use Rattle.flow_notes.specs.declared.notes.Note.TheVariants as note
use Rattle.flow_rules.specs.declared.unit.Unit.TheVariants as unit

-- The step comes in its turn: no pause is due, no exchange is gone in this dispatch yet, and it is what was asked for first,
-- where anything was. What its kind of session asks of it is met: it has its cause, and bodies only go on.
pub record ComesNow {Mark : Type 0} (session : Session Mark) (step : Step Mark) (past : History Mark) : Type 0 where
  pub paused : due_pauses session.setup past ≡ []
  pub fresh : is_swept past ≡ false
  pub answered : Answers session step past
  pub licensed : session.licensed step past
  pub may : session.may step past
  pub goes_on : GoesOn session.setup step past

-- a dispatch begins: the one before it is at rest
pub record TurnsNow {Mark : Type 0} (session : Session Mark) (k : ℕ) (e : Event) (past : History Mark) : Type 0 where
  pub next : k ≡ turns past + 1
  pub rests : IsResting session past
  pub closed : LeavesClosed session.setup past
  pub licensed : session.licensed (Noted (note.Turn k e)) past
  pub may : session.may (Noted (note.Turn k e)) past
  pub goes_on : GoesOn session.setup (Noted (note.Turn k e)) past

-- the next octets of the body arrive, before its end was framed
pub record ArrivesNow {Mark : Type 0} (session : Session Mark) (f : FlowId) (octets : List ℕ) (past : History Mark) : Type 0 where
  pub now : ComesNow session (Noted (note.Arrive f octets)) past
  pub lives : IsTrue (is_live session.setup f past)
  pub some : 0 < length octets
  pub fits : FitsWindow session.setup f (length octets) past
  pub reads : IsFront (received f past ++ octets) (session.setup.body f past)
  pub unended : end_framed session.setup f past ≡ false

-- the last place that is free releases what it may, and overfills no Hold
pub record MovesNow {Mark : Type 0} (session : Session Mark) (f : FlowId) (p n : ℕ) (past : History Mark) : Type 0 where
  pub now : ComesNow session (Noted (note.Move f p n)) past
  pub moves : MayMove session.setup f p n past
  pub fits : overfills (state_of session.setup f past) p n ≡ false

-- the next unit of a connection that may write: a DATA frame, a window update, or one that is picked
pub record FramesNow {Mark : Type 0} (session : Session Mark) (c : ℕ) (f : FlowId) (n : ℕ) (last : Bool) (past : History Mark) : Type 0 where
  pub now : ComesNow session (Noted (note.Frame c f n last)) past
  pub write : MayWrite session.setup c past
  pub next : next_on session.setup c past ≡ Flows f (unit.Body n last)

pub record CreditsNow {Mark : Type 0} (session : Session Mark) (c s n : ℕ) (past : History Mark) : Type 0 where
  pub now : ComesNow session (Noted (note.Credit c s n)) past
  pub write : MayWrite session.setup c past
  pub next : next_on session.setup c past ≡ Grants (record { stream = s; n = n })

pub record PicksNow {Mark : Type 0} (session : Session Mark) (m : Mark) (p : Pick) (past : History Mark) : Type 0 where
  pub now : ComesNow session (Marked m) past
  pub picks : session.setup.picks m ≡ Some p
  pub ends : MayPick session.setup p.unit past
  pub next : PickedInTurn session.setup p.conn p.unit past
  pub in_time : HeadInTime session.setup p.unit past

-- what was picked is written: a header block, or a control frame, n octets long
pub record WritesNow {Mark : Type 0} (session : Session Mark) (step : Step Mark) (c n : ℕ) (past : History Mark) : Type 0 where
  pub now : ComesNow session step past
  pub write : MayWrite session.setup c past
  pub fits : n ≤ unit_size session.setup

-- the next pause that is due; it meets no demand, so nothing else is asked of it
pub record PausesNow {Mark : Type 0} (session : Session Mark) (f : FlowId) (b : BufferId) (past : History Mark) : Type 0 where
  pub next : Heads (record { flow = f; buffer = b }) (due_pauses session.setup past)
  pub licensed : session.licensed (Noted (note.Pause f b)) past
  pub may : session.may (Noted (note.Pause f b)) past
  pub goes_on : GoesOn session.setup (Noted (note.Pause f b)) past

-- the next flow that is still to be told of a drain
pub record ResumesNow {Mark : Type 0} (session : Session Mark) (f : FlowId) (b : BufferId) (past : History Mark) : Type 0 where
  pub now : ComesNow session (Noted (note.Resume f b)) past
  pub next : Heads f (pending_lows session.setup b past)
  pub open_ : is_silent b past ≡ false

-- an exchange starts that never did
pub record StartsNow {Mark : Type 0} (session : Session Mark) (x c s d : ℕ) (past : History Mark) : Type 0 where
  pub now : ComesNow session (Noted (note.Start x c s d)) past
  pub asked : Heads (WantsStart x c s d) (obligations session past)
  pub new : has (started past) x ≡ false

-- a live exchange is doomed, at once where its cause asks for that
pub record DoomsNow {Mark : Type 0} (session : Session Mark) (x : ℕ) (why : Cause) (past : History Mark) : Type 0 where
  pub now : ComesNow session (Noted (note.Doom x why)) past
  pub lives : IsTrue (has (live past) x)
  pub asked : OnTrue (is_at_once why) (Heads (WantsDoom x why) (obligations session past))

-- the first of the doomed is gone
pub record GoesNow {Mark : Type 0} (session : Session Mark) (x : ℕ) (past : History Mark) : Type 0 where
  pub paused : due_pauses session.setup past ≡ []
  pub asked : obligations session past ≡ []
  pub next : Heads x (condemned past)
  pub licensed : session.licensed (Noted (note.Gone x)) past
  pub may : session.may (Noted (note.Gone x)) past
  pub goes_on : GoesOn session.setup (Noted (note.Gone x)) past

-- a timer of a live exchange, or of a connection, fires
pub record FiresNow {Mark : Type 0} (session : Session Mark) (k : FireKind) (x : ℕ) (past : History Mark) : Type 0 where
  pub now : ComesNow session (Noted (note.Fire k x)) past
  pub lives : IfSome (named (note.Fire k x)) (λ y. IsTrue (has (live past) y))
