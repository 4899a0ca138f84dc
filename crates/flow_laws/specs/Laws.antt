-- The laws, each of any setup whose flows have ways, and of any marks.
use Rattle.flow_rules.specs.declared.ids.BufferId.{BufferId}
use Rattle.flow_rules.specs.declared.ids.FlowId.{FlowId}
use Rattle.flow_laws.specs.Balance.{IsBalanced, IsPaced}
use Rattle.flow_laws.specs.Endings.{EndsInTime, IsEmptied, times_ended}
use Rattle.flow_laws.specs.Facts.{ArrivesNow, ComesNow, CreditsNow, DoomsNow, FiresNow, FramesNow, GoesNow, MovesNow, PausesNow, PicksNow, ResumesNow, StartsNow, TurnsNow, WritesNow}
use Rattle.flow_laws.specs.Fitting.{FitsIn}
use Rattle.flow_laws.specs.Octets.{GoesOn, LosesNothing, ReadsBody}
use Rattle.flow_laws.specs.Rest.{IsResting}
use Rattle.flow_laws.specs.Steps.{after}
use Rattle.flow_laws.specs.Suits.{IsSound}
use Rattle.flow_laws.specs.Tellings.{Crosses, KeepsOrder}
use Rattle.flow_laws.specs.Ways.{HasLimits, HasWays}
use Rattle.flow_notes.specs.declared.events.Event.{Event}
use Rattle.flow_rules.specs.declared.causes.Cause.{Cause}
use Rattle.flow_notes.specs.declared.notes.CloseCause.{CloseCause}
use Rattle.flow_rules.specs.declared.causes.FireKind.{FireKind}
use Rattle.std.specs.List.{AllByRecursion}
use Rattle.std.specs.Prelude.{Bool, List, None, length, true, ℕ, ◌∷◌, ◌≡◌, ◌≤◌}
use Rattle.tape_laws.specs.Bounds.{IsBounded}
use Rattle.tape_laws.specs.Demands.{obligations}
use Rattle.tape_laws.specs.Doomed.{LeavesDoomed}
use Rattle.tape_laws.specs.Ends.{end_framed}
use Rattle.tape_laws.specs.Framing.{KeepsEnds}
use Rattle.tape_laws.specs.Headline.{Headline, SendsItsBody}
use Rattle.tape_laws.specs.History.{AtEachMoment, EachFollows, History, Marked, Noted, Step}
use Rattle.tape_laws.specs.Pauses.{Heads, PausesInOrder}
use Rattle.tape_laws.specs.Quiet.{IsQuiet}
use Rattle.tape_laws.specs.Release.{MayStand}
use Rattle.tape_laws.specs.Setup.{Session, Setup}
use Rattle.tape_laws.specs.Sources.{EachLive, is_live, source_buffers}
use Rattle.tape_laws.specs.Tied.{IsTied}
use Rattle.tape_laws.specs.Units.{Pick, WantsOut}
use Rattle.flow_notes.specs.declared.notes.Note.TheVariants as note

-- At each moment the pauses of a live flow, with those that are due, are its resumes, its sources above and its pending lows.
abbrev pub CountsBalance : Type 0 → Type 0
CountsBalance Mark = (setup : Setup Mark) (h : History Mark) → HasWays setup → IsPaced setup h → EachLive setup (λ f. IsBalanced setup f h) h

-- A source of a flow that lives on rises only where it is fed, and drains only where it is eased; its watchers are paused and told.
abbrev pub SourcesCross : Type 0 → Type 0
SourcesCross Mark = (setup : Setup Mark) (step : Step Mark) (past : History Mark) → HasWays setup → IsPaced setup (step ∷ past)
    → (f : FlowId) → is_live setup f past ≡ true → is_live setup f (step ∷ past) ≡ true → AllByRecursion (Crosses setup step past) (source_buffers setup f past)

-- Pauses and tellings keep their order, with only doomed flows left out, and of a closed connection nobody is told.
abbrev pub OrderIsKept : Type 0 → Type 0
OrderIsKept Mark = (setup : Setup Mark) (ss : List (Step Mark)) (h : History Mark) → EachFollows (PausesInOrder setup) (after ss h) → KeepsOrder setup ss h

-- No buffer holds more than its bound, where each step fits in.
abbrev pub BoundsHold : Type 0 → Type 0
BoundsHold Mark = (setup : Setup Mark) (h : History Mark) → HasWays setup → HasLimits setup
    → EachFollows (MayStand setup) h → EachFollows LeavesDoomed h → EachFollows (FitsIn setup) h → AtEachMoment (IsBounded setup) h

-- What a live flow received is what it sent, and what lies in its places from the last to the first.
abbrev pub NothingIsLost : Type 0 → Type 0
NothingIsLost Mark = (setup : Setup Mark) (h : History Mark) → HasWays setup
    → EachFollows (MayStand setup) h → EachFollows LeavesDoomed h → EachLive setup (λ f. LosesNothing setup f h) h

-- What any flow sent is a front of the body that came for it, wherever what arrives is the body's next octets and bodies only go on.
abbrev pub BodiesAreSent : Type 0 → Type 0
BodiesAreSent Mark = (setup : Setup Mark) (h : History Mark) → HasWays setup
    → EachFollows (MayStand setup) h → EachFollows LeavesDoomed h → EachFollows (ReadsBody setup) h → EachFollows (GoesOn setup) h
    → AtEachMoment (IsTied setup) h × AtEachMoment (SendsItsBody setup) h

-- END_STREAM goes at most once, with the last octet: nothing of the flow is left then.
abbrev pub EndsOnce : Type 0 → Type 0
EndsOnce Mark = (setup : Setup Mark) (h : History Mark) → HasWays setup → EachFollows (MayStand setup) h → EachFollows LeavesDoomed h
    → EachFollows (KeepsEnds setup) h → EachFollows (EndsInTime setup) h
    → (f : FlowId) → (times_ended setup f h ≤ 1) × (end_framed setup f h ≡ true → is_live setup f h ≡ true → IsEmptied setup f h)

-- A core that rests is quiet.
abbrev pub RestIsQuiet : {Mark : Type 0} → Session Mark → Type 0
RestIsQuiet {Mark} session = (h : History Mark) → HasWays session.setup → IsPaced session.setup h → IsResting session h → IsQuiet session h

-- A lawful tape of whole dispatches whose steps suit keeps what is promised to an operator.
abbrev pub HeadlineFollows : {Mark : Type 0} → Session Mark → Type 0
HeadlineFollows {Mark} session = (h : History Mark) → HasWays session.setup → IsSound session h → IsQuiet session h
    → Headline session.setup h

-- One step more, by the kind of step: from what a core knows there, the history with it is lawful again.
pub record GoesOnSoundly {Mark : Type 0} (session : Session Mark) (past : History Mark) : Type 0 where
  pub turns : (k : ℕ) (e : Event) → TurnsNow session k e past → IsSound session (Noted (note.Turn k e) ∷ past)
  pub arrives : (f : FlowId) (octets : List ℕ) → ArrivesNow session f octets past → IsSound session (Noted (note.Arrive f octets) ∷ past)
  pub moves : (f : FlowId) (p n : ℕ) → MovesNow session f p n past → IsSound session (Noted (note.Move f p n) ∷ past)
  pub frames : (c : ℕ) (f : FlowId) (n : ℕ) (last : Bool) → FramesNow session c f n last past → IsSound session (Noted (note.Frame c f n last) ∷ past)
  pub credits : (c s n : ℕ) → CreditsNow session c s n past → IsSound session (Noted (note.Credit c s n) ∷ past)
  pub picks : (m : Mark) (p : Pick) → PicksNow session m p past → IsSound session (Marked m ∷ past)
  pub marks : (m : Mark) → session.setup.picks m ≡ None → ComesNow session (Marked m) past → IsSound session (Marked m ∷ past)
  pub heads : (c s : ℕ) (octets : List ℕ) → WritesNow session (Noted (note.Head c s octets)) c (length octets) past
      → IsSound session (Noted (note.Head c s octets) ∷ past)
  pub answers : (c : ℕ) (octets : List ℕ) → WritesNow session (Noted (note.Answer c octets)) c (length octets) past
      → IsSound session (Noted (note.Answer c octets) ∷ past)
  pub outs : (c n : ℕ) → ComesNow session (Noted (note.Out c n)) past → Heads (WantsOut c n) (obligations session past)
      → IsSound session (Noted (note.Out c n) ∷ past)
  pub pauses : (f : FlowId) (b : BufferId) → PausesNow session f b past → IsSound session (Noted (note.Pause f b) ∷ past)
  pub resumes : (f : FlowId) (b : BufferId) → ResumesNow session f b past → IsSound session (Noted (note.Resume f b) ∷ past)
  pub wastes : (c s n : ℕ) → ComesNow session (Noted (note.Waste c s n)) past → IsSound session (Noted (note.Waste c s n) ∷ past)
  pub starts : (x c s d : ℕ) → StartsNow session x c s d past → IsSound session (Noted (note.Start x c s d) ∷ past)
  pub dooms : (x : ℕ) (why : Cause) → DoomsNow session x why past → IsSound session (Noted (note.Doom x why) ∷ past)
  pub goes : (x : ℕ) → GoesNow session x past → IsSound session (Noted (note.Gone x) ∷ past)
  pub closes : (c code : ℕ) (why : CloseCause) → ComesNow session (Noted (note.Close c code why)) past → IsSound session (Noted (note.Close c code why) ∷ past)
  pub fires : (k : FireKind) (x : ℕ) → FiresNow session k x past → IsSound session (Noted (note.Fire k x) ∷ past)

abbrev pub StepsAreSound : {Mark : Type 0} → Session Mark → Type 0
StepsAreSound {Mark} session = (past : History Mark) → HasWays session.setup → HasLimits session.setup
    → IsSound session past → GoesOnSoundly session past
