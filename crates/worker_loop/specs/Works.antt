-- What one call of the work leaves.
use Rattle.flow_notes.specs.declared.events.Event.{Event}
use Rattle.flow_notes.specs.declared.events.Event.TheVariants as event
use Rattle.post_queue.specs.declared.posts.Post.{Post}
use Rattle.std.specs.List.{AllByRecursion}
use Rattle.std.specs.Prelude.{Bool, List, [], false, length, map, true, ℕ, ◌++◌, ◌<◌, ◌∷◌, ◌≡◌, ◌≤◌, ◌⊎◌}
use Rattle.worker_core.specs.Sessions.{version_of}
use Rattle.worker_core.specs.declared.worker.Kind.{Kind}
use Rattle.worker_loop.specs.Carrying.{CarriedAll, events_in, post_event, room_event}
use Rattle.worker_loop.specs.Cutting.{Cuts}
use Rattle.worker_loop.specs.Did.{Did, Gave, Offered, events_of}
use Rattle.worker_loop.specs.Places.{Becomes, Place}
use Rattle.worker_loop.specs.Turns.{AreTurns, IsPiece, IsTurn, Sides, TakesUp}
use Rattle.worker_loop.specs.declared.turns.Ended.{Ended}
use Rattle.worker_loop.specs.declared.turns.Ended.TheVariants as ended
use Rattle.worker_ports.specs.Told.{TellsLast}
use Rattle.worker_ports.specs.declared.wires.Wired.{Wired}

-- an event of the clock, of a post or of what is published, and of no connection
abbrev pub is_inner : Event → Bool
is_inner (event.Tick now) = true
is_inner (event.Post poster number job) = true
is_inner (event.Obey version pressures) = true
is_inner e = false

abbrev pub AreInner : List Event → Type 0
AreInner es = AllByRecursion (λ e. is_inner e ≡ true) es

-- the versions that are published in these events
abbrev pub versions_in : List Event → List ℕ
versions_in [] = []
versions_in (event.Obey version pressures ∷ es) = version ∷ versions_in es
versions_in (e ∷ es) = versions_in es

-- the first is greater than n, and each other one than the one before it
abbrev pub AreRising : ℕ → List ℕ → Type 0
AreRising n [] = Unit
AreRising n (m ∷ ms) = (n < m) × AreRising m ms

-- Whole parts of turns, in any order: inner events; something that came and was taken up; a front of what waited that was offered,
-- with the event of what was taken.
pub data Runs : Kind → List Did → Kind → Type 0 where
  NoneRun : (k : Kind) → Runs k [] k
  InnerRun : (es : List Event) (k mid new : Kind) (ds rest : List Did) → AreInner es → AreRising (version_of k) (versions_in es) → CarriedAll es k ds mid → Runs mid rest new
      → Runs k (ds ++ rest) new
  TakenRun : (given : Wired) (k mid new : Kind) (ds rest : List Did) → TakesUp k given ds mid → Runs mid rest new → Runs k (Gave given ∷ (ds ++ rest)) new
  OfferRun : (c n : ℕ) (piece : List ℕ) (k mid new : Kind) (ds rest : List Did) → IsPiece k c piece → n ≤ length piece → CarriedAll (events_in (room_event c n)) k ds mid → Runs mid rest new
      → Runs k (Offered c piece n ∷ (ds ++ rest)) new

-- the moments of the ticks among these events, and the posts
abbrev pub ticks_in : List Event → List ℕ
ticks_in [] = []
ticks_in (event.Tick now ∷ es) = now ∷ ticks_in es
ticks_in (e ∷ es) = ticks_in es

abbrev pub posts_in : List Event → List Event
posts_in [] = []
posts_in (event.Post poster number job ∷ es) = event.Post poster number job ∷ posts_in es
posts_in (e ∷ es) = posts_in es

-- where the journal failed or memory was refused, what was given last may be missing from the events
abbrev pub MayMiss : Ended → Type 0
MayMiss ended.JournalFault = Unit
MayMiss ended.Memory = Unit
MayMiss end = ⊥

-- In a turn that broke off the clock was asked once and the box drained at most once. Of what they gave so much was dispatched.
pub record AsksPart (end : Ended) (old : Sides) (es : List Event) (new : Sides) : Type 0 where
  pub moment : ℕ
  pub clock : TellsLast old.moments moment new.moments
  pub ticks : (MayMiss end × (ticks_in es ≡ [])) ⊎ (ticks_in es ≡ moment ∷ [])
  pub ran : List Post
  pub rest : List Post
  pub missed : (rest ≡ []) ⊎ MayMiss end
  pub drained : new.pass.ran ≡ old.pass.ran ++ (ran ++ rest)
  pub posts : posts_in es ≡ map post_event ran

-- a part of a turn, and then it broke off
pub record BreaksTurn (names : List (List ℕ)) (end : Ended) (old : Sides) (k : Kind) (v : Place) (new : Sides) (k' : Kind) (w : Place) : Type 0 where
  pub did : List Did
  pub kind : Kind
  pub mid : Place
  pub runs : Runs k did kind
  pub becomes : Becomes names v did mid
  pub cuts : Cuts names kind mid end k' w
  pub asks : AsksPart end old (events_of did) new

-- so many whole turns, and then one in which it was to stop
pub record StopsIn (names : List (List ℕ)) (old : Sides) (k : Kind) (v : Place) (n : ℕ) (new : Sides) (k' : Kind) (w : Place) : Type 0 where
  pub mid : Sides
  pub kind : Kind
  pub place : Place
  pub turns : AreTurns names old k v n mid kind place
  pub last : IsTurn names mid kind place new k' w true

-- so many whole turns, and then a part of one
pub record BreaksIn (names : List (List ℕ)) (end : Ended) (old : Sides) (k : Kind) (v : Place) (n : ℕ) (new : Sides) (k' : Kind) (w : Place) : Type 0 where
  pub mid : Sides
  pub kind : Kind
  pub place : Place
  pub turns : AreTurns names old k v n mid kind place
  pub broke : BreaksTurn names end mid kind place new k' w

-- by how it ended
abbrev pub Works : List (List ℕ) → ℕ → Sides → Kind → Place → Ended → Sides → Kind → Place → Type 0
Works names turns old k v ended.Turns new k' w = AreTurns names old k v turns new k' w
Works names turns old k v ended.Stopped new k' w = (n : ℕ) × (n < turns) × StopsIn names old k v n new k' w
Works names turns old k v end new k' w = (n : ℕ) × (n < turns) × BreaksIn names end old k v n new k' w
