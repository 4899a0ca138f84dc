-- The turns of a worker.
use Rattle.flow_notes.specs.declared.events.Event.{Event}
use Rattle.flow_notes.specs.declared.events.Event.TheVariants as event
use Rattle.post_queue.specs.declared.hand.Hand.{Hand}
use Rattle.post_queue.specs.declared.posts.Post.{Post}
use Rattle.shared_state.specs.Version.{looked}
use Rattle.shared_state.specs.declared.entries.Entry.{Entry}
use Rattle.shared_state.specs.declared.version_word.VersionView.{VersionView}
use Rattle.std.specs.Prelude.{Bool, List, None, Option, Some, [], false, length, map, suc, take, true, ℕ, ◌++◌, ◌+◌, ◌<◌, ◌∷◌, ◌≡◌, ◌≤◌}
use Rattle.worker_core.specs.Sessions.{IsNextOut, takes_clients}
use Rattle.worker_core.specs.declared.worker.Kind.{Kind}
use Rattle.worker_loop.specs.Carrying.{CarriedAll, events_in, obeyed_event, post_event, room_event, waiting_at}
use Rattle.worker_loop.specs.Did.{Did, Admitted, Gave, Left, Offered, Refused, TurnedAway}
use Rattle.worker_loop.specs.Places.{Becomes, Place}
use Rattle.worker_ports.specs.Told.{TellsLast}
use Rattle.worker_ports.specs.declared.wires.Wired.{Wired}
use Rattle.worker_ports.specs.declared.wires.Wired.TheVariants as wired

-- ---- what came
-- It was taken up. A client's connection is turned away where the core takes none, or where no permit was given.
pub data TakesUp (k : Kind) : Wired → List Did → Kind → Type 0 where
  Shut : (c : ℕ) → takes_clients k ≡ false → TakesUp k (wired.Accept c) (TurnedAway c ∷ []) k
  Full : (c : ℕ) → takes_clients k ≡ true → TakesUp k (wired.Accept c) (Refused c ∷ TurnedAway c ∷ []) k
  Accepted : (c : ℕ) (ds : List Did) (new : Kind) → takes_clients k ≡ true → CarriedAll (event.Accept c ∷ []) k ds new → TakesUp k (wired.Accept c) (Admitted c ∷ ds) new
  Joined : (c cluster : ℕ) (ds : List Did) (new : Kind) → CarriedAll (event.Join c cluster ∷ []) k ds new → TakesUp k (wired.Join c cluster) ds new
  Came : (c : ℕ) (octets : List ℕ) (ds : List Did) (new : Kind) → CarriedAll (event.Read c octets ∷ []) k ds new → TakesUp k (wired.Read c octets) ds new
  Went : (c : ℕ) (ds : List Did) (new : Kind) → CarriedAll (event.Gone c ∷ []) k ds new → TakesUp k (wired.Lost c) (Left c ∷ ds) new
  Idled : TakesUp k wired.Idle [] k
  Stopped : TakesUp k wired.Stop [] k

abbrev pub is_stop : Wired → Bool
is_stop wired.Stop = true
is_stop w = false

-- ---- what waits
-- a front of what waits for the connection, which isn't empty
pub record IsPiece (k : Kind) (c : ℕ) (piece : List ℕ) : Type 0 where
  pub front : piece ≡ take (length piece) (waiting_at c k)
  pub some : 0 < length piece

-- Offers one behind the other, by rising number, the last to the connection `last` (0 before the first): each to the next connection
-- for which octets are to wait, of a front of them, where there are some.
pub data Offers (k0 : Kind) : List Did → ℕ → Kind → Type 0 where
  NoneOffered : Offers k0 [] 0 k0
  Empty : (ds : List Did) (last c : ℕ) (k : Kind) → Offers k0 ds last k → IsNextOut k last (Some c) → waiting_at c k ≡ [] → Offers k0 ds c k
  OneOffered : (ds es : List Did) (last c n : ℕ) (piece : List ℕ) (k new : Kind) → Offers k0 ds last k → IsNextOut k last (Some c) → IsPiece k c piece → n ≤ length piece
      → CarriedAll (events_in (room_event c n)) k es new → Offers k0 (ds ++ Offered c piece n ∷ es) c new

-- ---- a turn
-- what the clock gave, what the runner's pass and the follower's seat know, and the newest entry that the follower read or learnt
pub record Sides : Type 0 where
  pub moments : Option (List ℕ)
  pub pass : Hand
  pub looks : VersionView
  pub kept : Entry

abbrev pub sides_of : Option (List ℕ) → Hand → VersionView → Entry → Sides
sides_of moments pass looks kept = record { moments = moments; pass = pass; looks = looks; kept = kept }

-- the clock was asked once, the box drained once, and the follower asked once
pub record Asks (old : Sides) (moment : ℕ) (posts : List Post) (version : ℕ) (pressures : List ℕ) (new : Sides) : Type 0 where
  pub clock : TellsLast old.moments moment new.moments
  pub ran : new.pass.ran ≡ old.pass.ran ++ posts
  pub drains : new.pass.drains ≡ old.pass.drains + 1
  pub look : new.looks ≡ looked old.looks new.looks.found
  pub newest : version ≡ new.kept.version
  pub front : pressures ≡ take (length pressures) new.kept.pressures
  pub rising : old.kept.version ≤ version
  pub fresh : new.looks.found ≤ version

-- one turn, and whether the worker is to stop
pub record IsTurn (names : List (List ℕ)) (old : Sides) (k : Kind) (v : Place) (new : Sides) (k' : Kind) (w : Place) (stops : Bool) : Type 0 where
  pub moment : ℕ
  pub posts : List Post
  pub version : ℕ
  pub pressures : List ℕ
  pub given : Wired
  pub ticks : List Did
  pub runs : List Did
  pub obeys : List Did
  pub takes : List Did
  pub offers : List Did
  pub last : ℕ
  pub k1 : Kind
  pub k2 : Kind
  pub k3 : Kind
  pub k4 : Kind
  pub asks : Asks old moment posts version pressures new
  pub ticked : CarriedAll (event.Tick moment ∷ []) k ticks k1
  pub ran : CarriedAll (map post_event posts) k1 runs k2
  pub obeyed : CarriedAll (events_in (obeyed_event k2 version pressures)) k2 obeys k3
  pub taken : TakesUp k3 given takes k4
  pub offered : Offers k4 offers last k'
  pub none : IsNextOut k' last None
  pub becomes : Becomes names v (ticks ++ (runs ++ (obeys ++ (Gave given ∷ (takes ++ offers))))) w
  pub stop : stops ≡ is_stop given

-- so many whole turns, in none of which it was to stop
pub data AreTurns (names : List (List ℕ)) (old : Sides) (k : Kind) (v : Place) : ℕ → Sides → Kind → Place → Type 0 where
  NoTurns : AreTurns names old k v 0 old k v
  More : (n : ℕ) (mid new : Sides) (k1 k2 : Kind) (u w : Place) → AreTurns names old k v n mid k1 u → IsTurn names mid k1 u new k2 w false → AreTurns names old k v (suc n) new k2 w
