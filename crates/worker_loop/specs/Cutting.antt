-- What is left where the work breaks off.
use Rattle.flow_notes.specs.declared.events.Event.{Event}
use Rattle.session_run.specs.Ends.{AppendsFront}
use Rattle.std.specs.Prelude.{List, [], map, ℕ, ◌∷◌, ◌≡◌, ◌⊎◌}
use Rattle.worker_core.specs.declared.worker.Kind.{Kind}
use Rattle.worker_loop.specs.Did.{Admitted, Did, Dispatched, Ended, Gave, Left, Offered}
use Rattle.worker_loop.specs.Places.{Becomes, Place, event_line}
use Rattle.worker_loop.specs.declared.turns.Ended.{Ended as End}
use Rattle.worker_loop.specs.declared.turns.Ended.TheVariants as ended
use Rattle.worker_ports.specs.declared.wires.Wired.{Wired}
use Rattle.worker_ports.specs.declared.wires.Wired.TheVariants as wired

-- a front of the line of an event was written, and the event wasn't dispatched
pub record CutsFront (names : List (List ℕ)) (v w : Place) : Type 0 where
  pub happens : Event
  pub front : AppendsFront v.text w.text (event_line names happens)
  pub rest : w ≡ record v { text = w.text }

-- nothing more was done, or one event was cut short, whose notes weren't handed over
pub record CutsShort (names : List (List ℕ)) (v w : Place) : Type 0 where
  pub did : List Did
  pub is : (did ≡ []) ⊎ ((e : Event) × (cs : List ℕ) × (did ≡ Dispatched e ∷ map Ended cs))
  pub becomes : Becomes names v did w

-- an event broke off: the core is as it was, or without memory nothing is said of it
abbrev pub CutsOne : List (List ℕ) → End → Kind → Place → Kind → Place → Type 0
CutsOne names ended.JournalFault k v new w = (new ≡ k) × CutsFront names v w
CutsOne names ended.Memory k v new w = CutsShort names v w
CutsOne names end k v new w = ⊥

-- what the connections gave or took last, before its event was carried out
pub data Begun : List Did → Type 0 where
  NoneBegun : Begun []
  GaveOne : (given : Wired) → Begun (Gave given ∷ [])
  LetIn : (c : ℕ) → Begun (Gave (wired.Accept c) ∷ Admitted c ∷ [])
  LostOne : (c : ℕ) → Begun (Gave (wired.Lost c) ∷ Left c ∷ [])
  TookSome : (c n : ℕ) (piece : List ℕ) → Begun (Offered c piece n ∷ [])

-- the connections failed, or an event broke off, for which something was given or taken first
pub data Cuts (names : List (List ℕ)) (k : Kind) (v : Place) : End → Kind → Place → Type 0 where
  AtWires : Cuts names k v ended.WiresFault k v
  Midway : (end : End) (head : List Did) (mid : Place) (new : Kind) (w : Place) → Begun head → Becomes names v head mid → CutsOne names end k mid new w → Cuts names k v end new w
