-- Connections in memory.
use Rattle.io_ports.specs.Memory.{counted}
use Rattle.mem_ports.specs.declared.steps.Room.{Room}
use Rattle.mem_ports.specs.declared.wires.MemWires.TheInside.{Inside}
use Rattle.std.specs.List.{list_any}
use Rattle.std.specs.Prelude.{Bool, List, Some, [], drop, if◌then◌else◌, length, nat_eq, nat_le, nat_lt, suc, true, ℕ, ◌&&◌, ◌++◌, ◌-◌, ◌<◌, ◌∷◌, ◌≡◌, ◌≤◌}
use Rattle.worker_ports.specs.Wires.{Seen, greatest_after, is_live, live_after, without}
use Rattle.worker_ports.specs.declared.wires.WireStep.{WireStep}
use Rattle.worker_ports.specs.declared.wires.WireStep.TheVariants as step
use Rattle.worker_ports.specs.declared.wires.Wired.{Wired}
use Rattle.worker_ports.specs.declared.wires.Wired.TheVariants as wired

-- What they are to give, and what was done so far; how many octets an offer takes at most; the calls and the faults so far, and
-- the numbers of the calls that are to fail; for how many offers a `next` makes room, and for how many there is room now.
pub record WiresMemory : Type 0 where
  pub clusters : ℕ
  pub answers : List Wired
  pub live : List ℕ
  pub greatest : ℕ
  pub steps : List WireStep
  pub most : ℕ
  pub calls : ℕ
  pub failing : List ℕ
  pub faults : ℕ
  pub room : Room
  pub offers : ℕ
  pub octets : ℕ

abbrev pub memory_of : Inside → WiresMemory
memory_of w = record {
  clusters = w.clusters;
  answers = w.answers.items;
  live = w.live.keys;
  greatest = w.greatest;
  steps = w.steps.steps;
  most = w.most;
  calls = w.calls;
  failing = w.failing.items;
  faults = w.faults;
  room = w.room;
  offers = w.steps.offers;
  octets = w.steps.octets;
}

-- none is held, and all is told
abbrev pub seen_of : WiresMemory → Seen
seen_of w = record { clusters = w.clusters; live = w.live; greatest = w.greatest; held = []; steps = Some w.steps }

-- each of the numbers is less
abbrev pub AreBelow : ℕ → List ℕ → Type 0
AreBelow n numbers = (c : ℕ) → list_any (nat_eq c) numbers ≡ true → c < n

-- there is room for the close of each live connection, and none has a number above the greatest
pub record IsKept (w : Inside) : Type 0 where
  pub closes : length w.live.keys ≤ w.steps.others
  pub below : AreBelow (suc w.greatest) w.live.keys

-- before the first call
abbrev pub is_new : ℕ → List Wired → Room → List ℕ → ℕ → WiresMemory
is_new clusters answers room failing most = record {
  clusters = clusters;
  answers = answers;
  live = [];
  greatest = 0;
  steps = [];
  most = most;
  calls = 0;
  failing = failing;
  faults = 0;
  room = room;
  offers = 0;
  octets = 0;
}

-- it may come next
abbrev pub may_come : Seen → Wired → Bool
may_come seen (wired.Accept c) = nat_lt seen.greatest c
may_come seen (wired.Join c cluster) = nat_lt seen.greatest c && nat_lt cluster seen.clusters
may_come seen (wired.Read c octets) = is_live c seen && (nat_lt 0 (length octets) && nat_le (length octets) 16384)
may_come seen (wired.Lost c) = is_live c seen
may_come seen wired.Idle = true
may_come seen wired.Stop = true

-- the next answer, or `Idle` where none is left or it may not come
abbrev pub answer_of : Seen → List Wired → Wired
answer_of seen [] = wired.Idle
answer_of seen (w ∷ ws) = if may_come seen w then w else wired.Idle

-- a connection that comes has a number above this one
abbrev pub IsAbove : ℕ → Wired → Type 0
IsAbove n (wired.Accept c) = n < c
IsAbove n (wired.Join c cluster) = n < c
IsAbove n w = Unit

-- once `next` or `offer` was called
abbrev pub called : WiresMemory → WiresMemory
called w = record w { calls = counted w.calls }

-- and failed
abbrev pub failed_at : WiresMemory → WiresMemory
failed_at w = record w { calls = counted w.calls; faults = counted w.faults }

-- once this was given
abbrev pub gave : Wired → WiresMemory → WiresMemory
gave g w = record w {
  answers = drop 1 w.answers;
  live = live_after g w.live;
  greatest = greatest_after g w.greatest;
  steps = w.steps ++ step.Gave g ∷ [];
  offers = w.room.offers;
  octets = w.room.octets;
}

-- whether there is room for an offer of so many octets
abbrev pub has_room : ℕ → WiresMemory → Bool
has_room n w = nat_lt 0 w.offers && nat_le n w.octets

-- once so many octets of a piece were taken
abbrev pub took : ℕ → List ℕ → ℕ → WiresMemory → WiresMemory
took c piece n w = record w {
  steps = w.steps ++ step.Offered c piece n ∷ [];
  offers = w.offers - 1;
  octets = w.octets - length piece;
}

-- once the connection is closed, if it was live
abbrev pub ended : ℕ → WiresMemory → WiresMemory
ended c w = if list_any (nat_eq c) w.live then record w { live = without c w.live; steps = w.steps ++ step.Closed c ∷ [] } else w
