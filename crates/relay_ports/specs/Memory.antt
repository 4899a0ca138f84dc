-- Connections in memory, of which each may be held.
use Rattle.io_ports.specs.Memory.{counted}
use Rattle.mem_ports.specs.declared.steps.Room.{Room}
use Rattle.relay_ports.specs.declared.mem_taps.MemTaps.TheInside.{Inside}
use Rattle.std.specs.List.{AllByRecursion, list_any}
use Rattle.std.specs.Prelude.{Bool, List, Some, [], drop, false, filter, if◌then◌else◌, length, map, nat_eq, nat_le, nat_lt, not, true, ℕ, ◌&&◌, ◌++◌, ◌-◌, ◌<◌, ◌∷◌, ◌≡◌, ◌≤◌}
use Rattle.worker_ports.specs.Wires.{Seen, greatest_after, is_held, is_live}
use Rattle.worker_ports.specs.declared.wires.WireStep.{WireStep}
use Rattle.worker_ports.specs.declared.wires.WireStep.TheVariants as step
use Rattle.worker_ports.specs.declared.wires.Wired.{Wired}
use Rattle.worker_ports.specs.declared.wires.Wired.TheVariants as wired

-- a live connection, with whether it is held
abbrev pub Tap : Type 0
Tap = ℕ × Bool

-- What they are to give, and what was done so far; how many octets an offer takes at most; the calls and the faults so far, and
-- the numbers of the calls that are to fail; for how many offers a `next` makes room, and for how many there is room now.
pub record TapsMemory : Type 0 where
  pub clusters : ℕ
  pub answers : List Wired
  pub taps : List Tap
  pub greatest : ℕ
  pub steps : List WireStep
  pub most : ℕ
  pub calls : ℕ
  pub failing : List ℕ
  pub faults : ℕ
  pub room : Room
  pub offers : ℕ
  pub octets : ℕ

abbrev pub memory_of : Inside → TapsMemory
memory_of w = record {
  clusters = w.clusters;
  answers = w.answers.items;
  taps = w.taps.entries;
  greatest = w.greatest;
  steps = w.steps.steps;
  most = w.most;
  calls = w.calls;
  failing = w.failing.items;
  faults = w.faults;
  room = w.room;
  offers = w.steps.offers;
  octets = w.steps.octets;
}

abbrev pub live_in : List Tap → List ℕ
live_in taps = map (λ (t : Tap). t.0) taps

abbrev pub held_in : List Tap → List ℕ
held_in taps = live_in (filter (λ (t : Tap). t.1) taps)

-- all is told
abbrev pub seen_of : TapsMemory → Seen
seen_of w = record { clusters = w.clusters; live = live_in w.taps; greatest = w.greatest; held = held_in w.taps; steps = Some w.steps }

-- the numbers rise
abbrev pub Rises : List Tap → Type 0
Rises [] = Unit {0}
Rises (t ∷ taps) = AllByRecursion (λ (u : Tap). t.0 < u.0) taps × Rises taps

-- none of the numbers is greater
abbrev pub AreMost : ℕ → List Tap → Type 0
AreMost n taps = AllByRecursion (λ (t : Tap). t.0 ≤ n) taps

-- there is room for the close of each live connection; their numbers rise, and none is above the greatest
pub record IsKept (w : Inside) : Type 0 where
  pub closes : length w.taps.entries ≤ w.steps.others
  pub rises : Rises w.taps.entries
  pub below : AreMost w.greatest w.taps.entries

-- before the first call
abbrev pub is_new : ℕ → List Wired → Room → List ℕ → ℕ → TapsMemory
is_new clusters answers room failing most = record {
  clusters = clusters;
  answers = answers;
  taps = [];
  greatest = 0;
  steps = [];
  most = most;
  calls = 0;
  failing = failing;
  faults = 0;
  room = room;
  offers = 0;
  octets = 0;
}

-- it may come next
abbrev pub may_come : Seen → Wired → Bool
may_come seen (wired.Accept c) = nat_lt seen.greatest c
may_come seen (wired.Join c cluster) = nat_lt seen.greatest c && nat_lt cluster seen.clusters
may_come seen (wired.Read c octets) = is_live c seen && (not (is_held c seen) && (nat_lt 0 (length octets) && nat_le (length octets) 16384))
may_come seen (wired.Lost c) = is_live c seen
may_come seen wired.Idle = true
may_come seen wired.Stop = true

-- the next answer, or `Idle` where none is left or it may not come
abbrev pub answer_of : Seen → List Wired → Wired
answer_of seen [] = wired.Idle
answer_of seen (w ∷ ws) = if may_come seen w then w else wired.Idle

-- ---- what the calls do
abbrev pub without_tap : ℕ → List Tap → List Tap
without_tap c taps = filter (λ (t : Tap). not (nat_eq c t.0)) taps

abbrev pub taps_after : Wired → List Tap → List Tap
taps_after (wired.Accept c) taps = taps ++ (c, false) ∷ []
taps_after (wired.Join c cluster) taps = taps ++ (c, false) ∷ []
taps_after (wired.Lost c) taps = without_tap c taps
taps_after w taps = taps

abbrev pub held_as : ℕ → Bool → List Tap → List Tap
held_as c held taps = map (λ (t : Tap). if nat_eq c t.0 then (t.0, held) else t) taps

-- a connection that comes has a greater number
abbrev pub IsAbove : ℕ → Wired → Type 0
IsAbove greatest (wired.Accept c) = greatest < c
IsAbove greatest (wired.Join c cluster) = greatest < c
IsAbove greatest w = Unit {0}

-- once `next` or `offer` was called
abbrev pub called : TapsMemory → TapsMemory
called w = record w { calls = counted w.calls }

-- and failed
abbrev pub failed_at : TapsMemory → TapsMemory
failed_at w = record w { calls = counted w.calls; faults = counted w.faults }

-- once this was given
abbrev pub gave : Wired → TapsMemory → TapsMemory
gave g w = record w {
  answers = drop 1 w.answers;
  taps = taps_after g w.taps;
  greatest = greatest_after g w.greatest;
  steps = w.steps ++ step.Gave g ∷ [];
  offers = w.room.offers;
  octets = w.room.octets;
}

-- whether there is room for an offer of so many octets
abbrev pub has_room : ℕ → TapsMemory → Bool
has_room n w = nat_lt 0 w.offers && nat_le n w.octets

-- once so many octets of a piece were taken
abbrev pub took : ℕ → List ℕ → ℕ → TapsMemory → TapsMemory
took c piece n w = record w {
  steps = w.steps ++ step.Offered c piece n ∷ [];
  offers = w.offers - 1;
  octets = w.octets - length piece;
}

-- once the connection is closed, if it was live
abbrev pub ended : ℕ → TapsMemory → TapsMemory
ended c w = if list_any (nat_eq c) (live_in w.taps) then record w { taps = without_tap c w.taps; steps = w.steps ++ step.Closed c ∷ [] } else w
