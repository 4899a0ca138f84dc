-- The connections of a worker, as they are seen.
use Rattle.std.specs.List.{filter, list_any}
use Rattle.std.specs.Prelude.{Bool, List, Option, [], false, if◌then◌else◌, length, nat_eq, not, true, ℕ, ◌++◌, ◌<◌, ◌∷◌, ◌≡◌, ◌≤◌}
use Rattle.worker_ports.specs.Told.{with_last}
use Rattle.worker_ports.specs.declared.wires.WireStep.{WireStep}
use Rattle.worker_ports.specs.declared.wires.WireStep.TheVariants as step
use Rattle.worker_ports.specs.declared.wires.Wired.{Wired}
use Rattle.worker_ports.specs.declared.wires.Wired.TheVariants as wired

-- how many clusters there are, the live connections in the order in which they came, the greatest number of a connection so
-- far (0 before the first), the connections that aren't to be read (none but at a relay's), and what was done so far, where it is told
pub record Seen : Type 0 where
  pub clusters : ℕ
  pub live : List ℕ
  pub greatest : ℕ
  pub held : List ℕ
  pub steps : Option (List WireStep)

abbrev pub is_live : ℕ → Seen → Bool
is_live c seen = list_any (nat_eq c) seen.live

-- it isn't to be read
abbrev pub is_held : ℕ → Seen → Bool
is_held c seen = list_any (nat_eq c) seen.held

-- what may come next: a connection above all before, or something of a live one
abbrev pub MayCome : Seen → Wired → Type 0
MayCome seen (wired.Accept c) = seen.greatest < c
MayCome seen (wired.Join c cluster) = (seen.greatest < c) × (cluster < seen.clusters)
MayCome seen (wired.Read c octets) = ((is_live c seen ≡ true) × (is_held c seen ≡ false)) × ((0 < length octets) × (length octets ≤ 16384))
MayCome seen (wired.Lost c) = is_live c seen ≡ true
MayCome seen wired.Idle = Unit
MayCome seen wired.Stop = Unit

abbrev pub without : ℕ → List ℕ → List ℕ
without c live = filter (λ d. not (nat_eq c d)) live

abbrev pub live_after : Wired → List ℕ → List ℕ
live_after (wired.Accept c) live = live ++ c ∷ []
live_after (wired.Join c cluster) live = live ++ c ∷ []
live_after (wired.Lost c) live = without c live
live_after w live = live

-- a connection that is lost is held no more
abbrev pub held_after : Wired → List ℕ → List ℕ
held_after (wired.Lost c) held = without c held
held_after w held = held

abbrev pub greatest_after : Wired → ℕ → ℕ
greatest_after (wired.Accept c) n = c
greatest_after (wired.Join c cluster) n = c
greatest_after w n = n

-- once this was given
abbrev pub given : Wired → Seen → Seen
given w seen = record {
  clusters = seen.clusters;
  live = live_after w seen.live;
  greatest = greatest_after w seen.greatest;
  held = held_after w seen.held;
  steps = with_last (step.Gave w) seen.steps;
}

-- it may come, and it was given
pub record Gives (old : Seen) (w : Wired) (new : Seen) : Type 0 where
  pub may : MayCome old w
  pub is : new ≡ given w old

-- once so many octets of a piece were taken
abbrev pub offered : ℕ → List ℕ → ℕ → Seen → Seen
offered c piece n seen = record seen { steps = with_last (step.Offered c piece n) seen.steps }

-- once the connection is closed, if it was live
abbrev pub closed : ℕ → Seen → Seen
closed c seen = if is_live c seen then record seen { live = without c seen.live; held = without c seen.held; steps = with_last (step.Closed c) seen.steps } else seen
