-- A relay and connections that belong together: both new, or after whole turns.
use Rattle.relay_laws.specs.Order.{named}
use Rattle.relay_laws.specs.Pairs.{Tape, feed, is_open}
use Rattle.std.specs.List.{AllByRecursion}
use Rattle.std.specs.Prelude.{List, length, not, true, ℕ, ◌≡◌, ◌≤◌}
use Rattle.tape_laws.specs.Dispatches.{events_back}
use Rattle.tcp_relay.specs.Rests.{Rests, goes_on}
use Rattle.tcp_relay.specs.declared.relay.Relay.{Relay}
use Rattle.worker_ports.specs.Wires.{Seen, is_held, is_live}

-- The relay stands for a tape. Its open connections are the live ones, of which exactly those are held that don't read. A
-- connection that comes has a number above all of the tape. The names are those of the clusters.
pub record Belong (limit : ℕ) (names : List (List ℕ)) (relay : Relay) (seen : Seen) (h : Tape) : Type 0 where
  pub rests : Rests limit names relay h
  pub clusters : seen.clusters ≡ length names
  pub newer : AllByRecursion (λ c. c ≤ seen.greatest) (named (events_back h))
  pub live : (c : ℕ) → is_live c seen ≡ is_open c h
  pub held : (c : ℕ) → is_live c seen ≡ true → is_held c seen ≡ not (goes_on limit (feed c h) h)

-- they belong together, of some tape
pub record Belongs (names : List (List ℕ)) (relay : Relay) (seen : Seen) : Type 0 where
  pub limit : ℕ
  pub tape : Tape
  pub belong : Belong limit names relay seen tape
