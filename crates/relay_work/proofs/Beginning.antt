-- New ones belong together.
use Rattle.relay_work.specs.Belonging.{Belongs}
use Rattle.std.proofs.Common.{ap}
use Rattle.std.specs.List.{list_any}
use Rattle.std.specs.Prelude.{Bool, List, [], false, length, nat_eq, true, ℕ, ◌≡◌}
use Rattle.tcp_relay.specs.Rests.{Rests}
use Rattle.tcp_relay.specs.declared.relay.Relay.{Relay}
use Rattle.worker_ports.specs.Wires.{Seen, is_live}

pub belongs_new : (limit : ℕ) (names : List (List ℕ)) (relay : Relay) (seen : Seen) → Rests limit names relay [] → seen.clusters ≡ length names → seen.live ≡ [] → Belongs names relay seen
belongs_new limit names relay seen rests clusters live = record {
  limit = limit;
  tape = [];
  belong = record {
    rests = rests;
    clusters = clusters;
    newer = tt;
    live = none;
    held = λ c there. absurd (never (is_live c seen) (none c) there);
  };
}
  where
    none : (c : ℕ) → is_live c seen ≡ false
    none c = ap (λ (cs : List ℕ). list_any (nat_eq c) cs) live

    never : (b : Bool) → b ≡ false → b ≡ true → ⊥
    never true e f = cc
    never false e f = cc
