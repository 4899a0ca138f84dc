-- A connection is held, or isn't any more.
use Rattle.std.specs.Prelude.{Bool, if◌then◌else◌, nat_eq, ℕ, ◌&&◌, ◌≡◌}
use Rattle.worker_ports.specs.Wires.{Seen, is_held, is_live}

-- one that isn't live is never held
pub record Holds (c : ℕ) (holds : Bool) (old new : Seen) : Type 0 where
  pub clusters : new.clusters ≡ old.clusters
  pub live : new.live ≡ old.live
  pub greatest : new.greatest ≡ old.greatest
  pub steps : new.steps ≡ old.steps
  pub held : (d : ℕ) → is_held d new ≡ (if nat_eq c d then holds && is_live c old else is_held d old)
