-- What fitting workers does to their pool, and to what the site tells.
use Rattle.post_queue.specs.declared.passes.RunnerPass.{RunnerPass}
use Rattle.post_queue.specs.declared.post_box.PostBox.{PostBox}
use Rattle.proxy_config.specs.declared.config.Config.{Config}
use Rattle.proxy_wire.specs.Pools.{EachTwo, IsPool, IsHired, IsIdle}
use Rattle.proxy_site.specs.WireSites.{TellsFitted, WireTold, numbered}
use Rattle.proxy_wire.specs.Working.{Begins}
use Rattle.proxy_wire.specs.declared.pool.Pool.{Pool}
use Rattle.proxy_wire.specs.declared.pool.Parts.{Parts}
use Rattle.shared_state.specs.PermitSeats.{IsSeatOf}
use Rattle.shared_state.specs.declared.permits.Permits.{Permits}
use Rattle.std.specs.Prelude.{List, Option, Some, [], length, suc, ℕ, ◌++◌, ◌∷◌, ◌≡◌, ◌≤◌, ◌⊎◌}
use Rattle.worker_core.specs.Sessions.{IsNew, RestsWire, StandsAt}
use Rattle.worker_ports.specs.declared.ports.OpenGate.{OpenGate}
use Rattle.worker_threads.specs.Starting.{Outside}
use Rattle.worker_threads.specs.declared.worker.Shared.{Shared}
use Rattle.worker_threads.specs.declared.worker.Worker.{Worker}

-- permits and names stay, and boxes stand behind those that there were
pub record SharesMore (old new : Shared) : Type 0 where
  pub permits : new.permits ≡ old.permits
  pub names : new.names ≡ old.names
  pub more : List PostBox
  pub boxes : new.posts.items ≡ old.posts.items ++ more

-- there is what a worker is made of, with a core that rests
pub record HasParts (next : Option Parts) : Type 0 where
  pub parts : Parts
  pub is : next ≡ Some parts
  pub core : RestsWire parts.core.kind

-- and its core is a new one of the configuration, which stands for the empty history, its seat of the permits, and its pass this one
pub record IsNext (config : Config) (permits : Permits) (pass : RunnerPass) (next : Option Parts) : Type 0 where
  pub has : HasParts next
  pub new : IsNew config has.parts.core.kind
  pub stands : StandsAt has.parts.core.kind []
  pub seat : IsSeatOf permits has.parts.seat
  pub pass_is : has.parts.pass ≡ pass

-- these were there
pub record IsTaken (next : Option Parts) (parts : Parts) : Type 0 where
  pub is : next ≡ Some parts

module _ {W M C L : Type 0} (bare : M → W) (o : Outside M C L) where
  -- a worker of these parts stands behind the others, with what it works over
  pub record Joins (Writes : Option (List ℕ) → Option (List ℕ) → List ℕ → Type 0) (parts : Parts) (pass : RunnerPass) (given : W × (C × L)) (old new : List (Worker M C OpenGate L)) : Type 0 where
    pub worker : Worker M C OpenGate L
    pub adds : new ≡ old ++ worker ∷ []
    pub begins : Begins bare o Writes given worker
    pub core : worker.core ≡ parts.core
    pub seat : worker.seat ≡ parts.seat
    pub pass_is : worker.pass ≡ pass

  -- and the site told what it gave it
  pub record Fits (Writes : Option (List ℕ) → Option (List ℕ) → List ℕ → Type 0) (clusters : ℕ) (parts : Parts) (pass : RunnerPass) (told_old told_new : Option (WireTold W C L)) (old new : List (Worker M C OpenGate L)) : Type 0 where
    pub given : W × (C × L)
    pub joins : Joins Writes parts pass given old new
    pub clusters_are : (o.seen joins.worker.wires).clusters ≡ clusters
    pub tells : TellsFitted told_old ((suc (length old), given) ∷ []) told_new

  -- nothing was given
  pub record Stays (told_old told_new : Option (WireTold W C L)) (old new : List (Worker M C OpenGate L)) : Type 0 where
    pub same : new ≡ old
    pub told : told_new ≡ told_old

  -- the next worker may run
  pub record HiresOne (config : Config) (told_old told_new : Option (WireTold W C L)) (old new : Pool M C L) : Type 0 where
    pub given : W × (C × L)
    pub worker : Worker M C OpenGate L
    pub adds : new.workers.items ≡ old.workers.items ++ worker ∷ []
    pub hired : IsHired bare o config new.shared (length old.workers.items) given worker
    pub box : PostBox
    pub boxes : new.shared.posts.items ≡ old.shared.posts.items ++ box ∷ []
    pub tells : TellsFitted told_old ((suc (length old.workers.items), given) ∷ []) told_new

  -- the next one may not, and is to be given back if it was given something
  pub record IdlesOne (permits : Permits) (told_old told_new : Option (WireTold W C L)) (old new : List (Worker M C OpenGate L)) : Type 0 where
    pub given : W × (C × L)
    pub worker : Worker M C OpenGate L
    pub adds : new ≡ old ++ worker ∷ []
    pub idle : IsIdle bare o permits (length old) given worker
    pub tells : TellsFitted told_old ((suc (length old), given) ∷ []) told_new

  abbrev pub HiresNone : (permits : Permits) (told_old told_new : Option (WireTold W C L)) (old new : List (Worker M C OpenGate L)) → Type 0
  HiresNone permits told_old told_new old new = Stays told_old told_new old new ⊎ IdlesOne permits told_old told_new old new

  -- so many were fitted, and all may run
  pub record HiresAll (config : Config) (told_old told_new : Option (WireTold W C L)) (pool : Pool M C L) : Type 0 where
    pub given : List (W × (C × L))
    pub count : length given ≡ config.proxy.workers
    pub pool_is : IsPool bare o config pool given
    pub tells : TellsFitted told_old (numbered 1 given) told_new

  -- some were fitted, and are to be given back
  pub record HiresSome (config : Config) (permits : Permits) (told_old told_new : Option (WireTold W C L)) (workers : List (Worker M C OpenGate L)) : Type 0 where
    pub given : List (W × (C × L))
    pub most : length given ≤ config.proxy.workers
    pub idle : EachTwo (IsIdle bare o permits) given workers
    pub tells : TellsFitted told_old (numbered 1 given) told_new
