-- What the workers did, before they are given back.
use Rattle.proxy_config.specs.declared.config.Config.{Config}
use Rattle.proxy_site.specs.Relaying.{IsCutShort, listening_line}
use Rattle.proxy_wire.specs.Pools.{EachTwo, IsHired, SharesOf}
use Rattle.proxy_wire.specs.Hires.{HiresSome}
use Rattle.proxy_wire.specs.Serving.{wire_status}
use Rattle.proxy_site.specs.WireSites.{TellsFitted, WireTold, numbered}
use Rattle.proxy_wire.specs.Working.{EndsSo}
use Rattle.proxy_wire.specs.declared.end.WireEnd.{WireEnd}
use Rattle.session_run.specs.Ends.{AppendsFront}
use Rattle.std.specs.Io.KnownBytes.{Appends}
use Rattle.std.specs.Prelude.{List, Option, length, ℕ, ◌≡◌, ◌⊎◌}
use Rattle.worker_loop.specs.declared.turns.Ended.{Ended}
use Rattle.worker_ports.specs.declared.ports.OpenGate.{OpenGate}
use Rattle.worker_threads.specs.Starting.{Outside, WorkedEach}
use Rattle.worker_threads.specs.declared.worker.Shared.{Shared}
use Rattle.worker_threads.specs.declared.worker.Worker.{Worker}

module _ {M C L : Type 0} (o : Outside M C L) where
  -- no worker ran; of the line that tells where the proxy listens a front was written
  pub record WorksNone (address : List ℕ) (old new : List (Worker M C OpenGate L)) (out_old out_new : Option (List ℕ)) (end : WireEnd) : Type 0 where
    pub same : new ≡ old
    pub line : AppendsFront out_old out_new (listening_line address)
    pub cut : IsCutShort (wire_status end)

  -- each did one work, and the line was written
  pub record WorksEach (shared : Shared) (n : ℕ) (address : List ℕ) (old new : List (Worker M C OpenGate L)) (out_old out_new : Option (List ℕ)) (end : WireEnd) : Type 0 where
    pub ends : List Ended
    pub status : EndsSo (wire_status end) ends
    pub line : Appends out_old out_new (listening_line address)
    pub worked : WorkedEach o shared n old ends new

  abbrev pub WorksAll : (shared : Shared) (n : ℕ) (address : List ℕ) (old new : List (Worker M C OpenGate L)) (out_old out_new : Option (List ℕ)) (end : WireEnd) → Type 0
  WorksAll shared n address old new out_old out_new end =
      WorksNone address old new out_old out_new end ⊎ WorksEach shared n address old new out_old out_new end

module _ {W M C L : Type 0} (bare : M → W) (o : Outside M C L) where
  -- some were fitted, and none ran
  pub record PoolIdle (config : Config) (address : List ℕ) (shared : Shared) (told_old told_new : Option (WireTold W C L)) (workers : List (Worker M C OpenGate L)) (out_old out_new : Option (List ℕ)) (end : WireEnd) : Type 0 where
    pub some : HiresSome bare o config shared.permits told_old told_new workers
    pub line : AppendsFront out_old out_new (listening_line address)
    pub cut : IsCutShort (wire_status end)

  -- all were fitted, and ran
  pub record PoolRan (config : Config) (n : ℕ) (address : List ℕ) (shared : Shared) (told_old told_new : Option (WireTold W C L)) (workers : List (Worker M C OpenGate L)) (out_old out_new : Option (List ℕ)) (end : WireEnd) : Type 0 where
    pub given : List (W × (C × L))
    pub first : List (Worker M C OpenGate L)
    pub count : length given ≡ config.proxy.workers
    pub shares : SharesOf config shared
    pub hired : EachTwo (IsHired bare o config shared) given first
    pub tells : TellsFitted told_old (numbered 1 given) told_new
    pub works : WorksEach o shared n address first workers out_old out_new end

  abbrev pub PoolWorks : (config : Config) (n : ℕ) (address : List ℕ) (shared : Shared) (told_old told_new : Option (WireTold W C L)) (workers : List (Worker M C OpenGate L)) (out_old out_new : Option (List ℕ)) (end : WireEnd) → Type 0
  PoolWorks config n address shared told_old told_new workers out_old out_new end =
      PoolIdle config address shared told_old told_new workers out_old out_new end ⊎ PoolRan config n address shared told_old told_new workers out_old out_new end
