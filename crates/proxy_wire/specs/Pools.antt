-- Workers that were fitted.
use Rattle.proxy_config.specs.declared.config.Config.{Config}
use Rattle.proxy_wire.specs.Working.{Begins}
use Rattle.proxy_wire.specs.declared.pool.Pool.{Pool}
use Rattle.proxy_wire.specs.declared.pool.Staff.{Staff}
use Rattle.proxy_wire.specs.declared.giving_back.Back.{Back}
use Rattle.session_config.specs.ClusterNames.{names_in}
use Rattle.session_run.specs.Ends.{AppendsFront}
use Rattle.shared_state.specs.PermitSeats.{IsSeatOf, seats_in}
use Rattle.shared_state.specs.declared.permits.Permits.{Permits}
use Rattle.std.specs.Io.KnownBytes.{Appends}
use Rattle.std.specs.Prelude.{All, List, [], length, slice_index_or, vec_len, ℕ, ◌<◌, ◌≡◌, ◌⊎◌}
use Rattle.worker_core.specs.Sessions.{IsNew, StandsAt}
use Rattle.worker_ports.specs.declared.ports.OpenGate.{OpenGate}
use Rattle.worker_threads.specs.Starting.{IsRunnerAt, Outside}
use Rattle.worker_threads.specs.declared.worker.Shared.{Shared}
use Rattle.worker_threads.specs.declared.worker.Worker.{Worker}

-- it holds of each two at the same place
pub record EachTwo {A B : Type 0} (P : ℕ → A → B → Type 0) (xs : List A) (ys : List B) : Type 0 where
  pub same : length ys ≡ length xs
  pub each : (i : ℕ) (a : A) (b : B) → i < length xs → P i (slice_index_or xs i a) (slice_index_or ys i b)

-- the permits and the names are the configuration's
pub record SharesOf (config : Config) (shared : Shared) : Type 0 where
  pub permits : shared.permits.max ≡ config.proxy.max_connections
  pub names : shared.names ≡ names_in config

-- there is no box yet, and the seats are of the permits
pub record IsStaff {M : Type 0} (config : Config) (staff : Staff M) : Type 0 where
  pub shares : SharesOf config staff.shared
  pub none : vec_len staff.shared.posts ≡ 0
  pub seats : All (IsSeatOf staff.shared.permits) (seats_in staff.supply.seats)

module _ {W M C L : Type 0} (bare : M → W) (o : Outside M C L) where
  -- the worker at this place may run
  pub record IsHired (config : Config) (shared : Shared) (place : ℕ) (given : W × (C × L)) (w : Worker M C OpenGate L) : Type 0 where
    pub begins : Begins bare o Appends given w
    pub seat : IsSeatOf shared.permits w.seat
    pub pass : IsRunnerAt shared place w.pass
    pub clusters : (o.seen w.wires).clusters ≡ length shared.names
    pub new : IsNew config w.core.kind
    pub stands : StandsAt w.core.kind []

  -- the worker is to be given back
  pub record IsIdle (permits : Permits) (place : ℕ) (given : W × (C × L)) (w : Worker M C OpenGate L) : Type 0 where
    pub begins : Begins bare o AppendsFront given w
    pub seat : IsSeatOf permits w.seat

  -- all that were fitted may run, and there is a box for each
  pub record IsPool (config : Config) (pool : Pool M C L) (given : List (W × (C × L))) : Type 0 where
    pub shares : SharesOf config pool.shared
    pub boxes : length pool.shared.posts.items ≡ length given
    pub workers : EachTwo (IsHired config pool.shared) given pool.workers.items

module _ {M C L : Type 0} (o : Outside M C L) where
  -- the connections or the journal of one of them have failed
  pub record OneFailed (workers : List (Worker M C OpenGate L)) : Type 0 where
    pub place : ℕ
    pub least : place < length workers
    pub failed : (w : Worker M C OpenGate L) → (0 < o.wires_faults (slice_index_or workers place w).wires) ⊎ (0 < o.journal_faults (slice_index_or workers place w).journal)

-- what goes back of a worker
abbrev pub back_of : {W M C L : Type 0} → (M → W) → Worker M C OpenGate L → W × L
back_of bare w = (bare w.wires, w.journal)

-- the permits that a worker keeps none of can be given back
pub record IsPaid {M C L : Type 0} (permits : Permits) (w : Worker M C OpenGate L) : Type 0 where
  pub seat : IsSeatOf permits w.seat
  pub none : w.held ≡ []

-- these go back of the worker
pub record IsBackOf {M C L : Type 0} (w : Worker M C OpenGate L) (back : Back M L) : Type 0 where
  pub held : back.held ≡ w.held
  pub seat : back.seat ≡ w.seat
  pub wires : back.wires ≡ w.wires
  pub journal : back.journal ≡ w.journal
