-- What a case begins with.
use Rattle.loop_rows.specs.declared.stage.Desk.{Desk}
use Rattle.post_queue.specs.Clauses.{IsRunnerOf}
use Rattle.shared_state.specs.PermitSeats.{IsSeatOf}
use Rattle.std.specs.Prelude.{List, [], length, ℕ, ◌≡◌}
use Rattle.worker_core.specs.Sessions.{RestsWire}
use Rattle.worker_core.specs.declared.worker.Core.{Core}
use Rattle.worker_loop.specs.Keeping.{AreUpTo, Holds}
use Rattle.worker_ports.specs.Wires.{Seen}

-- the worker that shares it may run
pub record IsReady (desk : Desk) : Type 0 where
  pub runner : IsRunnerOf desk.posts desk.pass
  pub seated : IsSeatOf desk.permits desk.seat

-- with this core, these permits and these connections
pub record MayRun (core : Core) (names : List (List ℕ)) (desk : Desk) (held : List ℕ) (seen : Seen) : Type 0 where
  pub rests : RestsWire core.kind
  pub runner : IsRunnerOf desk.posts desk.pass
  pub holds : Holds desk.permits desk.seat held
  pub clusters_are : seen.clusters ≡ length names
  pub below : AreUpTo seen.greatest held

-- no connection has come yet, and there is a cluster for each name
pub record IsFresh (names : List (List ℕ)) (seen : Seen) : Type 0 where
  pub clusters_are : seen.clusters ≡ length names
  pub none_live : seen.live ≡ []
  pub none_held : seen.held ≡ []
