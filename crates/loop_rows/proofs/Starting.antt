-- A worker may run, and run again.
use Rattle.loop_rows.specs.Workers.{IsReady, MayRun}
use Rattle.loop_rows.specs.declared.stage.Desk.{Desk}
use Rattle.post_queue.specs.Clauses.{IsRunnerOf}
use Rattle.shared_state.specs.PermitSeats.{view}
use Rattle.shared_state.specs.declared.permit_rule.PermitView.{PermitView}
use Rattle.std.proofs.Common.{ap, arith, subst, sym, ◌∙◌}
use Rattle.std.proofs.lemmas.Bool.{false≢true}
use Rattle.std.specs.Prelude.{List, [], length, ℕ, ◌≡◌, ◌≤◌}
use Rattle.worker_core.specs.Sessions.{RestsWire}
use Rattle.worker_core.specs.declared.worker.Core.{Core}
use Rattle.worker_loop.specs.Keeping.{AreUpTo, Keeps}
use Rattle.worker_ports.specs.Wires.{Seen}

none_up : (n : ℕ) (held : List ℕ) → held ≡ [] → AreUpTo n held
none_up n held e = subst (λ (h : List ℕ). AreUpTo n h) (sym e) (λ c there. absurd (false≢true there))

none_given : (held : List ℕ) (n : ℕ) → held ≡ [] → length held ≤ n
none_given held n e = let is : length held ≡ 0 = ap length e in omega (arith, is)

-- no permit is kept yet
pub may_start : (core : Core) (names : List (List ℕ)) (desk : Desk) (held : List ℕ) (seen : Seen) → RestsWire core.kind → IsReady desk → held ≡ [] → seen.clusters ≡ length names → MayRun core names desk held seen
may_start core names desk held seen rests ready none same = record {
  rests = rests;
  runner = ready.runner;
  holds = record { is_seat = ready.seated; given = none_given held (view desk.seat).held none };
  clusters_are = same;
  below = none_up seen.greatest held none;
}

-- after a work, over what it kept
pub may_again : (core new : Core) (names : List (List ℕ)) (desk desk' : Desk) (held held' : List ℕ) (seen seen' : Seen) (seat : PermitView) → MayRun core names desk held seen
    → RestsWire new.kind → IsRunnerOf desk'.posts desk'.pass → Keeps desk'.permits seen held seat seen' held' desk'.seat → MayRun new names desk' held' seen'
may_again core new names desk desk' held held' seen seen' seat may rests runs keeps = record {
  rests = rests;
  runner = runs;
  holds = keeps.holds;
  clusters_are = keeps.clusters ∙ may.clusters_are;
  below = keeps.below may.below;
}
