-- What workers over memory tell, and what they are made of.
use Rattle.mem_ports.specs.Memory.{WiresMemory, seen_of}
use Rattle.mem_ports.specs.Moments.{ClockMemory, moments_given}
use Rattle.post_queue.specs.Clauses.{IsRunnerOf}
use Rattle.post_queue.specs.declared.passes.RunnerPass.{RunnerPass}
use Rattle.post_queue.specs.declared.post_box.PostBox.{PostBox}
use Rattle.shared_state.specs.PermitSeats.{IsSeatOf}
use Rattle.shared_state.specs.declared.permits.PermitSeat.{PermitSeat}
use Rattle.shared_state.specs.declared.permits.Permits.{Permits}
use Rattle.std.specs.Prelude.{List, Some, [], length, ℕ, ◌≡◌, ◌≤◌}
use Rattle.worker_core.specs.Sessions.{RestsWire}
use Rattle.worker_core.specs.declared.worker.Kind.{Kind}
use Rattle.worker_parts.specs.Memory.{sink_of, told_by}
use Rattle.worker_parts.specs.declared.mem_journal.MemJournal.{MemJournal}
use Rattle.worker_threads.specs.Starting.{Outside}

abbrev pub in_memory : Outside WiresMemory ClockMemory MemJournal
in_memory = record {
  seen = seen_of;
  moments = moments_given;
  text = λ j. Some (sink_of j).octets;
  told = told_by;
  wires_faults = λ w. w.faults;
  journal_faults = λ j. (sink_of j).faults;
}

-- a worker that is made of them may run
pub record AreParts (names : List (List ℕ)) (kind : Kind) (box : PostBox) (pass : RunnerPass) (wires : WiresMemory) : Type 0 where
  pub rests : RestsWire kind
  pub runs : IsRunnerOf box pass
  pub names_are : (seen_of wires).clusters ≡ length names

-- both seats are of the permits, and there is room for two boxes
pub record ArePlaces (permits : Permits) (one two : PermitSeat) (boxes : List PostBox) (room : ℕ) : Type 0 where
  pub first_seat : IsSeatOf permits one
  pub second_seat : IsSeatOf permits two
  pub no_box : boxes ≡ []
  pub box_room : 2 ≤ room
