-- What the calls of the loop keep of permits, connections and counts of faults.
use Rattle.io_ports.specs.Faults.{Rose}
use Rattle.number_set.specs.NumberSet.{has}
use Rattle.shared_state.specs.PermitSeats.{IsSeatOf, view}
use Rattle.shared_state.specs.declared.permit_rule.PermitView.{PermitView}
use Rattle.shared_state.specs.declared.permits.PermitSeat.{PermitSeat}
use Rattle.shared_state.specs.declared.permits.Permits.{Permits}
use Rattle.std.specs.Prelude.{Err, List, Result, length, true, ℕ, ◌+◌, ◌≡◌, ◌≤◌}
use Rattle.worker_loop.specs.declared.turns.Ended.{Ended as End}
use Rattle.worker_loop.specs.declared.turns.Ended.TheVariants as ended
use Rattle.worker_ports.specs.Wires.{Seen}

-- the seat is of these permits, and was given those that are kept
pub record Holds (permits : Permits) (seat : PermitSeat) (held : List ℕ) : Type 0 where
  pub is_seat : IsSeatOf permits seat
  pub given : length held ≤ (view seat).held

-- no connection that has a permit has a number above n
abbrev pub AreUpTo : ℕ → List ℕ → Type 0
AreUpTo n held = (c : ℕ) → has held c ≡ true → c ≤ n

-- what the seat was given and isn't kept was left
pub record Permitted (old_held : List ℕ) (old : PermitView) (new_held : List ℕ) (new : PermitView) : Type 0 where
  pub kept : new.held + length old_held ≡ old.held + length new_held
  pub refused : old.refusals ≤ new.refusals

pub record Keeps (permits : Permits) (seen : Seen) (held : List ℕ) (seat : PermitView) (seen' : Seen) (held' : List ℕ) (seat' : PermitSeat) : Type 0 where
  pub holds : Holds permits seat' held'
  pub permitted : Permitted held seat held' (view seat')
  pub clusters : seen'.clusters ≡ seen.clusters
  pub below : AreUpTo seen.greatest held → AreUpTo seen'.greatest held'

-- the counts of faults of the connections and the journal: they don't fall, and a fault made its own rise
pub record Rises {T : Type 0} (result : Result T End) (wires wires' journal journal' : ℕ) : Type 0 where
  pub at_wires : wires ≤ wires'
  pub at_journal : journal ≤ journal'
  pub wires_fault : result ≡ Err ended.WiresFault → Rose wires wires'
  pub journal_fault : result ≡ Err ended.JournalFault → Rose journal journal'
