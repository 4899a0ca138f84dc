use Rattle.std.proofs.Common.{◌≡◌, ◌-◌, ◌≤◌, All, vec_len, vec_capacity}
use Rattle.shared_state.specs.PermitRule.{newcomer, most}
use Rattle.shared_state.specs.PermitSeats.{IsNewSeat}
use Rattle.shared_state.proofs.entering.seat_all.Given as goal

abbrev pub invariant-loop : goal.invariant-loop
invariant-loop l = (l.first.table_id ≡ l.permits.table.shared.table_id) × (l.first.me.0 ≡ newcomer l.permits.max (most - l.counter)) × (l.counter ≤ l.seats) × (vec_len l.list ≡ l.counter) × (l.seats ≤ vec_capacity l.list) × All (IsNewSeat l.permits) l.list.items
