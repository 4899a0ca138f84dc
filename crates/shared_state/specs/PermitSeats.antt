-- The words of the clauses on permits: whose seat it is, and what it tells.
use Rattle.std.specs.Prelude.{◌≡◌, ℕ, ◌+◌, List}
use Rattle.shared_state.specs.declared.permit_rule.PermitView.{PermitView}
use Rattle.shared_state.specs.declared.permits.Permits.{Permits}
use Rattle.shared_state.specs.declared.permits.PermitSeat.{PermitSeat}
use Rattle.shared_state.specs.declared.permits.PermitSeats.{PermitSeats}
use Rattle.shared_state.specs.PermitRule.{newcomer}

-- what the seat knows
abbrev pub view : PermitSeat → PermitView
view s = s.seat.me.0

-- it is a seat of these permits, and owes nothing
abbrev pub IsSeatOf : Permits → PermitSeat → Type 0
IsSeatOf p s = (s.seat.table_id ≡ p.table.shared.table_id) × ((view s).max ≡ p.max) × ((view s).owing ≡ 0)

-- it was given nothing yet
abbrev pub IsNewSeat : Permits → PermitSeat → Type 0
IsNewSeat p s = (s.seat.table_id ≡ p.table.shared.table_id) × (view s ≡ newcomer p.max 0)

-- the seats that lie in a list
abbrev pub seats_in : PermitSeats → List PermitSeat
seats_in l = l.seats.items

-- refused, and the 1 taken back
abbrev pub refused_and_paid : PermitView → ℕ → PermitView
refused_and_paid v found = record v { find = found; refusals = v.refusals + 1; owing = 0 }
