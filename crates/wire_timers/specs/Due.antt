-- Which timers are due.
use Rattle.std.specs.Prelude.{ℕ, ◌+◌, Bool, nat_le, not, List, map, filter}
use Rattle.scaled_timer.specs.declared.timers.TimerKind.{TimerKind}
use Rattle.scaled_timer.specs.Due.{delay_at}
use Rattle.scaled_timer.specs.Order.{in_order}
use Rattle.wire_timers.specs.declared.due.Due.{Due}
use Rattle.wire_timers.specs.Kinds.{number_of}
use Rattle.wire_timers.specs.Armed.{Armed, Timeouts}

-- the moment from which a timer is due under a state
abbrev pub due_moment : List TimerKind → ℕ → Armed → ℕ
due_moment kinds state a = a.at + delay_at kinds state (number_of a.kind)

abbrev pub is_due : Timeouts → ℕ → Armed → Bool
is_due t now a = nat_le (due_moment t.kinds t.state a) now

abbrev pub due_of : Armed → Due
due_of a = record { kind = a.kind; id = a.id }

-- the timers that are due, by due moment, then by arming
abbrev pub due_list : ℕ → Timeouts → List Due
due_list now t = map due_of (in_order (due_moment t.kinds t.state) (filter (is_due t now) t.armed))

-- they are taken out
abbrev pub due_taken : ℕ → Timeouts → Timeouts
due_taken now t = record t { latest = now; armed = filter (λ a. not (is_due t now a)) t.armed }
