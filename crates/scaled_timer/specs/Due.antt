-- When a timer is due, and in which order due timers fire.
use Rattle.std.specs.Prelude.{ℕ, zero, suc, ◌+◌, ◌-◌, ◌*◌, ◌/◌, Bool, nat_le, not, List, [], ◌∷◌, filter}
use Rattle.link_lists.specs.Lists.{NodeId}
use Rattle.scaled_timer.specs.declared.timers.TimerKind.{TimerKind}
use Rattle.scaled_timer.specs.Order.{in_order}

-- an armed timer: its name, its kind, the number that it was armed with, and the moment when it was armed
pub record Armed : Type 0 where
  pub timer : NodeId
  pub kind : ℕ
  pub id : ℕ
  pub at : ℕ

-- how long a timer of the kind runs under a state, in parts per million
abbrev pub delay_of : TimerKind → ℕ → ℕ
delay_of k ppm = k.min + (k.max - k.min) * (1000000 - ppm) / 1000000

-- the delay of the kind with this number
unfoldable pub delay_at : List TimerKind → ℕ → ℕ → ℕ
delay_at [] ppm k = 0
delay_at (t ∷ ts) ppm zero = delay_of t ppm
delay_at (t ∷ ts) ppm (suc k) = delay_at ts ppm k

module _ (kinds : List TimerKind) (ppm : ℕ) where
  -- the moment from which the timer is due
  abbrev pub due_moment : Armed → ℕ
  due_moment a = a.at + delay_at kinds ppm a.kind

  abbrev pub is_due : ℕ → Armed → Bool
  is_due now a = nat_le (due_moment a) now

  -- the timers that are due, by due moment, then by arming
  abbrev pub due_timers : ℕ → List Armed → List Armed
  due_timers now armed = in_order due_moment (filter (is_due now) armed)

  -- the timers that are not due, as they were armed
  abbrev pub waiting_timers : ℕ → List Armed → List Armed
  waiting_timers now = filter (λ a. not (is_due now a))
