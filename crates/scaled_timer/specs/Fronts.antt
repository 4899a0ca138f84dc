-- The fronts of the lists.
use Rattle.std.specs.Prelude.{◌≡◌, ◌⊎◌, ℕ, ◌+◌, ◌<◌, ◌≤◌, cond, nat_le, Option, None, Some, List}
use Rattle.link_lists.specs.Lists.{NodeId, front_of}
use Rattle.scaled_timer.specs.declared.timers.TimerKind.{TimerKind}
use Rattle.scaled_timer.specs.declared.timers.Entry.{Entry}
use Rattle.scaled_timer.specs.declared.fronts.Front.{Front}
use Rattle.scaled_timer.specs.Due.{delay_at}

-- the first of a list, if it is due
abbrev pub due_first : ℕ → ℕ → ℕ → Option (NodeId × Entry) → Option Front
due_first now k delay None = None
due_first now k delay (Some n) = cond (nat_le (n.1.at + delay) now) (Some (record { kind = k; due = n.1.at + delay; age = n.1.age })) None

abbrev pub due_front : List TimerKind → ℕ → ℕ → List (List (NodeId × Entry)) → ℕ → Option Front
due_front kinds ppm now ls k = due_first now k (delay_at kinds ppm k) (front_of k ls)

-- the one fires before the other, or is it
abbrev pub NoLater : Option Front → Option Front → Type 0
NoLater r None = Unit {0}
NoLater None (Some f) = ⊥
NoLater (Some r) (Some f) = (r.due < f.due) ⊎ ((r.due ≡ f.due) × (r.age ≤ f.age))
