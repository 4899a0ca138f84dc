-- What a turn keeps track of while it fires the due timers.
use Rattle.std.specs.Prelude.{◌≡◌, ℕ, ◌-◌, ◌<◌, nat_eq, Some, List, length, count_by}
use Rattle.std.specs.List.{AllByRecursion}
use Rattle.std.specs.Option.{option_to_list}
use Rattle.link_lists.specs.Lists.{NodeId, NodeLists}
use Rattle.scaled_timer.specs.declared.timers.TimerKind.{TimerKind}
use Rattle.scaled_timer.specs.declared.timers.Entry.{Entry}
use Rattle.scaled_timer.specs.declared.fronts.Front.{Front}
use Rattle.scaled_timer.specs.Timing.{Timing}
use Rattle.scaled_timer.specs.Entries.{armed_of, Kept}
use Rattle.scaled_timer.specs.Fronts.{due_front}

-- what is seen of the lists by themselves
abbrev pub timing_of : List TimerKind → ℕ → NodeLists Entry → Timing
timing_of kinds ppm s = record { kinds = kinds; state = ppm; latest = 0; armed = armed_of s.lists; fired = s.retired }

-- the fronts are those of the first n lists that are due, each once
pub record HasFronts (kinds : List TimerKind) (ppm now : ℕ) (ls : List (List (NodeId × Entry))) (n : ℕ) (fs : List Front) : Type 0 where
  pub each : AllByRecursion (λ (f : Front). (f.kind < n) × (due_front kinds ppm now ls f.kind ≡ Some f)) fs
  pub once : (k : ℕ) → k < n → count_by (λ (f : Front). nat_eq k f.kind) fs ≡ length (option_to_list (due_front kinds ppm now ls k))

-- the lists are those of some timers
pub record AreKept (kinds ppm : ℕ) (ls : List (List (NodeId × Entry))) : Type 0 where
  pub latest : ℕ
  pub drawn : ℕ
  pub held : ℕ
  pub kept : Kept kinds ppm latest drawn held ls

-- the new lists have n timers fewer than the old ones
pub record FewerKept (n kinds ppm : ℕ) (old new : List (List (NodeId × Entry))) : Type 0 where
  pub kept : (latest drawn held : ℕ) → Kept kinds ppm latest drawn held old → Kept kinds ppm latest drawn (held - n) new
