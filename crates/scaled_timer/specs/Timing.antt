-- What is seen of the timers.
use Rattle.std.specs.Prelude.{◌≡◌, ℕ, ◌+◌, Bool, true, false, cond, ◌||◌, IsTrue, List, [], ◌∷◌, ◌++◌, map, length}
use Rattle.std.specs.List.{AllByRecursion, IsDistinct}
use Rattle.link_lists.specs.Places.{same_ptr}
use Rattle.link_lists.specs.Lists.{NodeId, contains_id}
use Rattle.scaled_timer.specs.declared.timers.TimerKind.{TimerKind}
use Rattle.scaled_timer.specs.declared.fired.Fired.{Fired}
use Rattle.scaled_timer.specs.Due.{Armed, due_timers, waiting_timers}

-- the kinds, the state in parts per million, the latest moment that was told, the armed timers in the order of arming,
-- and the names of the timers that have fired and aren't given back yet
pub record Timing : Type 0 where
  pub kinds : List TimerKind
  pub state : ℕ
  pub latest : ℕ
  pub armed : List Armed
  pub fired : List NodeId

-- a timer of this name is armed
unfoldable pub has_timer : NodeId → List Armed → Bool
has_timer p [] = false
has_timer p (a ∷ rest) = cond (same_ptr p a.timer) true (has_timer p rest)

-- the timers without the one of this name
unfoldable pub without_timer : NodeId → List Armed → List Armed
without_timer p [] = []
without_timer p (a ∷ rest) = cond (same_ptr p a.timer) rest (a ∷ without_timer p rest)

-- the timer is armed, or has fired and isn't given back yet
abbrev pub IsHeld : NodeId → Timing → Type 0
IsHeld p t = IsTrue (has_timer p t.armed || contains_id p t.fired)

-- timers of these names, no two the same, are held
pub record AreHeld (ps : List NodeId) (t : Timing) : Type 0 where
  pub each : AllByRecursion (λ p. IsHeld p t) ps
  pub apart : IsDistinct same_ptr ps

-- what a turn tells of a timer
abbrev pub firing : Armed → Fired
firing a = record { kind = a.kind; id = a.id }

abbrev pub names_of : List Armed → List NodeId
names_of = map (λ a. a.timer)

-- the first of the due timers has fired, and is as told
pub record FiresFirst (told : Fired) (now : ℕ) (old new : Timing) : Type 0 where
  pub first : Armed
  pub rest : List Armed
  pub due_before : due_timers old.kinds old.state now old.armed ≡ first ∷ rest
  pub told_is : told ≡ firing first
  pub due_behind : due_timers new.kinds new.state now new.armed ≡ rest
  pub waiting : waiting_timers new.kinds new.state now new.armed ≡ waiting_timers old.kinds old.state now old.armed
  pub fewer : length new.armed + 1 ≡ length old.armed
  pub fired : new.fired ≡ old.fired ++ first.timer ∷ []
  pub kinds : new.kinds ≡ old.kinds
  pub state : new.state ≡ old.state
  pub latest : new.latest ≡ old.latest
