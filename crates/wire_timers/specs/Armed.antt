-- The armed timers of a worker.
use Rattle.std.specs.Prelude.{ℕ, Bool, ◌==◌, ◌&&◌, not, cond, List, [], ◌∷◌, ◌++◌, filter}
use Rattle.std.specs.List.{list_any}
use Rattle.flow_rules.specs.declared.causes.FireKind.{FireKind}
use Rattle.flow_rules.specs.declared.causes.FireKind.TheVariants.{Route, StreamIdle}
use Rattle.scaled_timer.specs.declared.timers.TimerKind.{TimerKind}
use Rattle.wire_timers.specs.Kinds.{number_of, longest_at}

-- an armed timer: its kind, the exchange or the connection that it is for, and the moment when it was armed
pub record Armed : Type 0 where
  pub kind : FireKind
  pub id : ℕ
  pub at : ℕ

-- the three kinds by number, the state under which timers run in parts per million, the latest moment that was told, and the
-- armed timers in the order of arming
pub record Timeouts : Type 0 where
  pub kinds : List TimerKind
  pub state : ℕ
  pub latest : ℕ
  pub armed : List Armed

abbrev pub none_armed : List TimerKind → Timeouts
none_armed kinds = record { kinds = kinds; state = 0; latest = 0; armed = [] }

-- the timer is of this kind, and for this exchange or connection
abbrev pub is_of : FireKind → ℕ → Armed → Bool
is_of kind id a = (number_of kind == number_of a.kind) && (id == a.id)

abbrev pub is_armed : FireKind → ℕ → Timeouts → Bool
is_armed kind id t = list_any (is_of kind id) t.armed

abbrev pub without : FireKind → ℕ → List Armed → List Armed
without kind id armed = filter (λ a. not (is_of kind id a)) armed

abbrev pub disarmed : FireKind → ℕ → Timeouts → Timeouts
disarmed kind id t = record t { armed = without kind id t.armed }

-- The timer is the last in the order of arming, also where it was armed before. A kind of length 0 isn't armed.
abbrev pub armed_anew : FireKind → ℕ → ℕ → Timeouts → Timeouts
armed_anew kind id now t =
    cond (longest_at t.kinds (number_of kind) == 0) t (record t { latest = now; armed = without kind id t.armed ++ record { kind = kind; id = id; at = now } ∷ [] })

-- the exchange is gone, and both of its timers with it
abbrev pub gone : ℕ → Timeouts → Timeouts
gone exchange t = disarmed StreamIdle exchange (disarmed Route exchange t)
