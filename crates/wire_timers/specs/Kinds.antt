-- The kinds of timers of a worker, and how long each runs.
use Rattle.std.specs.Prelude.{◌≡◌, ℕ, zero, suc, List, [], ◌∷◌, map}
use Rattle.flow_rules.specs.declared.causes.FireKind.{FireKind}
use Rattle.flow_rules.specs.declared.causes.FireKind.TheVariants.{Route, StreamIdle, ConnectionIdle}
use Rattle.proxy_config.specs.declared.config.TimeoutKeys.{TimeoutKeys}
use Rattle.scaled_timer.specs.declared.timers.TimerKind.{TimerKind}

-- the kinds by number
abbrev pub number_of : FireKind → ℕ
number_of Route = 0
number_of StreamIdle = 1
number_of ConnectionIdle = 2

abbrev pub kind_of : ℕ → FireKind
kind_of zero = Route
kind_of (suc zero) = StreamIdle
kind_of (suc (suc k)) = ConnectionIdle

-- the least and the greatest length of each kind by number, in milliseconds: a timer runs for the greatest where nothing is
-- loaded, and for the least where the load is full
abbrev pub spans_of : TimeoutKeys → List (ℕ × ℕ)
spans_of t = (t.route, t.route) ∷ (t.stream_idle_min, t.stream_idle) ∷ (t.connection_idle_min, t.connection_idle) ∷ []

abbrev pub HasSpans : TimeoutKeys → List TimerKind → Type 0
HasSpans t kinds = map {B = ℕ × ℕ} (λ k. (k.min, k.max)) kinds ≡ spans_of t

-- the greatest length of the kind with this number; 0 is no timeout
unfoldable pub longest_at : List TimerKind → ℕ → ℕ
longest_at [] k = 0
longest_at (t ∷ ts) zero = t.max
longest_at (t ∷ ts) (suc k) = longest_at ts k
