-- The states of the overload actions.
use Rattle.std.specs.Prelude.{ℕ, Bool, ◌≤◌, ◌==◌, List, [], ◌∷◌, map, filter, max, slice_index}
use Rattle.proxy_config.specs.declared.overload.Trigger.{Trigger}
use Rattle.overload_core.specs.declared.actions.Actions.{Actions}
use Rattle.overload_core.specs.States.{state_of}

-- the greatest of the numbers, 0 of none
unfoldable pub greatest_of : List ℕ → ℕ
greatest_of [] = 0
greatest_of (x ∷ xs) = max x (greatest_of xs)

-- the greatest state of the triggers of the action with this number
abbrev pub action_state : List Trigger → List ℕ → ℕ → ℕ
action_state triggers pressures action = greatest_of (map (λ (t : Trigger). state_of t.form (slice_index pressures t.resource)) (filter (λ (t : Trigger). t.action == action) triggers))

abbrev pub actions_at : List Trigger → List ℕ → Actions
actions_at triggers pressures = record {
  stop_requests = action_state triggers pressures 0;
  stop_accepting = action_state triggers pressures 1;
  reject_incoming = action_state triggers pressures 2;
  no_keepalive = action_state triggers pressures 3;
  reduce_timeouts = action_state triggers pressures 4;
  reset_streams = action_state triggers pressures 5;
}

-- every action is off
abbrev pub all_off : Actions
all_off = record { stop_requests = 0; stop_accepting = 0; reject_incoming = 0; no_keepalive = 0; reduce_timeouts = 0; reset_streams = 0 }

-- an action with this state is saturated
abbrev pub is_saturated : ℕ → Bool
is_saturated state = state == 1000000

-- each is a state, in parts per million
pub record AreStates (a : Actions) : Type 0 where
  pub stop_requests : a.stop_requests ≤ 1000000
  pub stop_accepting : a.stop_accepting ≤ 1000000
  pub reject_incoming : a.reject_incoming ≤ 1000000
  pub no_keepalive : a.no_keepalive ≤ 1000000
  pub reduce_timeouts : a.reduce_timeouts ≤ 1000000
  pub reset_streams : a.reset_streams ≤ 1000000
