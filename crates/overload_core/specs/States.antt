-- The state of a trigger, in parts per million.
use Rattle.std.specs.Prelude.{ℕ, ◌-◌, ◌*◌, ◌/◌, ◌<◌, ◌≤◌, cond, nat_le}
use Rattle.proxy_config.specs.declared.overload.Form.{Form}
use Rattle.proxy_config.specs.declared.overload.Form.TheVariants.{Threshold, Scaled}

-- all from the value on
abbrev pub threshold_state : ℕ → ℕ → ℕ
threshold_state value p = cond (nat_le value p) 1000000 0

-- nothing up to the scaling, all from the saturation on, and in proportion between
abbrev pub scaled_state : ℕ → ℕ → ℕ → ℕ
scaled_state scaling saturation p = cond (nat_le p scaling) 0 (cond (nat_le saturation p) 1000000 ((p - scaling) * 1000000 / (saturation - scaling)))

-- the state of a trigger of this form at the pressure p
abbrev pub state_of : Form → ℕ → ℕ
state_of (Threshold value) p = threshold_state value p
state_of (Scaled scaling saturation) p = scaled_state scaling saturation p

-- a scaled state is not 0 above the scaling
abbrev pub RisesAtOnce : Form → ℕ → ℕ → Type 0
RisesAtOnce (Threshold value) p state = Unit {0}
RisesAtOnce (Scaled scaling saturation) p state = scaling < p → saturation ≤ 1000000 → 0 < state
