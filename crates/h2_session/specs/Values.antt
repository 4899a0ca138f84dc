-- What settings come to that are carried out in the order in which they appear (RFC 9113 section 6.5.3).
use Rattle.h2_frames.specs.Frame.{Frame, Settings}
use Rattle.h2_frames.specs.declared.codes.TheConstants.{FLOW_CONTROL_ERROR, PROTOCOL_ERROR}
use Rattle.h2_session.specs.Errors.{code_when, first_of, names_outside, settings_of}
use Rattle.h2_session.specs.declared.act.Setting.{Setting}
use Rattle.h2_session.specs.declared.named.Named.{Named}
use Rattle.h2_session.specs.declared.named.Outside.{Outside}
use Rattle.h2_session.specs.declared.named.Values.{Values}
use Rattle.std.specs.Option.{option_or}
use Rattle.std.specs.Prelude.{Bool, List, None, Option, Some, [], false, if◌then◌else◌, is_some, max, nat_lt, option_map, ℕ, ◌-◌, ◌<◌, ◌==◌, ◌^◌, ◌||◌, ◌∷◌, ◌≡◌}

-- the last value that settings give a number
abbrev pub last_value : ℕ → List Setting → Option ℕ
last_value id [] = None
last_value id (s ∷ settings) = option_or (last_value id settings) (if s.id == id then Some s.value else None)

-- the greatest value that they give it, 0 where they give it none
abbrev pub greatest_value : ℕ → List Setting → ℕ
greatest_value id [] = 0
greatest_value id (s ∷ settings) = max (if s.id == id then s.value else 0) (greatest_value id settings)

-- what SETTINGS_HEADER_TABLE_SIZE, SETTINGS_MAX_CONCURRENT_STREAMS, SETTINGS_INITIAL_WINDOW_SIZE and SETTINGS_MAX_FRAME_SIZE come to
-- (section 6.5.2)
abbrev pub named_in : List Setting → Named
named_in settings = record {
  table = is_some (last_value 1 settings);
  concurrent = last_value 3 settings;
  initial = option_map (λ last. record { greatest = greatest_value 4 settings; last = last }) (last_value 4 settings);
  payload = last_value 5 settings;
}

-- of which settings some entry has a value outside its range, where SETTINGS_ENABLE_PUSH is at most this
abbrev pub outside_in : ℕ → List Setting → Outside
outside_in most_push settings = record {
  push = names_outside 2 0 most_push settings;
  initial_window = names_outside 4 0 (2 ^ 31 - 1) settings;
  frame_size = names_outside 5 16384 16777215 settings;
}

-- the code of the first rule that is broken by them
abbrev pub code_of : Outside → Option ℕ
code_of o = first_of (code_when o.push PROTOCOL_ERROR) (first_of (code_when o.initial_window FLOW_CONTROL_ERROR) (code_when o.frame_size PROTOCOL_ERROR))

-- the same of a frame: only SETTINGS has entries
abbrev pub named_by : Frame → Option Named
named_by (Settings ack entries) = Some (named_in (settings_of entries))
named_by frame = None

abbrev pub none_outside : Outside
none_outside = record { push = false; initial_window = false; frame_size = false }

abbrev pub outside_by : Bool → Frame → Outside
outside_by client_side (Settings ack entries) = outside_in (if client_side then 0 else 1) (settings_of entries)
outside_by client_side frame = none_outside

-- ---- the values of one number
abbrev pub no_values : Values
no_values = record { last = None; least = 2 ^ 32 - 1; greatest = 0 }

pub record HasValues (id : ℕ) (settings : List Setting) (values : Values) : Type 0 where
  pub last : values.last ≡ last_value id settings
  pub greatest : values.greatest ≡ greatest_value id settings
  pub outside : (low high : ℕ) → low < 2 ^ 32 → (nat_lt values.least low || nat_lt high values.greatest) ≡ names_outside id low high settings
