-- What the peer's settings and windows let a flow send (RFC 9113 sections 5.2, 6.5.2 and 6.9).
use Rattle.flow_rules.specs.declared.ids.FlowId.{FlowId}
use Rattle.h2_session.specs.declared.act.Setting.{Setting}
use Rattle.std.specs.Option.{option_map_or}
use Rattle.std.specs.Prelude.{List, [], if◌then◌else◌, min, ℕ, ◌&&◌, ◌+◌, ◌-◌, ◌==◌, ◌∷◌}
use Rattle.tape_laws.specs.Flows.{same_flow}
use Rattle.tape_laws.specs.History.{Marked, Noted}
use Rattle.wire_laws.specs.Marks.{Took, WireHistory}
use Rattle.wire_laws.specs.Streams.{conn_to, stream_to}
use Rattle.flow_notes.specs.declared.notes.Note.TheVariants as note
use Rattle.h2_session.specs.declared.act.Act.TheVariants as act

-- the last value that a SETTINGS frame has for the parameter, or the value before
abbrev pub last_value : ℕ → ℕ → List Setting → ℕ
last_value id before [] = before
last_value id before (p ∷ ps) = last_value id (if p.id == id then p.value else before) ps

-- the peer's setting in force
abbrev pub setting : ℕ → ℕ → ℕ → WireHistory → ℕ
setting id default c [] = default
setting id default c (Marked (Took d frame (act.Settings list) reading) ∷ past) =
    last_value id (setting id default c past) (if d == c then list else [])
setting id default c (step ∷ past) = setting id default c past

-- SETTINGS_INITIAL_WINDOW_SIZE, SETTINGS_MAX_FRAME_SIZE and SETTINGS_MAX_CONCURRENT_STREAMS
abbrev pub initial_window : ℕ → WireHistory → ℕ
initial_window c past = setting 4 65535 c past

abbrev pub greatest_payload : ℕ → WireHistory → ℕ
greatest_payload c past = setting 5 16384 c past

abbrev pub concurrent_streams : ℕ → WireHistory → ℕ
concurrent_streams c past = setting 3 100 c past

-- what WINDOW_UPDATE frames on the stream, 0 for the connection, added
abbrev pub widened : ℕ → ℕ → WireHistory → ℕ
widened c s [] = 0
widened c s (Marked (Took d frame (act.WindowUp t n) reading) ∷ past) =
    (if (d == c) && (t == s) then n else 0) + widened c s past
widened c s (step ∷ past) = widened c s past

-- the octets of DATA frames that went to the connection, and those of one flow
abbrev pub spent_on : ℕ → WireHistory → ℕ
spent_on c [] = 0
spent_on c (Noted (note.Frame d f n last) ∷ past) = (if d == c then n else 0) + spent_on c past
spent_on c (step ∷ past) = spent_on c past

abbrev pub spent_by : FlowId → WireHistory → ℕ
spent_by f [] = 0
spent_by f (Noted (note.Frame d g n last) ∷ past) = (if same_flow g f then n else 0) + spent_by f past
spent_by f (step ∷ past) = spent_by f past

-- all that the windows of a connection and of a stream ever allowed
abbrev pub conn_window : ℕ → WireHistory → ℕ
conn_window c past = 65535 + widened c 0 past

abbrev pub stream_window : ℕ → FlowId → WireHistory → ℕ
stream_window c f past = initial_window c past + widened c (stream_to f past) past

-- what a DATA frame of the flow may carry; a window whose room has fallen below 0 lets nothing through, as one with no room
abbrev pub room_at : ℕ → FlowId → WireHistory → ℕ
room_at c f past =
    min (greatest_payload c past) (min (conn_window c past - spent_on c past) (stream_window c f past - spent_by f past))

abbrev pub frame_room : FlowId → WireHistory → ℕ
frame_room f past = option_map_or (λ c. room_at c f past) (conn_to f past) 0
