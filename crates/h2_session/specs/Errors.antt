-- Connection errors, in the order of the protocol's rules (RFC 9113 sections 3.4, 4.3, 5.1, 5.4.1, 6).
use Rattle.h2_frames.specs.declared.codes.TheConstants.{ENHANCE_YOUR_CALM, FLOW_CONTROL_ERROR, PROTOCOL_ERROR}
use Rattle.h2_frames.specs.Frame.{Continuation, DataFrame, Frame, Headers, Push, Reset, Settings, WindowUpdate}
use Rattle.h2_session.specs.Blocks.{block_with, open_block}
use Rattle.h2_session.specs.Happened.{Came, Failed, Happening, Side, failure, none_came}
use Rattle.h2_session.specs.Streams.{is_idle}
use Rattle.h2_session.specs.declared.act.Setting.{Setting}
use Rattle.h2_session.specs.declared.block.HeaderBlock.{HeaderBlock}
use Rattle.std.specs.Int.{from_be_bytes, w16, w32}
use Rattle.std.specs.List.{list_any}
use Rattle.std.specs.Option.{option_map_or}
use Rattle.std.specs.Prelude.{Bool, List, None, Option, Some, [], false, if◌then◌else◌, length, nat_le, nat_lt, not, true, ℕ, ◌%◌, ◌&&◌, ◌+◌, ◌-◌, ◌==◌, ◌^◌, ◌||◌, ◌∷◌}

abbrev pub first_of : Option ℕ → Option ℕ → Option ℕ
first_of None second = second
first_of (Some code) second = Some code

abbrev pub code_when : Bool → ℕ → Option ℕ
code_when b code = if b then Some code else None

-- the entries of a SETTINGS frame: two octets of a number and four of a value (section 6.5.1)
abbrev pub settings_of : List ℕ → List Setting
settings_of (a ∷ b ∷ c ∷ d ∷ e ∷ f ∷ rest) =
    record { id = from_be_bytes w16 (a ∷ b ∷ []); value = from_be_bytes w32 (c ∷ d ∷ e ∷ f ∷ []) } ∷ settings_of rest
settings_of octets = []

-- some entry of this number has a value outside its range
abbrev pub names_outside : ℕ → ℕ → ℕ → List Setting → Bool
names_outside id low high settings = list_any (λ s. (s.id == id) && (nat_lt s.value low || nat_lt high s.value)) settings

-- the first frame has to be SETTINGS, and no acknowledgement (section 3.4)
abbrev pub is_settings : Frame → Bool
is_settings (Settings ack entries) = not ack
is_settings frame = false

-- a frame within an open block goes on with it, and only there a CONTINUATION stands (sections 4.3 and 6.10)
abbrev pub breaks_block : Frame → Option HeaderBlock → Bool
breaks_block (Continuation s end_headers block) None = true
breaks_block frame None = false
breaks_block (Continuation s end_headers block) (Some b) = not (s == b.stream)
breaks_block frame (Some b) = true

-- the block with the frame has more than 65,536 octets or 128 frames
abbrev pub is_great : Option HeaderBlock → Bool
is_great None = false
is_great (Some b) = nat_lt 65536 (length b.octets) || nat_lt 128 b.frames

abbrev pub is_push : Frame → Bool
is_push (Push s end_headers padded promised block) = true
is_push frame = false

-- the stream that a frame uses, where the stream may not be idle
abbrev pub used_stream : Frame → Option ℕ
used_stream (DataFrame s last padded octets) = Some s
used_stream (Headers s last end_headers padded priority block) = Some s
used_stream (Reset s code) = Some s
used_stream (WindowUpdate s n) = if s == 0 then None else Some s
used_stream frame = None

-- a client's HEADERS may open a greater odd number
abbrev pub may_open : Side → Frame → Bool
may_open side (Headers s last end_headers padded priority block) = not side.client_side && (s % 2 == 1)
may_open side frame = false

abbrev pub uses_idle : Side → Frame → List Happening → Bool
uses_idle side frame past = not (may_open side frame) && option_map_or (λ s. is_idle side.client_side s past) (used_stream frame) false

-- SETTINGS_ENABLE_PUSH, SETTINGS_INITIAL_WINDOW_SIZE and SETTINGS_MAX_FRAME_SIZE (section 6.5.2)
abbrev pub settings_error : Bool → Frame → Option ℕ
settings_error client_side (Settings ack entries) =
    let settings = settings_of entries in
    first_of (code_when (names_outside 2 0 (if client_side then 0 else 1) settings) PROTOCOL_ERROR)
    (first_of (code_when (names_outside 4 0 (2 ^ 31 - 1) settings) FLOW_CONTROL_ERROR)
    (code_when (names_outside 5 16384 16777215 settings) PROTOCOL_ERROR))
settings_error client_side frame = None

abbrev pub is_zero_update : Frame → Bool
is_zero_update (WindowUpdate s n) = (s == 0) && (n == 0)
is_zero_update frame = false

-- a DATA frame without octets and padding that doesn't end its stream
abbrev pub is_empty_data : Frame → Bool
is_empty_data (DataFrame s last padded octets) = (length octets == 0) && (padded == 0) && not last
is_empty_data frame = false

-- HEADERS and other DATA frames end a run of empty ones
abbrev pub ends_run : Frame → Bool
ends_run (DataFrame s last padded octets) = true
ends_run (Headers s last end_headers padded priority block) = true
ends_run frame = false

-- the empty DATA frames since
abbrev pub empty_run : List Happening → ℕ
empty_run [] = 0
empty_run (Came frame ∷ past) = let before = empty_run past in if is_empty_data frame then before + 1 else if ends_run frame then 0 else before
empty_run (happening ∷ past) = empty_run past

-- settings, an increment of 0, or too many empty DATA frames
abbrev pub value_error : Side → Frame → ℕ → Option ℕ
value_error side frame run =
    first_of (settings_error side.client_side frame)
    (first_of (code_when (is_zero_update frame) PROTOCOL_ERROR)
    (code_when (is_empty_data frame && nat_le side.empty_frames run) ENHANCE_YOUR_CALM))

-- The code of the first connection error of a frame, from what is known of those before it: whether it is the first,
-- the open block, whether it uses an idle stream, and the empty DATA frames before it.
abbrev pub error_by : Side → Frame → Bool → Option HeaderBlock → Bool → ℕ → Option ℕ
error_by side frame is_first block idle run =
    first_of (code_when (is_first && not (is_settings frame)) PROTOCOL_ERROR)
    (first_of (code_when (breaks_block frame block) PROTOCOL_ERROR)
    (first_of (code_when (is_great (block_with frame block)) ENHANCE_YOUR_CALM)
    (first_of (code_when (is_push frame) PROTOCOL_ERROR)
    (first_of (code_when idle PROTOCOL_ERROR) (value_error side frame run)))))

-- once a connection error came, each further frame has it again
abbrev pub error_of : Side → Frame → List Happening → Option ℕ
error_of side frame past =
    first_of (failure past) (error_by side frame (none_came past) (open_block past) (uses_idle side frame past) (empty_run past))

-- what happened once the frame came
abbrev pub after : Side → Frame → List Happening → List Happening
after side frame past = option_map_or (λ code. Failed code) (error_of side frame past) (Came frame) ∷ past
