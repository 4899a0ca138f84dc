-- The code of settings outside their ranges.
use Rattle.h2_frames.specs.Frame.{Continuation, DataFrame, Frame, GoAway, Headers, Ping, Priority, Push, Reset, Settings, Unknown, WindowUpdate}
use Rattle.h2_session.specs.Errors.{settings_error}
use Rattle.h2_session.specs.Values.{code_of, outside_by}
use Rattle.std.proofs.Common.{Bool, refl, ◌≡◌}

pub settings_code : (client_side : Bool) (frame : Frame) → code_of (outside_by client_side frame) ≡ settings_error client_side frame
settings_code client_side (DataFrame stream last padded octets) = refl
settings_code client_side (Headers stream last end_headers padded priority block) = refl
settings_code client_side (Priority stream priority) = refl
settings_code client_side (Reset stream code) = refl
settings_code client_side (Settings ack entries) = refl
settings_code client_side (Push stream end_headers padded promised block) = refl
settings_code client_side (Ping ack octets) = refl
settings_code client_side (GoAway last code debug) = refl
settings_code client_side (WindowUpdate stream increment) = refl
settings_code client_side (Continuation stream end_headers block) = refl
settings_code client_side (Unknown kind flags stream octets) = refl
