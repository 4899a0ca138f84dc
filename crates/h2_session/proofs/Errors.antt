-- What a frame that is no connection error says of what came before it.
use Rattle.std.proofs.Common.{◌≡◌, ℕ, Bool, true, false, Option, Some, None, List, refl}
use Rattle.std.specs.Prelude.{nat_le, not, ◌&&◌, ◌||◌}
use Rattle.h2_frames.specs.declared.codes.TheConstants.{ENHANCE_YOUR_CALM, PROTOCOL_ERROR}
use Rattle.h2_frames.specs.Frame.{Continuation, Frame}
use Rattle.h2_session.specs.Blocks.{block_with, open_block}
use Rattle.h2_session.specs.Errors.{breaks_block, code_when, empty_run, error_by, error_of, first_of, is_empty_data, is_great, is_push, is_settings, is_zero_update, settings_error, uses_idle, value_error}
use Rattle.h2_session.specs.Happened.{Happening, Side, failure, none_came}
use Rattle.h2_session.specs.Streams.{is_idle, is_new}
use Rattle.h2_session.specs.declared.block.HeaderBlock.{HeaderBlock}

apart : (n : ℕ) → Some n ≡ None → ⊥
apart n e = cc

pub first_none : (a b : Option ℕ) → first_of a b ≡ None → (a ≡ None) × (b ≡ None)
first_none None b e = (refl, e)
first_none (Some c) b e = absurd (apart c e)

pub code_none : (b : Bool) (c : ℕ) → code_when b c ≡ None → b ≡ false
code_none true c e = absurd (apart c e)
code_none false c e = refl

-- what holds of a frame that is no connection error
pub record NoError (side : Side) (frame : Frame) (past : List Happening) : Type 0 where
  pub failed : failure past ≡ None
  pub block : breaks_block frame (open_block past) ≡ false
  pub great : is_great (block_with frame (open_block past)) ≡ false
  pub idle : uses_idle side frame past ≡ false
  pub run : is_empty_data frame && nat_le side.empty_frames (empty_run past) ≡ false

pub no_error : (side : Side) (frame : Frame) (past : List Happening) → error_of side frame past ≡ None → NoError side frame past
no_error side frame past e =
    let a = first_none (failure past) (error_by side frame (none_came past) (open_block past) (uses_idle side frame past) (empty_run past)) e in
    let rest4 : Option ℕ = first_of (code_when (uses_idle side frame past) PROTOCOL_ERROR) (value_error side frame (empty_run past)) in
    let rest3 : Option ℕ = first_of (code_when (is_push frame) PROTOCOL_ERROR) rest4 in
    let rest2 : Option ℕ = first_of (code_when (is_great (block_with frame (open_block past))) ENHANCE_YOUR_CALM) rest3 in
    let rest1 : Option ℕ = first_of (code_when (breaks_block frame (open_block past)) PROTOCOL_ERROR) rest2 in
    let b = first_none (code_when (none_came past && not (is_settings frame)) PROTOCOL_ERROR) rest1 a.1 in
    let c = first_none (code_when (breaks_block frame (open_block past)) PROTOCOL_ERROR) rest2 b.1 in
    let d = first_none (code_when (is_great (block_with frame (open_block past))) ENHANCE_YOUR_CALM) rest3 c.1 in
    let f = first_none (code_when (is_push frame) PROTOCOL_ERROR) rest4 d.1 in
    let g = first_none (code_when (uses_idle side frame past) PROTOCOL_ERROR) (value_error side frame (empty_run past)) f.1 in
    let last : Option ℕ = code_when (is_empty_data frame && nat_le side.empty_frames (empty_run past)) ENHANCE_YOUR_CALM in
    let h = first_none (settings_error side.client_side frame) (first_of (code_when (is_zero_update frame) PROTOCOL_ERROR) last) g.1 in
    let i = first_none (code_when (is_zero_update frame) PROTOCOL_ERROR) last h.1 in
    record {
      failed = a.0;
      block = code_none (breaks_block frame (open_block past)) PROTOCOL_ERROR c.0;
      great = code_none (is_great (block_with frame (open_block past))) ENHANCE_YOUR_CALM d.0;
      idle = code_none (uses_idle side frame past) PROTOCOL_ERROR g.0;
      run = code_none (is_empty_data frame && nat_le side.empty_frames (empty_run past)) ENHANCE_YOUR_CALM i.1;
    }

-- the same from what is known of the frames before it: a header block isn't broken
pub not_broken : (side : Side) (frame : Frame) (first : Bool) (o : Option HeaderBlock) (idle : Bool) (run : ℕ) (failed : Option ℕ)
    → first_of failed (error_by side frame first o idle run) ≡ None → breaks_block frame o ≡ false
not_broken side frame first o idle run failed e =
    let rest2 : Option ℕ = first_of (code_when (is_great (block_with frame o)) ENHANCE_YOUR_CALM) (first_of (code_when (is_push frame) PROTOCOL_ERROR) (first_of (code_when idle PROTOCOL_ERROR) (value_error side frame run))) in
    let rest1 : Option ℕ = first_of (code_when (breaks_block frame o) PROTOCOL_ERROR) rest2 in
    let a = first_none failed (error_by side frame first o idle run) e in
    let b = first_none (code_when (first && not (is_settings frame)) PROTOCOL_ERROR) rest1 a.1 in
    let c = first_none (code_when (breaks_block frame o) PROTOCOL_ERROR) rest2 b.1 in
    code_none (breaks_block frame o) PROTOCOL_ERROR c.0

-- a frame other than CONTINUATION stands in no open block
abbrev goes_on : Frame → Bool
goes_on (Continuation s end_headers block) = true
goes_on frame = false

pub not_within : (frame : Frame) (o : Option HeaderBlock) → goes_on frame ≡ false → breaks_block frame o ≡ false → o ≡ None
not_within (Continuation s e block) o g h = absurd cc
not_within frame None g h = refl
not_within frame (Some b) g h = absurd cc

-- a stream that isn't idle isn't new
pub not_new : (client_side : Bool) (s : ℕ) (past : List Happening) → is_idle client_side s past ≡ false → is_new client_side s past ≡ false
not_new client_side s past e = left (is_new client_side s past) _ e
  where
    left : (a b : Bool) → a || b ≡ false → a ≡ false
    left true b e = e
    left false b e = refl

-- a test that none passes
pub not_both : (a b : Bool) → a && b ≡ false → a ≡ true → b ≡ false
not_both true b e t = e
not_both false b e t = absurd cc
