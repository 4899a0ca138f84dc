-- Header blocks, each a HEADERS frame and its CONTINUATION frames (RFC 9113 section 4.3).
use Rattle.h2_frames.specs.Frame.{Continuation, Frame, Headers}
use Rattle.h2_session.specs.declared.block.HeaderBlock.{HeaderBlock}
use Rattle.h2_session.specs.Happened.{Came, Happening}
use Rattle.std.specs.Option.{option_map_or}
use Rattle.std.specs.Prelude.{Bool, List, None, Option, Some, [], if◌then◌else◌, max, min, option_map, true, ℕ, ◌++◌, ◌+◌, ◌-◌, ◌^◌, ◌∷◌}

-- a block with one more CONTINUATION frame
abbrev pub grown : List ℕ → HeaderBlock → HeaderBlock
grown more b = record { stream = b.stream; last = b.last; octets = b.octets ++ more; frames = b.frames + 1 }

-- the same where the number of frames ends at that of 32 bits
abbrev pub grown_in : List ℕ → HeaderBlock → HeaderBlock
grown_in more b = record { stream = b.stream; last = b.last; octets = b.octets ++ more; frames = min (b.frames + 1) (2 ^ 32 - 1) }

-- the header block that a frame begins or goes on with, that frame included
abbrev pub block_with : Frame → Option HeaderBlock → Option HeaderBlock
block_with (Headers s last end_headers padded priority block) before = Some (record { stream = s; last = last; octets = block; frames = 1 })
block_with (Continuation s end_headers block) before = option_map (grown block) before
block_with frame before = None

-- the frame leaves no header block open
abbrev pub ends_block : Frame → Bool
ends_block (Headers s last end_headers padded priority block) = end_headers
ends_block (Continuation s end_headers block) = end_headers
ends_block frame = true

-- the header block that is open
abbrev pub open_block : List Happening → Option HeaderBlock
open_block [] = None
open_block (Came frame ∷ past) = let before = open_block past in if ends_block frame then None else block_with frame before
open_block (happening ∷ past) = open_block past

-- the stream of a header block that is open, 0 where none is
abbrev pub block_stream : Option HeaderBlock → ℕ
block_stream o = option_map_or (λ b. b.stream) o 0

-- the header block that a frame ends
abbrev pub ended_block : Frame → List Happening → Option HeaderBlock
ended_block frame past = if ends_block frame then block_with frame (open_block past) else None

-- the greatest stream of the blocks that ended
abbrev pub greatest : List Happening → ℕ
greatest [] = 0
greatest (Came frame ∷ past) = let before = greatest past in option_map_or (λ b. max before b.stream) (ended_block frame past) before
greatest (happening ∷ past) = greatest past
