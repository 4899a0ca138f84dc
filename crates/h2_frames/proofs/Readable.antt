-- What is read can be written.
use Rattle.std.proofs.Common.{ℕ, ◌≤◌, List, arith}
use Rattle.std.proofs.lemmas.Grind.{common_steps}
use Rattle.h2_frames.specs.Frame.{Frame, padding_of}
use Rattle.h2_frames.specs.Frames.{SpellsFrame}
use Rattle.h2_frames.specs.Spelling.{IsWritable}

pub writable : (max : ℕ) (octets : List ℕ) (frame : Frame) → SpellsFrame max octets frame → IsWritable frame
writable max octets frame s = grind (arith, common_steps)

pub padding : (max : ℕ) (octets : List ℕ) (frame : Frame) → SpellsFrame max octets frame → padding_of frame ≤ 256
padding max octets frame s = grind (arith, common_steps)
