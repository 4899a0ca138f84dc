-- When the write buffer of a connection is above its high watermark, and how often it rose and drained.
use Rattle.relay_laws.specs.Pairs.{Tape}
use Rattle.relay_laws.specs.World.{out}
use Rattle.std.specs.Prelude.{Bool, [], false, if◌then◌else◌, length, not, ℕ, ◌&&◌, ◌+◌, ◌==◌, ◌∷◌}
use Rattle.tape_laws.specs.History.{NoMark, Noted, Step}
use Rattle.wm_buffer.specs.Watermark.{above_after}
use Rattle.flow_notes.specs.declared.notes.Note.TheVariants as note

-- it is above from when its length passes the limit until it is at most half of it; a limit of 0 is none
abbrev pub above : ℕ → ℕ → Tape → Bool
above limit c [] = false
above limit c (step ∷ past) = above_after limit (above limit c past) (length (out c (step ∷ past)))

abbrev pub rises_at : ℕ → ℕ → Step NoMark → Tape → Bool
rises_at limit c step past = not (above limit c past) && above limit c (step ∷ past)

abbrev pub drains_at : ℕ → ℕ → Step NoMark → Tape → Bool
drains_at limit c step past = above limit c past && not (above limit c (step ∷ past))

-- how often it rose, and how often it drained, since the start of the pair x
abbrev pub rises : ℕ → ℕ → ℕ → Tape → ℕ
rises limit x c [] = 0
rises limit x c (Noted (note.Start y a s b) ∷ past) = if y == x then 0 else rises limit x c past
rises limit x c (step ∷ past) = (if rises_at limit c step past then 1 else 0) + rises limit x c past

abbrev pub drains : ℕ → ℕ → ℕ → Tape → ℕ
drains limit x c [] = 0
drains limit x c (Noted (note.Start y a s b) ∷ past) = if y == x then 0 else drains limit x c past
drains limit x c (step ∷ past) = (if drains_at limit c step past then 1 else 0) + drains limit x c past
