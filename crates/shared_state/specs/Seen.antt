-- What a reader has seen, and the publisher.
use Rattle.std.specs.Prelude.{ℕ, List, [], Option, Some, None}
use Rattle.left_right.specs.Sides.{view}
use Rattle.left_right.specs.declared.Absorb.{Ghosts}
use Rattle.left_right.specs.declared.reader.Reader.{Reader}
use Rattle.left_right.specs.declared.writer.Writer.{Writer}

-- the pressures of versions 1, 2 and so on that the reader has seen
abbrev pub seen_by : {T P A : Type 0} → Option (Reader T (List (List ℕ)) P A) → List (List ℕ)
seen_by None = []
seen_by (Some r) = view r.place

-- those that were published
abbrev pub published_by : {T O P A S : Type 0} {g : Ghosts T O S} → Option (Writer T O (List (List ℕ)) P A S g) → List (List ℕ)
published_by None = []
published_by (Some w) = view w.desk.place
