-- A stage as it is kept, with the room that was made in its buffer.
use Rattle.std.specs.Prelude.{◌≡◌, ◌+◌, ◌<◌, ◌≤◌, ℕ, List, length, All, IsTrue, map}
use Rattle.filter_chain.specs.Place.{IsPlace, Place, beyond}
use Rattle.filter_chain.specs.Release.{has_room, has_room_in}
use Rattle.filter_chain.specs.declared.stage.Stage.{Stage}

abbrev pub place_of : Stage → Place
place_of stage = record {
  kind = stage.kind;
  limit = stage.buffer.limit;
  octets = stage.buffer.octets;
  above = stage.buffer.above;
  tokens = stage.tokens;
}

abbrev pub places_of : List Stage → List Place
places_of stages = map place_of stages

-- a buffer with a limit has room for that and for what may come beyond it
abbrev pub IsReady : ℕ → Stage → Type 0
IsReady quantum stage =
    0 < stage.buffer.limit → stage.buffer.limit + beyond stage.kind quantum ≤ length stage.buffer.octets + stage.buffer.spare

-- each that was ready still is
abbrev pub KeepsReady : List Stage → List Stage → Type 0
KeepsReady old new = (quantum : ℕ) → All (IsReady quantum) old → All (IsReady quantum) new

-- the kind, the limit and the room of a buffer, used or not, are as they were
pub record KeepsRoom (old new : Stage) : Type 0 where
  pub kind : new.kind ≡ old.kind
  pub limit : new.buffer.limit ≡ old.buffer.limit
  pub room : length old.buffer.octets + old.buffer.spare ≤ length new.buffer.octets + new.buffer.spare

-- where a ready stage is said to have room for n more octets, they aren't refused for memory
abbrev pub Covers : Stage → ℕ → Type 0 → Type 0
Covers stage n refused =
    (quantum : ℕ) → IsReady quantum stage → IsPlace (place_of stage) → IsTrue (has_room quantum n (place_of stage)) → ¬ refused

abbrev pub CoversAt : List Stage → ℕ → ℕ → Type 0 → Type 0
CoversAt stages p n refused =
    (quantum : ℕ) → All (IsReady quantum) stages → All IsPlace (places_of stages) → IsTrue (has_room_in quantum (places_of stages) p n)
    → ¬ refused
