-- The record of what was done at connections in memory.
use Rattle.mem_ports.specs.declared.steps.Kept.{Kept}
use Rattle.mem_ports.specs.declared.steps.Kept.TheVariants as kept
use Rattle.mem_ports.specs.declared.steps.Steps.TheInside.{Inside}
use Rattle.std.specs.Prelude.{List, [], drop, length, take, ℕ, ◌+◌, ◌∷◌, ◌≡◌, ◌≤◌}
use Rattle.std.specs.Vec.{vec_capacity}
use Rattle.worker_ports.specs.declared.wires.WireStep.{WireStep}
use Rattle.worker_ports.specs.declared.wires.WireStep.TheVariants as step

-- the steps that are kept, whose pieces stand one behind the other
abbrev pub steps_in : List Kept → List ℕ → List WireStep
steps_in [] pieces = []
steps_in (kept.Gave w ∷ ks) pieces = step.Gave w ∷ steps_in ks pieces
steps_in (kept.Offered c len taken ∷ ks) pieces = step.Offered c (take len pieces) taken ∷ steps_in ks (drop len pieces)
steps_in (kept.Closed c ∷ ks) pieces = step.Closed c ∷ steps_in ks pieces

-- how many octets were offered
abbrev pub octets_in : List Kept → ℕ
octets_in [] = 0
octets_in (kept.Gave w ∷ ks) = octets_in ks
octets_in (kept.Offered c len taken ∷ ks) = len + octets_in ks
octets_in (kept.Closed c ∷ ks) = octets_in ks

-- what was done, and for how many offers, octets of offers and other steps there is room
pub record StepsMemory : Type 0 where
  pub steps : List WireStep
  pub offers : ℕ
  pub octets : ℕ
  pub others : ℕ

abbrev pub memory_of : Inside → StepsMemory
memory_of s = record {
  steps = steps_in s.kept.items s.pieces.items;
  offers = s.room.offers;
  octets = s.room.octets;
  others = s.others;
}

-- the pieces are those that were offered, and there is the room
pub record IsRoomy (s : Inside) : Type 0 where
  pub pieces : octets_in s.kept.items ≡ length s.pieces.items
  pub steps : length s.kept.items + (s.room.offers + s.others) ≤ vec_capacity s.kept
  pub octets : length s.pieces.items + s.room.octets ≤ vec_capacity s.pieces
