-- The pauses that a rise brings.
use Rattle.flow_rules.specs.declared.ids.BufferId.{BufferId}
use Rattle.flow_rules.specs.declared.ids.FlowId.{FlowId}
use Rattle.plain_laws.specs.Owing.{due_if, pauses_for}
use Rattle.std.proofs.Common.{refl}
use Rattle.std.specs.Prelude.{Bool, List, [], false, flat_map, if◌then◌else◌, map, not, true, ℕ, ◌&&◌, ◌++◌, ◌∷◌, ◌≡◌}
use Rattle.tape_laws.specs.Flows.{request}
use Rattle.tape_laws.specs.Pauses.{Owed}

paused_all : (b : BufferId) (xs : List ℕ) → map (λ (f : FlowId). let o : Owed = record { flow = f; buffer = b } in o) (map request xs) ++ [] ≡ pauses_for b xs
paused_all b [] = refl
paused_all b (x ∷ xs) = cc (paused_all b xs)

-- the pauses of a rise, by the streams that watch
pub rise_due : (b : BufferId) (rises : Bool) (watching : BufferId → List FlowId) (xs : List ℕ) → watching b ≡ map request xs
    → flat_map (λ (c : BufferId). map (λ (f : FlowId). let o : Owed = record { flow = f; buffer = c } in o) (watching c)) (if rises then b ∷ [] else []) ≡ due_if rises b xs
rise_due b true watching xs e = cc (paused_all b xs)
rise_due b false watching xs e = refl

pub low_rises : (w a : Bool) → w ≡ false → (not w && a) ≡ a
low_rises true a e = cc
low_rises false a e = refl
