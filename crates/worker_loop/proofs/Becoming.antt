-- Things done one after the other.
use Rattle.std.proofs.Common.{ap, refl, subst}
use Rattle.std.specs.Prelude.{List, [], ℕ, ◌++◌, ◌∷◌, ◌≡◌}
use Rattle.worker_loop.specs.Did.{Did}
use Rattle.worker_loop.specs.Places.{Becomes, Changes, Place}

pub becomes_append : (names : List (List ℕ)) (ds es : List Did) (v u w : Place) → Becomes names v ds u → Becomes names u es w → Becomes names v (ds ++ es) w
becomes_append names [] es v u w e rest = subst (λ (p : Place). Becomes names p es w) e rest
becomes_append names (d ∷ ds) es v u w b rest = (b.0, b.1, becomes_append names ds es b.0 u w b.2 rest)

pub becomes_split : (names : List (List ℕ)) (ds es : List Did) (v w : Place) → Becomes names v (ds ++ es) w → (u : Place) × Becomes names v ds u × Becomes names u es w
becomes_split names [] es v w b = (v, refl, b)
becomes_split names (d ∷ ds) es v w b = let r = becomes_split names ds es b.0 w b.2 in (r.0, (b.0, b.1, r.1), r.2)
