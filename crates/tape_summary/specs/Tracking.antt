-- What is kept of a flow and a buffer: the places of their pauses without a resume, and the dispatches of their resumes without a pause.
use Rattle.tape_summary.specs.declared.track.Track.{Track}
use Rattle.std.specs.Prelude.{List, None, Option, Some, [], ℕ, ◌++◌, ◌∷◌, ◌≡◌}

pub record Lone : Type 0 where
  pub waiting : List ℕ
  pub early : List ℕ

-- before the first pause or resume
abbrev pub nothing : Lone
nothing = record { waiting = []; early = [] }

abbrev pub track_of : Option Track → Lone
track_of None = nothing
track_of (Some t) = record { waiting = t.waiting.items; early = t.early.items }

-- a pause at this place takes the first resume that came before it, or else waits for one
abbrev pub PausesTrack : Lone → ℕ → Lone → Option ℕ → Type 0
PausesTrack old place new None = (old.early ≡ []) × (new.waiting ≡ old.waiting ++ place ∷ []) × (new.early ≡ [])
PausesTrack old place new (Some turn) = (old.early ≡ turn ∷ new.early) × (new.waiting ≡ old.waiting)

-- a resume in this dispatch takes the first pause that waits, or else waits for one
abbrev pub ResumesTrack : Lone → ℕ → Lone → Option ℕ → Type 0
ResumesTrack old turn new None = (old.waiting ≡ []) × (new.early ≡ old.early ++ turn ∷ []) × (new.waiting ≡ [])
ResumesTrack old turn new (Some place) = (old.waiting ≡ place ∷ new.waiting) × (new.early ≡ old.early)
