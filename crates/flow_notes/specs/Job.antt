-- What a post asks for.
use Rattle.std.specs.Prelude.{ℕ, List, [], ◌∷◌, codes}
use Rattle.std.specs.Fmt.{decimal}
use Rattle.flow_notes.specs.Number.{IsCount}
use Rattle.flow_notes.specs.declared.events.Job.{Job}
use Rattle.flow_notes.specs.declared.events.Job.TheVariants.{Drain, Cancel, Look}

abbrev pub job_words : Job → List (List ℕ)
job_words Drain = codes "drain" ∷ []
job_words (Cancel exchange) = codes "cancel" ∷ decimal exchange ∷ []
job_words Look = codes "look" ∷ []

-- the jobs in their ranges
abbrev pub IsJob : Job → Type 0
IsJob Drain = Unit {0}
IsJob (Cancel exchange) = IsCount exchange
IsJob Look = Unit {0}
