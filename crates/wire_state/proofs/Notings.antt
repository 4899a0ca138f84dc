-- Notes that were appended.
use Rattle.flow_rules.specs.declared.ids.BufferId.TheVariants as buffer
use Rattle.flow_rules.specs.declared.ids.FlowId.{FlowId}
use Rattle.flow_notes.specs.declared.notes.Note.{Note}
use Rattle.flow_notes.specs.declared.notes.Note.TheVariants as note
use Rattle.std.proofs.Common.{ap, append_assoc, ◌∙◌}
use Rattle.std.specs.List.{AllByRecursion}
use Rattle.std.specs.Prelude.{Err, List, Ok, OnErr, OnOk, Result, [], map, ℕ, ◌++◌, ◌∷◌, ◌≡◌}
use Rattle.wire_state.specs.Noting.{Appends, IsStep}

both : (xs ys : List Note) → AllByRecursion IsStep xs → AllByRecursion IsStep ys → AllByRecursion IsStep (xs ++ ys)
both [] ys a b = b
both (x ∷ xs) ys a b = (a.0, both xs ys a.1 b)

pub appends_of : {A E : Type 0} (r : Result A E) (old ns new : List Note) → AllByRecursion IsStep ns → OnOk r (new ≡ old ++ ns) → OnErr r (new ≡ old) → Appends old new
appends_of (Ok u) old ns new steps ok err = record {
  goes = λ start e. record {
    added = e.added ++ ns;
    is = ok ∙ (ap (λ (v : List Note). v ++ ns) e.is ∙ append_assoc start e.added ns);
    steps = both e.added ns e.steps steps;
  };
}
appends_of (Err x) old ns new steps ok err = record { goes = λ start e. record { added = e.added; is = err ∙ e.is; steps = e.steps } }

-- the pauses of a write buffer
pub pauses_are_steps : (c : ℕ) (flows : List FlowId) → AllByRecursion IsStep (map (λ f. note.Pause f (buffer.Write c)) flows)
pauses_are_steps c [] = tt
pauses_are_steps c (f ∷ flows) = (tt, pauses_are_steps c flows)
