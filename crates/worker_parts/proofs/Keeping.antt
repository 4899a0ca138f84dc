-- Notes that are kept.
use Rattle.flow_notes.specs.declared.notes.Note.{Note}
use Rattle.std.proofs.Common.{ap, append_assoc, sym, ◌∙◌}
use Rattle.std.proofs.lemmas.List.{append-nil}
use Rattle.std.specs.List.{flat_map}
use Rattle.std.specs.Prelude.{List, Some, [], ◌++◌, ◌∷◌, ◌≡◌}
use Rattle.worker_parts.specs.Journals.{with_notes}

flat_last : (xs : List (List Note)) (x : List Note) → flat_map (λ ns. ns) (xs ++ x ∷ []) ≡ flat_map (λ ns. ns) xs ++ x
flat_last [] x = append-nil x
flat_last (y ∷ xs) x = ap (λ (zs : List Note). y ++ zs) (flat_last xs x) ∙ sym (append_assoc y (flat_map (λ ns. ns) xs) x)

pub notes_kept : (old new : List (List Note)) (taken notes : List Note) → new ≡ old ++ taken ∷ [] → taken ≡ notes → Some (flat_map (λ ns. ns) new) ≡ with_notes notes (Some (flat_map (λ ns. ns) old))
notes_kept old new taken notes e is = ap (λ (ys : List (List Note)). Some (flat_map (λ ns. ns) ys)) e ∙ ap (λ (ys : List Note). Some ys) (flat_last old taken) ∙ ap (λ (ys : List Note). Some (flat_map (λ ns. ns) old ++ ys)) is
