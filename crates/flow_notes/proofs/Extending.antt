-- What was there before stays in front.
use Rattle.std.proofs.Common.{◌≡◌, ℕ, List, ◌++◌, ap, ◌∙◌, append_assoc}
use Rattle.flow_notes.specs.Extends.{Extends}

pub extends_by : (old new added : List ℕ) → new ≡ old ++ added → Extends old new
extends_by old new added e = record { added = added; is = e }

pub extends_then : (a b c : List ℕ) → Extends a b → Extends b c → Extends a c
extends_then a b c p q = record { added = p.added ++ q.added; is = q.is ∙ ap (λ (front : List ℕ). front ++ q.added) p.is ∙ append_assoc a p.added q.added }
