use Rattle.flow_gate.proofs.Places.{between_below, between_high_only, part-held}
use Rattle.flow_gate.proofs.gate.Gate.held.Goals as goal
use Rattle.flow_gate.proofs.gate.Gate.held.Goals.{After-from-2, else-self-place, then-self-place}
use Rattle.flow_gate.specs.Line.{is_between, live}
use Rattle.std.proofs.Common.{ap, arith, refl, sym, ◌∙◌}
use Rattle.std.proofs.lemmas.Bool.Decides.{nat_tests}
use Rattle.std.specs.Int.{from_bool}
use Rattle.std.specs.Prelude.{Bool, cond, false, nat_le, true, ℕ, ◌+◌, ◌<◌, ◌≡◌}

not_yet : (told place : ℕ) → place < told → nat_le told place ≡ false
not_yet told place less = grind (arith, nat_tests)

pending_is : (c : After-from-2) → c.if-self-place.pending ≡ is_between c.self.inside.told c.self.inside.drained c.args.place
pending_is c = elim c.if-self-place.branch [
  | then-self-place w ↦ w.pending-is ∙ sym (between_high_only c.self.inside.told c.self.inside.drained c.args.place w.if-self-place.true)
  | else-self-place w ↦ w.pending-is ∙ not_yet c.self.inside.told c.args.place w.if-self-place.false
      ∙ sym (between_below c.self.inside.told c.self.inside.drained c.args.place w.if-self-place.false)
]

unit : (t : Bool) → from_bool t ≡ cond t 1 0
unit true = refl
unit false = refl

pub returns-clause-held : goal.returns-clause-held
returns-clause-held c = rw (← c.self.view_is) (λ flow at once.
    let low = part-held (is_between c.self.inside.told c.self.inside.drained) c.args.place flow (live c.self.inside.line.items) at once in
    let pending : c.from-2.result ≡ cond (is_between c.self.inside.told c.self.inside.drained c.args.place) 1 0 =
    c.from-2.ensures ∙ unit c.if-self-place.pending ∙ ap {B = ℕ} (λ t. cond t 1 0) (pending_is c) in
    λ i. (c.from.ensures ∙ unit c.self.inside.above) i + (pending ∙ sym low) i)
