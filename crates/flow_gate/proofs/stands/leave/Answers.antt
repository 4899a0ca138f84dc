use Rattle.flow_gate.proofs.Gaps.{all_stay, flow_goes, one_goes, places_stay}
use Rattle.flow_gate.proofs.stands.leave.Goals as goal
use Rattle.flow_gate.proofs.stands.leave.Goals.{else-i-stands-via-then-i-stands+then-stands-i+else-is_some, else-i-stands-via-then-i-stands+else-stands-i, else-i-stands-via-else-i-stands}
use Rattle.flow_rules.specs.declared.ids.FlowId.{FlowId}
use Rattle.std.proofs.Common.{arith, refl, sym, ◌∙◌}
use Rattle.std.proofs.lemmas.Bool.{false≢true}
use Rattle.std.specs.Prelude.{None, Option, Some, false, is_some, ◌≡◌}

no_flow : (o : Option FlowId) → is_some o ≡ false → o ≡ None
no_flow None e = refl
no_flow (Some f) e = absurd (false≢true (sym e))

pub returns-then-is_some-clause-flows : goal.returns-then-is_some-clause-flows
returns-then-is_some-clause-flows c = flow_goes c.args.place c.count_before-i.result c.args.stands.now _ c.if-i-stands.true c.count_before-i.ensures c.if-stands-i.true (sym c.is_some.ensures ∙ c.if-is_some.true)

pub returns-then-is_some-clause-places : goal.returns-then-is_some-clause-places
returns-then-is_some-clause-places c = places_stay c.count_before-i.result c.args.stands.now _ c.if-i-stands.true

pub returns-then-is_some-clause-count : goal.returns-then-is_some-clause-count
returns-then-is_some-clause-count c = one_goes c.count_before-i.result c.args.stands.now _ c.if-i-stands.true (sym c.is_some.ensures ∙ c.if-is_some.true)

pub returns-clause-flows : goal.returns-clause-flows
returns-clause-flows c = all_stay c.args.place c.count_before-i.result c.args.stands.now (record { place = 0; flow = None }) c.requires c.count_before-i.ensures (λ less same. elim c.else-i-stands.branch [
  | else-i-stands-via-then-i-stands+then-stands-i+else-is_some w ↦ no_flow _ (sym w.is_some.ensures ∙ w.if-is_some.false)
  | else-i-stands-via-then-i-stands+else-stands-i w ↦ absurd (w.if-stands-i.false same)
  | else-i-stands-via-else-i-stands w ↦ absurd (omega (arith, less, w.if-i-stands.false))
])
