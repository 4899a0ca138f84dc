use Rattle.exchange_core.specs.Changes.{ChangesFlow}
use Rattle.exchange_core.specs.Effects.{received as received_octets, received_by}
use Rattle.exchange_core.specs.Exchanges.{IsLiveFlow, flow_at}
use Rattle.exchange_core.specs.declared.step.Received.TheVariants as received
use Rattle.std.proofs.Common.{refl, rules, subst, sym, ◌∙◌}
use Rattle.std.specs.BTreeSet.{contains}
use Rattle.std.specs.Ordering.{nat_cmp}
use Rattle.std.specs.Prelude.{length, ◌==◌, ◌≡◌}
use Rattle.plain_core.proofs.FlowFits.{receives}
use Rattle.plain_core.proofs.FlowHolds.{held_more, held_same}
use Rattle.plain_core.proofs.flows.Flows.receive.Goals as goal
use Rattle.plain_core.proofs.flows.Flows.receive.Goals.{else-eq-via-else-eq, else-eq-via-then-eq+else-not-is_empty}

pub returns-in_ok-hold : goal.returns-in_ok-hold
returns-in_ok-hold c =
    let x = c.args.exchange in
    let old = c.args.self.now in
    let octets = c.args.octets.now in
    let came = c.receive-received in
    let is : came.result ≡ received.Arrived = search rules in
    let said = subst (λ f. came.result ≡ received_by (length octets) (flow_at old.exchanges f)) c.request.ensures came.ensures.answer in
    let change = subst (λ f. IsLiveFlow old.exchanges f → ChangesFlow f (received_octets octets) old.exchanges came.new.self) c.request.ensures came.ensures.flow in
    rw c.hold.ensures.rest (receives x octets old came.new.self c.hold.new.self.holding came.result said c.requires.goes_on change came.ensures.same came.ensures.sound
    (λ a y. (c.in_ok-hold.ensures {u = tt}).holding y ∙ held_more (x == y) (contains nat_cmp old.holding y) octets (sym c.is_empty.ensures ∙ c.if-not-is_empty.true)) (λ other. absurd (other is)))

pub returns-else-eq : goal.returns-else-eq
returns-else-eq c =
    let x = c.args.exchange in
    let old = c.args.self.now in
    let octets = c.args.octets.now in
    let came = c.receive-received in
    let said = subst (λ f. came.result ≡ received_by (length octets) (flow_at old.exchanges f)) c.request.ensures came.ensures.answer in
    let change = subst (λ f. IsLiveFlow old.exchanges f → ChangesFlow f (received_octets octets) old.exchanges came.new.self) c.request.ensures came.ensures.flow in
    receives x octets old came.new.self old.holding came.result said c.requires.goes_on change came.ensures.same came.ensures.sound
    (λ a y. elim c.else-eq.branch [
      | else-eq-via-then-eq+else-not-is_empty w ↦ held_same (x == y) (contains nat_cmp old.holding y) octets (sym w.is_empty.ensures ∙ w.if-not-is_empty.false)
      | else-eq-via-else-eq w ↦ let other : (came.result ≡ received.Arrived → ⊥) = search rules in absurd (other a)
    ])
    (λ other. refl)
