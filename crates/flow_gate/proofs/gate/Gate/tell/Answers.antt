use Rattle.flow_gate.proofs.Live.{live-rises}
use Rattle.flow_gate.proofs.Parts.{lent_first, lent_nobody}
use Rattle.flow_gate.proofs.Places.{between-none, between-rest, first_high}
use Rattle.flow_gate.proofs.gate.Gate.tell.Goals as goal
use Rattle.flow_gate.specs.Line.{Places, live}
use Rattle.std.proofs.Common.{ap, arith, sym, ◌∙◌}
use Rattle.std.specs.Prelude.{drop, option_map, slice_get, ◌<◌}

pub overflow_add-self : goal.overflow_add-self
overflow_add-self c =
    let low = lent_first c.self.inside.told c.self.inside.drained c.self.inside.line.items c.as_slice.result.now c.between.result.now (c.in_ok-place.place, c.in_ok-place.flow)
    c.as_slice.ensures.value c.between.ensures c.in_ok-place.ensures in
    let below : c.in_ok-place.place < c.self.inside.drained = first_high c.self.inside.told c.self.inside.drained (c.in_ok-place.place, c.in_ok-place.flow) _ (live c.self.inside.line.items) low in
    omega (arith, below)

pub invariant_of-self : goal.invariant_of-self
invariant_of-self c =
    let low = lent_first c.self.inside.told c.self.inside.drained c.self.inside.line.items c.as_slice.result.now c.between.result.now (c.in_ok-place.place, c.in_ok-place.flow)
    c.as_slice.ensures.value c.between.ensures c.in_ok-place.ensures in
    let below : c.in_ok-place.place < c.self.inside.drained = first_high c.self.inside.told c.self.inside.drained (c.in_ok-place.place, c.in_ok-place.flow) _ (live c.self.inside.line.items) low in
    record {
      rising = c.self.invariant.rising;
      below = c.self.invariant.below;
      forward = omega (arith, below);
      within = c.self.invariant.within;
      counted = c.self.invariant.counted;
      few = c.self.invariant.few;
      whole = c.self.invariant.whole;
    }

pub returns-clause-first : goal.returns-clause-first
returns-clause-first c =
    let low = lent_first c.self.inside.told c.self.inside.drained c.self.inside.line.items c.as_slice.result.now c.between.result.now (c.in_ok-place.place, c.in_ok-place.flow)
    c.as_slice.ensures.value c.between.ensures c.in_ok-place.ensures in
    rw (← c.self.view_is) (sym (ap (λ (es : Places). option_map (λ e. e.1) (slice_get es 0)) low))

pub returns-clause-rest : goal.returns-clause-rest
returns-clause-rest c =
    let low = lent_first c.self.inside.told c.self.inside.drained c.self.inside.line.items c.as_slice.result.now c.between.result.now (c.in_ok-place.place, c.in_ok-place.flow)
    c.as_slice.ensures.value c.between.ensures c.in_ok-place.ensures in
    let rest = between-rest c.self.inside.told c.self.inside.drained c.in_ok-place.place c.in_ok-place.flow _ (live c.self.inside.line.items)
    (live-rises c.self.inside.line.items c.self.invariant.rising) low in
    rw (← c.self.view_is) (λ i. record { above = c.self.inside.above; watchers = live c.self.inside.line.items; pending = rest i })

-- nobody is to be told
pub returns-in_err-place-clause-first : goal.returns-in_err-place-clause-first
returns-in_err-place-clause-first c =
    let none = lent_nobody c.self.inside.told c.self.inside.drained c.self.inside.line.items c.as_slice.result.now c.between.result.now
    c.as_slice.ensures.value c.between.ensures c.in_err-place.ensures in
    rw (← c.self.view_is) (c.from_residual.ensures ∙ sym (ap (λ (es : Places). option_map (λ e. e.1) (slice_get es 0)) none))

pub returns-in_err-place-clause-rest : goal.returns-in_err-place-clause-rest
returns-in_err-place-clause-rest c =
    let none = lent_nobody c.self.inside.told c.self.inside.drained c.self.inside.line.items c.as_slice.result.now c.between.result.now
    c.as_slice.ensures.value c.between.ensures c.in_err-place.ensures in
    let same = none ∙ sym (ap (λ (es : Places). drop 1 es) none) in
    rw (← c.self.view_is) (λ i. record { above = c.self.inside.above; watchers = live c.self.inside.line.items; pending = same i })

-- no place is left of those that are to be told
pub returns-then-self-clause-first : goal.returns-then-self-clause-first
returns-then-self-clause-first c =
    let none = between-none c.self.inside.told c.self.inside.drained (live c.self.inside.line.items) (omega (arith, c.if-self.true)) in
    rw (← c.self.view_is) (sym (ap (λ (es : Places). option_map (λ e. e.1) (slice_get es 0)) none))

pub returns-then-self-clause-rest : goal.returns-then-self-clause-rest
returns-then-self-clause-rest c =
    let none = between-none c.self.inside.told c.self.inside.drained (live c.self.inside.line.items) (omega (arith, c.if-self.true)) in
    let same = none ∙ sym (ap (λ (es : Places). drop 1 es) none) in
    rw (← c.self.view_is) (λ i. record { above = c.self.inside.above; watchers = live c.self.inside.line.items; pending = same i })
