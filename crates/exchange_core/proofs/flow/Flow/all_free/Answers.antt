use Rattle.exchange_core.proofs.Alone.{alone_empty, alone_found, alone_held, answered, asked, is_clear}
use Rattle.exchange_core.proofs.flow.Flow.all_free.Goals as goal
use Rattle.exchange_core.proofs.flow.Flow.all_free.Goals.{else-n-gt0-via-else-n-gt0, else-n-gt0-via-then-n-gt0+else-is_clear, in-None, in-Some}
use Rattle.exchange_core.specs.Flow.{last_place}
use Rattle.exchange_core.specs.Kept.{flow_of}
use Rattle.exchange_core.specs.Moves.{lets_go}
use Rattle.flow_rules.specs.declared.ids.BufferId.TheVariants as buffer
use Rattle.std.proofs.Common.{ap, arith, false, sym, true, ◌≡◌, ◌∙◌}
use Rattle.std.specs.Prelude.{min}

pub returns-then-is_clear-clause-place : goal.returns-then-is_clear-clause-place
returns-then-is_clear-clause-place c = rw (← c.self.view_is) (
    let alone : last_place (flow_of c.self.inside) ≡ 1 = rw (← c.self.view_is) at c.requires.alone in
    let lets : c.min-n.result ≡ lets_go (flow_of c.self.inside) 0 = c.min-n.ensures ∙ (λ i. min (c.self.invariant.quantum i) (c.len.ensures.len i)) in
    let target : c.match-to.target ≡ asked c.self.inside.chain.flow c.args.to = elim c.match-to.branch [
      | in-Some w ↦ w.target-is ∙ sym (ap (asked c.self.inside.chain.flow) w.in-Some.is)
      | in-None w ↦ w.target-is ∙ ap buffer.Send c.flow.ensures ∙ (cc)
    ] in
    let clear : is_clear c.args.gates.now c.self.inside.chain.flow (asked c.self.inside.chain.flow c.args.to) ≡ true =
    answered c.args.gates.now c.self.inside.chain.flow c.flow-then-n-gt0.result c.flow.result c.match-to.target (asked c.self.inside.chain.flow c.args.to) c.is_clear.result true
    c.is_clear.ensures c.flow-then-n-gt0.ensures c.flow.ensures target c.if-is_clear.true in
    sym (alone_found c.args.gates.now c.args.to (flow_of c.self.inside) alone c.self.invariant.sound.chain.order (rw (← lets) c.if-n-gt0.true) clear))

pub returns-else-n-gt0-clause-place : goal.returns-else-n-gt0-clause-place
returns-else-n-gt0-clause-place c = rw (← c.self.view_is) (
    let alone : last_place (flow_of c.self.inside) ≡ 1 = rw (← c.self.view_is) at c.requires.alone in
    let lets : c.min-n.result ≡ lets_go (flow_of c.self.inside) 0 = c.min-n.ensures ∙ (λ i. min (c.self.invariant.quantum i) (c.len.ensures.len i)) in
    let target : c.match-to.target ≡ asked c.self.inside.chain.flow c.args.to = elim c.match-to.branch [
      | in-Some w ↦ w.target-is ∙ sym (ap (asked c.self.inside.chain.flow) w.in-Some.is)
      | in-None w ↦ w.target-is ∙ ap buffer.Send c.flow.ensures ∙ (cc)
    ] in
    elim c.else-n-gt0.branch [
      | else-n-gt0-via-then-n-gt0+else-is_clear w ↦ sym (alone_held c.args.gates.now c.args.to (flow_of c.self.inside) alone c.self.invariant.sound.chain.order
          (answered c.args.gates.now c.self.inside.chain.flow w.flow-then-n-gt0.result c.flow.result c.match-to.target (asked c.self.inside.chain.flow c.args.to) w.is_clear.result false
          w.is_clear.ensures w.flow-then-n-gt0.ensures c.flow.ensures target w.if-is_clear.false))
      | else-n-gt0-via-else-n-gt0 w ↦ sym (alone_empty c.args.gates.now c.args.to (flow_of c.self.inside) alone c.self.invariant.sound.chain.order (sym lets ∙ omega (arith, w.if-n-gt0.false)))
    ])
