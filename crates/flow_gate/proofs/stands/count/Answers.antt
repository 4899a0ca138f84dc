use Rattle.flow_gate.proofs.Full.{few_taken}
use Rattle.flow_gate.proofs.Parts.{one_passed}
use Rattle.flow_gate.proofs.stands.count.Goals as goal
use Rattle.flow_gate.proofs.stands.count.Goals.{else-is_some, then-is_some}
use Rattle.flow_gate.specs.Line.{live}
use Rattle.std.proofs.Common.{ap, arith, refl}
use Rattle.std.specs.Prelude.{cond, is_some, length, slice_index_or, take, None, ℕ, ◌+◌, ◌≡◌}

pub loop-stand-preserved : goal.loop-stand-preserved
loop-stand-preserved c =
    let so_far : c.loop-stand.flows ≡ length (live (take c.loop-stand.stand-index c.args.stands.now)) = c.loop-stand.invariant in
    let test = is_some (slice_index_or c.args.stands.now c.loop-stand.stand-index (record { place = 0; flow = None })).flow in
    let more = one_passed c.loop-stand.stand-index (cond test 1 0 + length (live (take c.loop-stand.stand-index c.args.stands.now))) (cond test 1 0) 0 c.args.stands.now (record { place = 0; flow = None })
    c.loop-stand-test.true refl (omega arith) in
    let same : ◌≡◌ {A = ℕ} (cond c.is_some.result 1 0) (cond test 1 0) = ap {B = ℕ} (λ b. cond b 1 0) c.is_some.ensures in
    elim c.if-is_some.branch [
      | then-is_some w ↦
          let one : ◌≡◌ {A = ℕ} (cond c.is_some.result 1 0) 1 = ap {B = ℕ} (λ b. cond b 1 0) w.if-is_some.true in
          omega (arith, so_far, more, same, one, w.flows-is)
      | else-is_some w ↦
          let none : ◌≡◌ {A = ℕ} (cond c.is_some.result 1 0) 0 = ap {B = ℕ} (λ b. cond b 1 0) w.if-is_some.false in
          omega (arith, so_far, more, same, none, w.flows-is)
    ]

pub overflow_add-flows : goal.overflow_add-flows
overflow_add-flows c =
    let so_far : c.loop-stand.flows ≡ length (live (take c.loop-stand.stand-index c.args.stands.now)) = c.loop-stand.invariant in
    let few = few_taken c.loop-stand.stand-index c.args.stands.now in
    omega (arith, so_far, few, c.loop-stand-test.true, c.loop-stand.end-fits)
