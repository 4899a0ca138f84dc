use Rattle.flow_gate.proofs.Parts.{high, one_passed, rest_from, rest_none}
use Rattle.flow_gate.proofs.stands.place_after.Goals as goal
use Rattle.flow_gate.proofs.stands.place_after.Goals.{Joined-is_some, else-is_some, then-is_some}
use Rattle.std.proofs.Common.{ap, arith, sym, ◌∙◌}
use Rattle.std.specs.Prelude.{None, cond, ℕ, ◌+◌, ◌≡◌}

-- what is left is one less where a flow stands
passed : (c : Joined-is_some) → cond c.is_some.result 1 0 + c.if-is_some.left ≡ c.loop-stand.left
passed c = elim c.if-is_some.branch [
  | then-is_some w ↦
      let one : ◌≡◌ {A = ℕ} (cond c.is_some.result 1 0) 1 = ap {B = ℕ} (λ b. cond b 1 0) w.if-is_some.true in
      omega (arith, one, w.left-is, c.if-left-eq0.false)
  | else-is_some w ↦
      let none : ◌≡◌ {A = ℕ} (cond c.is_some.result 1 0) 0 = ap {B = ℕ} (λ b. cond b 1 0) w.if-is_some.false in
      omega (arith, none, w.left-is)
]

pub loop-stand-preserved : goal.loop-stand-preserved
loop-stand-preserved c =
    one_passed c.loop-stand.stand-index c.args.n c.loop-stand.left c.if-is_some.left c.between-stand-items.result.now (record { place = 0; flow = None }) c.loop-stand-test.true
    c.loop-stand.invariant (ap {B = ℕ} (λ b. cond b 1 0 + c.if-is_some.left) (sym c.is_some.ensures) ∙ passed c)

pub returns-then-left-eq0-clause-rest : goal.returns-then-left-eq0-clause-rest
returns-then-left-eq0-clause-rest c =
    rest_from c.args.from c.args.to c.args.n c.args.stands.now c.between-stand-items.result.now c.between-stand-items.ensures c.loop-stand.stand-index _ c.requires.rising
    c.loop-stand-test.true (omega (arith, c.loop-stand.invariant, c.if-left-eq0.true))

pub returns-then-left-eq0-clause-forward : goal.returns-then-left-eq0-clause-forward
returns-then-left-eq0-clause-forward c =
    let below = high c.args.from c.args.to c.args.n c.args.stands.now c.between-stand-items.result.now c.between-stand-items.ensures c.loop-stand.stand-index (record { place = 0; flow = None })
    c.loop-stand-test.true in omega (arith, below)

pub returns-clause-rest : goal.returns-clause-rest
returns-clause-rest c =
    rest_none c.args.from c.args.to c.args.n c.args.stands.now c.between-stand-items.result.now c.between-stand-items.ensures c.loop-stand.stand-index
    c.loop-stand-test.false (omega (arith, c.loop-stand.invariant))
