use Rattle.flow_gate.proofs.Full.{AreTaken, all_taken, count_taken, few_taken, part_taken}
use Rattle.flow_gate.proofs.Parts.{high, rest_from, rest_none}
use Rattle.flow_gate.proofs.stands.place_of.Goals as goal
use Rattle.flow_gate.proofs.stands.place_of.Goals.{Then-n-part}
use Rattle.flow_gate.specs.Line.{is_between}
use Rattle.std.proofs.Common.{arith, subst, sym}
use Rattle.std.specs.Prelude.{None}

-- a flow stands on each stand of the part
taken : (c : Then-n-part) → AreTaken c.between-part.result.now
taken c = subst AreTaken (sym c.between-part.ensures) (part_taken (λ s. is_between c.args.from c.args.to s.place) c.args.stands.now (all_taken c.args.stands.now c.requires.full))

pub returns-then-n-part-clause-rest : goal.returns-then-n-part-clause-rest
returns-then-n-part-clause-rest c =
    rest_from c.args.from c.args.to c.args.n c.args.stands.now c.between-part.result.now c.between-part.ensures c.args.n (record { place = 0; flow = None }) c.requires.rising
    c.if-n-part.true (count_taken c.args.n c.between-part.result.now (taken c) (omega (arith, c.if-n-part.true)))

pub returns-then-n-part-clause-forward : goal.returns-then-n-part-clause-forward
returns-then-n-part-clause-forward c =
    let below = high c.args.from c.args.to c.args.n c.args.stands.now c.between-part.result.now c.between-part.ensures c.args.n (record { place = 0; flow = None }) c.if-n-part.true in
    omega (arith, below)

pub returns-else-n-part-clause-rest : goal.returns-else-n-part-clause-rest
returns-else-n-part-clause-rest c =
    rest_none c.args.from c.args.to c.args.n c.args.stands.now c.between-part.result.now c.between-part.ensures c.args.n
    (omega (arith, c.if-n-part.false)) (few_taken c.args.n c.between-part.result.now)
