use Rattle.flow_gate.proofs.Rising.{before_at, before_end, before_none, before_point, parted}
use Rattle.flow_gate.proofs.stands.count_before.Goals as goal
use Rattle.flow_gate.proofs.stands.count_before.Goals.{then-len-eq0-via-then-len-eq0, then-len-eq0-via-else-len-eq0+then-stands-len}
use Rattle.std.proofs.Common.{arith, rules}
use Rattle.std.proofs.lemmas.List.Sorted.{IsPartitionPoint-from_clause}
use Rattle.std.specs.Prelude.{None, nat_lt}

-- all
pub returns-then-len-eq0 : goal.returns-then-len-eq0
returns-then-len-eq0 c = elim c.then-len-eq0.branch [
  | then-len-eq0-via-then-len-eq0 w ↦ before_none c.args.place c.args.stands.now w.if-len-eq0.true
  | then-len-eq0-via-else-len-eq0+then-stands-len w ↦
      before_end c.args.place c.args.stands.now (record { place = 0; flow = None }) c.requires (omega (arith, w.if-len-eq0.false)) w.if-stands-len.true
]

-- where no gap went
pub returns-then-stands-steps : goal.returns-then-stands-steps
returns-then-stands-steps c = before_at c.args.place c.saturating_sub-steps.result c.args.stands.now (record { place = 0; flow = None }) c.requires c.if-steps-len.true c.if-stands-steps.true

-- by halves
pub returns : goal.returns
returns c = before_point _ _ _ c.partition_point.ensures.bound
    (IsPartitionPoint-from_clause (λ s. nat_lt s.place c.args.place) _ _ c.partition_point.ensures.partitioned (parted c.args.place _ c.requires) (λ a r q k. search rules))
