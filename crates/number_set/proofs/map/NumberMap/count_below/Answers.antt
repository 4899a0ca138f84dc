use Rattle.number_set.proofs.Entries.{below_point, parted}
use Rattle.number_set.proofs.map.NumberMap.count_below.Goals as goal
use Rattle.number_set.specs.NumberMap.{IsBelow}
use Rattle.std.proofs.Common.{arith, rules, subst}
use Rattle.std.proofs.lemmas.List.Sorted.{IsPartitionPoint-from_clause}
use Rattle.std.specs.Prelude.{nat_lt}

-- by halves
pub returns : goal.returns
returns g c =
    subst (λ es. IsBelow c.args.number c.partition_point.result es) c.self.view_is
    (below_point c.args.number c.partition_point.result c.self.inside.items.items (omega (arith, c.partition_point.ensures.bound, c.self.inside.items.ok.0))
    (IsPartitionPoint-from_clause (λ e. nat_lt e.0 c.args.number) _ _ c.partition_point.ensures.partitioned
    (parted c.args.number c.self.inside.items.items c.self.invariant) (λ a r q k. search rules)))
