use Rattle.number_set.proofs.Entries.{below_point, is_end, is_gap, is_there, parted}
use Rattle.number_set.specs.NumberMap.{IsBelow}
use Rattle.paged_map.proofs.pages.by_halves.Goals as goal
use Rattle.std.proofs.Common.{rules, sym, ◌∙◌}
use Rattle.std.proofs.lemmas.List.Sorted.{IsPartitionPoint-from_clause}
use Rattle.std.specs.Prelude.{nat_lt}

pub returns-then-index : goal.returns-then-index
returns-then-index g c =
    let below : IsBelow c.args.index c.partition_point-place.result c.args.pages.now =
    below_point c.args.index c.partition_point-place.result c.args.pages.now c.partition_point-place.ensures.bound
    (IsPartitionPoint-from_clause (λ e. nat_lt e.0 c.args.index) _ _ c.partition_point-place.ensures.partitioned
    (parted c.args.index c.args.pages.now c.requires) (λ a r q k. search rules)) in
    let item = c.in-Some.ensures.lookup in
    is_there c.args.index c.partition_point-place.result c.in-Some.page.now c.args.pages.now below item.3.0 item.1 (sym c.index.ensures ∙ c.if-index.true)

pub returns-else-index : goal.returns-else-index
returns-else-index g c =
    let below : IsBelow c.args.index c.partition_point-place.result c.args.pages.now =
    below_point c.args.index c.partition_point-place.result c.args.pages.now c.partition_point-place.ensures.bound
    (IsPartitionPoint-from_clause (λ e. nat_lt e.0 c.args.index) _ _ c.partition_point-place.ensures.partitioned
    (parted c.args.index c.args.pages.now c.requires) (λ a r q k. search rules)) in
    let item = c.in-Some.ensures.lookup in
    is_gap c.args.index c.partition_point-place.result c.in-Some.page.now c.args.pages.now below c.requires item.3.0 item.1 (λ same. c.if-index.false (c.index.ensures ∙ same))

pub returns-in-None : goal.returns-in-None
returns-in-None g c =
    let below : IsBelow c.args.index c.partition_point-place.result c.args.pages.now =
    below_point c.args.index c.partition_point-place.result c.args.pages.now c.partition_point-place.ensures.bound
    (IsPartitionPoint-from_clause (λ e. nat_lt e.0 c.args.index) _ _ c.partition_point-place.ensures.partitioned
    (parted c.args.index c.args.pages.now c.requires) (λ a r q k. search rules)) in
    is_end c.args.index c.partition_point-place.result c.args.pages.now below c.in-None.ensures.lookup.3
