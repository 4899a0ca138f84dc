use Rattle.std.proofs.Common.{◌≤◌, ◌-◌, ◌∙◌, sum_by, arith, ap, sym}
use Rattle.std.proofs.lemmas.List.Sums.{sum_by-cons}
use Rattle.hpack_codec.specs.Table.{line_size}
use Rattle.hpack_codec.proofs.Kept.{kept_none, kept_zero, kept_fits, same_table}
use Rattle.hpack_codec.proofs.table.DynamicTable.insert.Goals as goal

pub returns-then-size-limit : goal.returns-then-size-limit
returns-then-size-limit c =
    let old = c.args.self.now in
    let is = ap (λ t. t.size) c.self.view_is in
    same_table _ _ (c.evict.ensures.lines ∙ kept_zero old.lines ∙ sym (kept_none old.size c.args.newest old.lines (omega arith))) c.evict.ensures.size

pub invariant_of-self-2 : goal.invariant_of-self-2
invariant_of-self-2 c =
    let old = c.args.self.now in
    let size = line_size c.args.newest in
    let is = ap (λ t. t.size) c.self.view_is in
    let later = ap (λ t. t.size) c.self-2.view_is in
    let same = c.evict-2.ensures.size in
    let inv = c.self-2.invariant in
    let fits : sum_by line_size c.self-2.inside.lines.items ≤ c.self.inside.limit - c.counted_size-size.result =
    omega (arith, ap (λ t. sum_by line_size t.lines) c.self-2.view_is, ap (sum_by line_size) c.evict-2.ensures.lines, kept_fits (c.self.inside.limit - c.counted_size-size.result) old.lines) in
    let sum = ap (sum_by line_size) c.in_ok-push_front.ensures.items ∙ sum_by-cons line_size c.args.newest c.self-2.inside.lines.items in
    (omega arith, omega arith)
