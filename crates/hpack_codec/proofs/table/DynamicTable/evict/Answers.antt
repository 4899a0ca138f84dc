use Rattle.std.proofs.Common.{◌≡◌, ◌<◌, ◌∙◌, ◌++◌, [], ◌∷◌, sum_by, arith, ap, sym}
use Rattle.hpack_codec.specs.Table.{kept, line_size}
use Rattle.hpack_codec.proofs.Kept.{kept_without, kept_all, last_counts}
use Rattle.hpack_codec.proofs.table.DynamicTable.evict.Goals as goal

pub evict-preserved : goal.evict-preserved
evict-preserved c =
    let others = c.take_oldest.new.lines.items in
    let oldest = c.in-Some.oldest in
    let all : c.evict.self-inside.lines.items ≡ others ++ (oldest ∷ []) = c.in-Some.ensures.items in
    let sum = ap (sum_by line_size) all ∙ last_counts others oldest in
    let inv = c.evict.invariant in
    let over : c.args.room < sum_by line_size (others ++ (oldest ∷ [])) = omega (arith, ap (sum_by line_size) all) in
    record {
      same = sym (kept_without c.args.room others oldest over) ∙ sym (ap (kept c.args.room) all) ∙ inv.same;
      counted = omega arith;
      within = omega arith;
      limit = inv.limit;
    }

pub returns-after-evict-clause-lines : goal.returns-after-evict-clause-lines
returns-after-evict-clause-lines c =
    sym (kept_all c.args.room c.evict.self-inside.lines.items (omega arith)) ∙ c.evict.invariant.same ∙ ap (λ t. kept c.args.room t.lines) c.self.view_is

pub returns-in_default-clause-lines : goal.returns-in_default-clause-lines
returns-in_default-clause-lines c =
    let none = c.in_default.ensures.none in
    none.1 ∙ sym (ap (kept c.args.room) none.0) ∙ c.evict.invariant.same ∙ ap (λ t. kept c.args.room t.lines) c.self.view_is
