use Rattle.number_set.specs.NumberMap.{IsAt, IsGap}
use Rattle.paged_map.proofs.Directory.{found, not_found}
use Rattle.paged_map.proofs.map.PagedMap.get_far.Goals as goal
use Rattle.paged_map.specs.PagedMap.{value_at}
use Rattle.std.proofs.Common.{ap, subst, sym, ◌∙◌}
use Rattle.std.specs.Prelude.{◌/◌}

pub returns-in-Ok : goal.returns-in-Ok
returns-in-Ok g c =
    let at = subst (IsAt (c.number-number.result / 16) c.in-Ok.place) c.as_slice.ensures.value c.in-Ok.ensures in
    record {
      value = c.get.ensures
          ∙ sym (found c.number-number.result c.in-Ok.place c.index.result.now c.self.inside.pages.items c.self.invariant.0.pages at c.index.ensures)
          ∙ ap (value_at c.number-number.result) c.self.view_is
          ∙ ap (λ n. value_at n c.args.self.now) c.number-number.ensures.number;
    }

pub returns-in-Err : goal.returns-in-Err
returns-in-Err g c =
    let gap = subst (IsGap (c.number-number.result / 16) c.in-Err.field-0) c.as_slice.ensures.value c.in-Err.ensures in
    record {
      value = sym (not_found c.number-number.result c.in-Err.field-0 c.self.inside.pages.items c.self.invariant.0.pages gap)
          ∙ ap (value_at c.number-number.result) c.self.view_is
          ∙ ap (λ n. value_at n c.args.self.now) c.number-number.ensures.number;
    }
