use Rattle.number_set.specs.NumberMap.{IsAt}
use Rattle.paged_map.proofs.Directory.{found}
use Rattle.paged_map.proofs.map.PagedMap.get.Goals as goal
use Rattle.paged_map.specs.PagedMap.{value_at}
use Rattle.std.proofs.Common.{ap, subst, sym, ◌∙◌}
use Rattle.std.specs.Prelude.{◌/◌}

pub returns-in-Some : goal.returns-in-Some
returns-in-Some g c =
    let at = subst (IsAt (c.number-number.result / 16) c.in-Some.place) c.as_slice.ensures.value c.in-Some.ensures in
    record {
      value = c.get.ensures
          ∙ sym (found c.number-number.result c.in-Some.place c.index.result.now c.self.inside.pages.items c.self.invariant.0.pages at c.index.ensures)
          ∙ ap (value_at c.number-number.result) c.self.view_is
          ∙ ap (λ n. value_at n c.args.self.now) c.number-number.ensures.number;
    }
