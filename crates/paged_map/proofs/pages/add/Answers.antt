use Rattle.paged_map.proofs.Directory.{insert_blank, inserted_at, ordered_insert}
use Rattle.number_set.specs.NumberMap.{IsAt, IsGap}
use Rattle.paged_map.proofs.pages.add.Goals as goal
use Rattle.paged_map.specs.Pages.{AreOrdered, entries_on}
use Rattle.std.proofs.Common.{ap, subst, sym, ◌∙◌}
use Rattle.std.specs.List.{insert}
use Rattle.std.specs.Prelude.{ℕ}

pub returns-in_ok-insert-in-Err-clause-place : goal.returns-in_ok-insert-in-Err-clause-place
returns-in_ok-insert-in-Err-clause-place g c =
    let gap = subst (IsGap c.args.index c.in-Err.place) c.as_slice.ensures.value c.in-Err.ensures in
    subst (IsAt c.args.index c.in-Err.place) (sym (c.in_ok-insert-in-Err.ensures.items ∙ ap (λ (k : ℕ). insert c.blank.new.pages.items c.in-Err.place (k, c.in_ok-page.page.1)) c.in_ok-page.ensures.index)) (inserted_at c.args.index c.in-Err.place c.in_ok-page.page.1 c.blank.new.pages.items gap)

pub returns-in_ok-insert-in-Err-clause-ordered : goal.returns-in_ok-insert-in-Err-clause-ordered
returns-in_ok-insert-in-Err-clause-ordered g c =
    let gap = subst (IsGap c.args.index c.in-Err.place) c.as_slice.ensures.value c.in-Err.ensures in
    subst AreOrdered (sym (c.in_ok-insert-in-Err.ensures.items ∙ ap (λ (k : ℕ). insert c.blank.new.pages.items c.in-Err.place (k, c.in_ok-page.page.1)) c.in_ok-page.ensures.index)) (ordered_insert c.args.index c.in-Err.place c.in_ok-page.page.1 c.blank.new.pages.items gap c.in_ok-page.ensures.ordered c.in_ok-page.ensures.long)

pub returns-in_ok-insert-in-Err-clause-same : goal.returns-in_ok-insert-in-Err-clause-same
returns-in_ok-insert-in-Err-clause-same g c =
    let gap = subst (IsGap c.args.index c.in-Err.place) c.as_slice.ensures.value c.in-Err.ensures in
    ap entries_on (c.in_ok-insert-in-Err.ensures.items ∙ ap (λ (k : ℕ). insert c.blank.new.pages.items c.in-Err.place (k, c.in_ok-page.page.1)) c.in_ok-page.ensures.index)
    ∙ insert_blank c.args.index c.in-Err.place c.in_ok-page.page.1 c.blank.new.pages.items c.in_ok-page.ensures.blank gap.within
    ∙ c.in_ok-page.ensures.same
