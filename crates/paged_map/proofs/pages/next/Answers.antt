use Rattle.number_set.specs.NumberSet.{first}
use Rattle.paged_map.proofs.Following.{first_behind, first_here, next_at, next_gap}
use Rattle.paged_map.proofs.pages.next.Goals as goal
use Rattle.paged_map.specs.Pages.{entries_from, entries_on}
use Rattle.std.proofs.Common.{ap, sym, ◌∙◌}
use Rattle.std.proofs.lemmas.List.{take_rest}
use Rattle.std.specs.Map.{keys_of}
use Rattle.std.specs.Prelude.{drop, is_some, ◌%◌, ◌*◌, ◌+◌}

pub returns-then-is_some : goal.returns-then-is_some
returns-then-is_some g c =
    let page = c.index-pages-place.result in
    c.first_from-above.ensures
    ∙ sym (first_here (entries_from (page.0 * 16 + (c.args.after % 16 + 1)) (drop (c.args.after % 16 + 1) page.1)) (entries_on (drop (c.in-Ok.place + 1) c.args.pages.now)) (sym (ap is_some c.first_from-above.ensures) ∙ sym c.is_some.ensures ∙ c.if-is_some.true))
    ∙ sym (next_at c.args.after c.in-Ok.place page c.args.pages.now c.in-Ok.ensures c.requires c.index-pages-place.is)

pub returns-else-is_some : goal.returns-else-is_some
returns-else-is_some g c =
    let page = c.index-pages-place.result in
    c.first_on.ensures ∙ ap (λ l. first (keys_of (entries_on l))) (take_rest c.args.pages.now (c.in-Ok.place + 1))
    ∙ sym (first_behind (entries_from (page.0 * 16 + (c.args.after % 16 + 1)) (drop (c.args.after % 16 + 1) page.1)) (entries_on (drop (c.in-Ok.place + 1) c.args.pages.now)) (sym (ap is_some c.first_from-above.ensures) ∙ sym c.is_some.ensures ∙ c.if-is_some.false))
    ∙ sym (next_at c.args.after c.in-Ok.place page c.args.pages.now c.in-Ok.ensures c.requires c.index-pages-place.is)

pub returns-in-Err : goal.returns-in-Err
returns-in-Err g c = c.first_on-in-Err.ensures ∙ ap (λ l. first (keys_of (entries_on l))) (take_rest c.args.pages.now c.in-Err.place) ∙ sym (next_gap c.args.after c.in-Err.place c.args.pages.now c.in-Err.ensures c.requires)
