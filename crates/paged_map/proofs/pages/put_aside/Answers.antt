use Rattle.paged_map.proofs.Directory.{ordered_remove, read_or, remove_blank, stands}
use Rattle.paged_map.proofs.pages.put_aside.Goals as goal
use Rattle.paged_map.specs.Pages.{AreOrdered, entries_on}
use Rattle.std.proofs.Common.{ap, subst, sym, ◌∙◌}
use Rattle.std.specs.Prelude.{List, Option, [], count_by, is_some, ℕ}

-- the page that goes is the one that is said to be blank
pub keep-requires : goal.keep-requires
keep-requires g c =
    ap (λ (page : ℕ × List (Option g.row.V.Denot)). count_by is_some page.1) (read_or c.args.place c.remove.result (0, []) c.args.pages.now.items c.requires.place c.remove.ensures.value)
    ∙ c.requires.blank

pub returns-clause-ordered : goal.returns-clause-ordered
returns-clause-ordered g c =
    subst AreOrdered (sym c.remove.ensures.items)
    (ordered_remove c.remove.result.0 c.args.place c.args.pages.now.items (stands c.args.place c.remove.result c.args.pages.now.items c.requires.ordered.order c.requires.place c.remove.ensures.value) c.requires.ordered)

pub returns-clause-same : goal.returns-clause-same
returns-clause-same g c =
    ap entries_on c.remove.ensures.items
    ∙ remove_blank c.args.place c.remove.result c.args.pages.now.items c.requires.place c.remove.ensures.value
    (ap (λ (page : ℕ × List (Option g.row.V.Denot)). count_by is_some page.1) (read_or c.args.place c.remove.result (0, []) c.args.pages.now.items c.requires.place c.remove.ensures.value)
    ∙ c.requires.blank)
