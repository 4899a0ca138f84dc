use Rattle.std.proofs.Common.{sym, ap, ◌∙◌, subst, arith}
use Rattle.link_lists.specs.Lists.{NodeLists}
use Rattle.scaled_timer.specs.declared.timers.Entry.{Entry}
use Rattle.scaled_timer.specs.Entries.{armed_of, Kept}
use Rattle.scaled_timer.proofs.Listed.{armed-empty, Kept-empty}
use Rattle.scaled_timer.proofs.timers.Timers.new.Goals as goal

pub invariant_of-result : goal.invariant_of-result
invariant_of-result c =
    subst (λ (s : NodeLists Entry). Kept c.in_ok-kinds.kinds.len 0 0 0 0 s.lists) (sym c.in_ok-lists.ensures)
    (Kept-empty c.in_ok-kinds.kinds.len c.len.result c.len.ensures (let l = c.in_ok-kinds.ensures.len in let q = c.requires in omega (arith, l, q)))

pub returns : goal.returns
returns c =
    let kinds = c.in_ok-kinds.ensures.items in let armed = ap (λ (s : NodeLists Entry). armed_of s.lists) c.in_ok-lists.ensures ∙ armed-empty c.len.result in let fired = ap (λ (s : NodeLists Entry). s.retired) c.in_ok-lists.ensures in
    λ j. record { kinds = kinds j; state = 0; latest = 0; armed = armed j; fired = fired j }
