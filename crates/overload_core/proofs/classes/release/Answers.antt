use Rattle.std.proofs.Common.{ℕ, sym, subst}
use Rattle.std.specs.Prelude.{None}
use Rattle.std.specs.BTreeMap.{get}
use Rattle.std.specs.Ordering.{nat_cmp}
use Rattle.link_lists.specs.Lists.{NodeLists}
use Rattle.overload_core.specs.Tied.{Tied}
use Rattle.overload_core.proofs.Tying.{leaves, sets}
use Rattle.overload_core.proofs.classes.release.Goals as goal

pub remove-requires : goal.remove-requires
remove-requires g c = (leaves (get nat_cmp c.loop-standing.standings) c.loop-standing.lists.lists c.loop-standing.invariant c.in-Some.field-0-0 c.in-Some.standing c.in-Some.ensures.value).there

pub loop-standing-preserved : goal.loop-standing-preserved
loop-standing-preserved g c =
    let old = get nat_cmp c.loop-standing.standings in let new = get nat_cmp c.pop_first.new.self in
    let L = leaves old c.loop-standing.lists.lists c.loop-standing.invariant c.in-Some.field-0-0 c.in-Some.standing c.in-Some.ensures.value in
    subst (λ (s : NodeLists ℕ). Tied new s.lists) (sym c.remove.ensures.left) (L.tied new (sets old new c.in-Some.field-0-0 None c.in-Some.ensures.updates.0))
