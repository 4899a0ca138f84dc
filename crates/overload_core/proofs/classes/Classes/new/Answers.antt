use Rattle.std.proofs.Common.{ℕ, sym, ap, subst, refl}
use Rattle.std.specs.Prelude.{List}
use Rattle.std.specs.Map.{lookup}
use Rattle.std.specs.BTreeMap.{get, is_at}
use Rattle.std.specs.Ordering.{nat_cmp}
use Rattle.link_lists.specs.Lists.{NodeLists}
use Rattle.overload_core.specs.Tied.{Placed, Kept}
use Rattle.overload_core.proofs.Tying.{tied-empty}
use Rattle.overload_core.proofs.classes.Classes.new.Goals as goal

pub invariant_of-result : goal.invariant_of-result
invariant_of-result c =
    let find = get nat_cmp c.new-2.result in
    subst (λ (s : NodeLists ℕ). Kept c.args.start find s.lists) (sym c.in_ok-new.ensures) (record {
      low = c.requires;
      eight = refl;
      tied = tied-empty find 8 (λ q. ap (λ (es : List Placed). lookup (is_at (nat_cmp q)) es) c.new-2.ensures.empty);
    })
