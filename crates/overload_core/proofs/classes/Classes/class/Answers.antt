use Rattle.std.proofs.Common.{sym, ap, ◌∙◌}
use Rattle.std.specs.BTreeMap.{get}
use Rattle.std.specs.Ordering.{nat_cmp}
use Rattle.overload_core.specs.Accounts.{Accounts, class_in}
use Rattle.overload_core.proofs.Viewing.{class_at}
use Rattle.overload_core.proofs.Tying.{class-is}
use Rattle.overload_core.proofs.classes.Classes.class.Goals as goal

pub returns-in-Some : goal.returns-in-Some
returns-in-Some c = ap class_at c.in-Some.ensures.value ∙ sym (class-is (get nat_cmp c.self.inside.standings) c.self.inside.lists.lists c.self.invariant.tied c.args.exchange) ∙ ap (λ (a : Accounts). class_in c.args.exchange a.classes) c.self.view_is

pub returns-in-None : goal.returns-in-None
returns-in-None c = ap class_at c.in-None.ensures.value ∙ sym (class-is (get nat_cmp c.self.inside.standings) c.self.inside.lists.lists c.self.invariant.tied c.args.exchange) ∙ ap (λ (a : Accounts). class_in c.args.exchange a.classes) c.self.view_is
