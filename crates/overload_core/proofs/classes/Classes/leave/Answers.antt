use Rattle.std.proofs.Common.{ℕ, List, sym, ap, ◌∙◌, subst}
use Rattle.std.specs.Prelude.{None}
use Rattle.std.specs.BTreeMap.{get}
use Rattle.std.specs.Ordering.{nat_cmp}
use Rattle.link_lists.specs.Lists.{NodeLists}
use Rattle.link_lists.proofs.Facts.{length-pull_from}
use Rattle.overload_core.specs.Accounts.{Accounts, without}
use Rattle.overload_core.specs.Tied.{classes_of, Kept}
use Rattle.overload_core.proofs.Tying.{leaves, sets, without-none}
use Rattle.overload_core.proofs.classes.Classes.leave.Goals as goal

pub remove-requires-in-Some : goal.remove-requires-in-Some
remove-requires-in-Some g c = (leaves (get nat_cmp c.self.inside.standings) c.self.inside.lists.lists c.self.invariant.tied c.args.exchange c.in-Some.standing (sym c.in-Some.ensures.value)).there

pub invariant_of-self : goal.invariant_of-self
invariant_of-self g c =
    let old = get nat_cmp c.self.inside.standings in let new = get nat_cmp c.remove.new.self in
    let L = leaves old c.self.inside.lists.lists c.self.invariant.tied c.args.exchange c.in-Some.standing (sym c.in-Some.ensures.value) in
    subst (λ (s : NodeLists ℕ). Kept c.self.inside.start new s.lists) (sym c.remove-in-Some.ensures.left) (record {
      low = c.self.invariant.low;
      eight = length-pull_from c.in-Some.standing.node c.self.inside.lists.lists ∙ c.self.invariant.eight;
      tied = L.tied new (sets old new c.args.exchange None c.in-Some.ensures.updates.0);
    })

pub returns-in-Some-clause-left : goal.returns-in-Some-clause-left
returns-in-Some-clause-left g c =
    let L = leaves (get nat_cmp c.self.inside.standings) c.self.inside.lists.lists c.self.invariant.tied c.args.exchange c.in-Some.standing (sym c.in-Some.ensures.value) in
    let seen : List (List ℕ) → Accounts = λ cs. record { start = c.self.inside.start; classes = cs } in
    ap (λ (s : NodeLists ℕ). seen (classes_of s.lists)) c.remove-in-Some.ensures.left ∙ ap seen L.left ∙ ap (λ (a : Accounts). record a { classes = without c.args.exchange a.classes }) c.self.view_is

pub returns-in_default-clause-left : goal.returns-in_default-clause-left
returns-in_default-clause-left g c =
    let seen : List (List ℕ) → Accounts = λ cs. record { start = c.self.inside.start; classes = cs } in
    ap seen (sym (without-none (get nat_cmp c.self.inside.standings) c.self.inside.lists.lists c.self.invariant.tied c.args.exchange (sym c.remove.ensures.value ∙ c.in_default.is)))
    ∙ ap (λ (a : Accounts). record a { classes = without c.args.exchange a.classes }) c.self.view_is
