use Rattle.std.proofs.Common.{ℕ, List, ◌≡◌, false, true, sym, ap, ◌∙◌, rules}
use Rattle.std.specs.Prelude.{Some, is_some}
use Rattle.std.specs.BTreeMap.{get}
use Rattle.std.specs.Ordering.{nat_cmp}
use Rattle.link_lists.specs.Lists.{NodeLists}
use Rattle.overload_core.specs.declared.classes.Standing.{Standing}
use Rattle.overload_core.specs.Accounts.{Accounts, class_in, entered}
use Rattle.overload_core.specs.Tied.{classes_of}
use Rattle.overload_core.proofs.Tying.{nowhere, sets, kept-entered, classes-enter}
use Rattle.overload_core.proofs.classes.Classes.enter.Goals as goal

pub unreachable-requires : goal.unreachable-requires
unreachable-requires g c =
    let none = nowhere (get nat_cmp c.self.inside.standings) c.self.inside.lists.lists c.self.invariant.tied c.args.exchange (ap (λ (a : Accounts). class_in c.args.exchange a.classes) c.self.view_is ∙ c.requires.absent) in
    let there = (rw c.in_default.is at c.in_ok-entry.ensures.found).0 in
    let clash : false ≡ true = sym (ap is_some none) ∙ there in absurd (cc)

pub invariant_of-self-2 : goal.invariant_of-self-2
invariant_of-self-2 g c =
    let old = get nat_cmp c.self.inside.standings in let w : Standing = record { node = c.in-Ok.node; class = c.args.class } in
    kept-entered c.self.inside.start old c.self.inside.lists.lists c.self.invariant c.args.exchange c.in-Ok.node c.args.class
    (ap (λ (a : Accounts). class_in c.args.exchange a.classes) c.self.view_is ∙ c.requires.absent) c.in-Ok.ensures.fresh.0 c.requires.class.0 c.requires.class.1
    _ (sets old _ c.args.exchange (Some w) (search rules)) c.insert_back.new.self.lists (ap (λ (s : NodeLists ℕ). s.lists) c.in-Ok.ensures.ok)

pub returns-clause-ok : goal.returns-clause-ok
returns-clause-ok g c =
    let seen : List (List ℕ) → Accounts = λ cs. record { start = c.self.inside.start; classes = cs } in
    ap (λ (s : NodeLists ℕ). seen (classes_of s.lists)) c.in-Ok.ensures.ok
    ∙ ap seen (classes-enter c.args.class c.args.exchange c.in-Ok.node c.self.inside.lists.lists c.requires.class.0)
    ∙ ap (λ (a : Accounts). record a { classes = entered c.args.class c.args.exchange a.classes }) c.self.view_is
