use Rattle.std.proofs.Common.{ℕ, List, ◌≡◌, ◌-◌, sym, ap, ◌∙◌, subst, rules, arith}
use Rattle.std.specs.Prelude.{Some, MatchOption}
use Rattle.std.specs.Option.{option_copied_mut}
use Rattle.std.specs.BTreeMap.{get}
use Rattle.std.specs.Ordering.{nat_cmp}
use Rattle.link_lists.specs.Lists.{NodeLists, push_at, pull_from}
use Rattle.link_lists.proofs.Facts.{length-pull_from, length-push_at}
use Rattle.overload_core.specs.declared.classes.Standing.{Standing}
use Rattle.overload_core.specs.Accounts.{Accounts, class_in, entered, without}
use Rattle.overload_core.specs.Tied.{classes_of, Kept}
use Rattle.overload_core.proofs.Viewing.{class_at}
use Rattle.overload_core.proofs.Tying.{class-is, leaves, sets, shifts, classes-shift}
use Rattle.overload_core.proofs.classes.Classes.shift.Goals as goal

pub unreachable-requires : goal.unreachable-requires
unreachable-requires g c =
    let none = sym c.get_mut.ensures.value ∙ ap option_copied_mut c.in_default.is in
    let z = sym (ap (λ (a : Accounts). class_in c.args.exchange a.classes) c.self.view_is) ∙ class-is (get nat_cmp c.self.inside.standings) c.self.inside.lists.lists c.self.invariant.tied c.args.exchange ∙ ap class_at none in
    let there = c.requires.there in omega (arith, z, there)

pub move_back-requires-clause-node : goal.move_back-requires-clause-node
move_back-requires-clause-node g c = (leaves (get nat_cmp c.self.inside.standings) c.self.inside.lists.lists c.self.invariant.tied c.args.exchange c.in-Some.standing.now (sym c.in-Some.ensures.value)).there

pub invariant_of-self : goal.invariant_of-self
invariant_of-self g c =
    let old = get nat_cmp c.self.inside.standings in let ls = c.self.inside.lists.lists in let s = c.in-Some.standing.now in
    let w : Standing = record { node = s.node; class = c.args.class } in
    let new = get nat_cmp (c.get_mut.follows.lender w) in
    let h = sym c.in-Some.ensures.value in
    let L = leaves old ls c.self.invariant.tied c.args.exchange s h in
    let moved = subst (λ o. MatchOption o ⊥ (λ v. c.move_back.new.self ≡ record c.self.inside.lists { lists = push_at (c.args.class - 1) (s.node, v) (pull_from s.node ls) })) L.value c.move_back.ensures.moved in
    let m = c.requires.class.1 in let eight = c.self.invariant.eight in
    subst (λ (t : NodeLists ℕ). Kept c.self.inside.start new t.lists) (sym moved) (record {
      low = c.self.invariant.low;
      eight = length-push_at (c.args.class - 1) (s.node, c.args.exchange) (pull_from s.node ls) ∙ length-pull_from s.node ls ∙ eight;
      tied = shifts old ls c.self.invariant.tied c.args.exchange s h c.args.class c.requires.class.0 (omega (arith, m, eight)) new (sets old new c.args.exchange (Some w) ((c.get_mut.follows.holds w).3 (search rules)).0);
    })

pub returns-clause-moved : goal.returns-clause-moved
returns-clause-moved g c =
    let old = get nat_cmp c.self.inside.standings in let ls = c.self.inside.lists.lists in let s = c.in-Some.standing.now in
    let h = sym c.in-Some.ensures.value in
    let L = leaves old ls c.self.invariant.tied c.args.exchange s h in
    let moved = subst (λ o. MatchOption o ⊥ (λ v. c.move_back.new.self ≡ record c.self.inside.lists { lists = push_at (c.args.class - 1) (s.node, v) (pull_from s.node ls) })) L.value c.move_back.ensures.moved in
    let m = c.requires.class.1 in let eight = c.self.invariant.eight in
    let seen : List (List ℕ) → Accounts = λ cs. record { start = c.self.inside.start; classes = cs } in
    ap (λ (t : NodeLists ℕ). seen (classes_of t.lists)) moved
    ∙ ap seen (classes-shift old ls c.self.invariant.tied c.args.exchange s h c.args.class c.requires.class.0 (omega (arith, m, eight)))
    ∙ ap (λ (a : Accounts). record a { classes = entered c.args.class c.args.exchange (without c.args.exchange a.classes) }) c.self.view_is
