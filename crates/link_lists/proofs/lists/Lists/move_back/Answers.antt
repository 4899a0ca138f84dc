use Rattle.std.proofs.Common.{◌≡◌, sym, subst}
use Rattle.std.specs.Prelude.{MatchOption}
use Rattle.link_lists.specs.Lists.{push_at, pull_from}
use Rattle.link_lists.specs.Seen.{shown}
use Rattle.link_lists.proofs.Stored.{storing, shows, steady}
use Rattle.link_lists.proofs.Calls.{in_rings, moved}
use Rattle.link_lists.proofs.lists.Lists.move_back.Goals as goal

pub move_back-requires-clause-node : goal.move_back-requires-clause-node
move_back-requires-clause-node g c = in_rings c.self.inside.rings c.args.self.now (storing c.self.inside.rings c.args.self.now c.self.view_is c.self.invariant) c.node.inside.place.ptr c.args.node.now c.node.view_is c.requires.node

pub invariant_of-self : goal.invariant_of-self
invariant_of-self g c =
    let m = moved c.self.inside.rings c.args.self.now (storing c.self.inside.rings c.args.self.now c.self.view_is c.self.invariant) c.node.inside.place.ptr c.args.node.now c.node.view_is c.move_back.ensures.lone c.requires.node c.args.list c.move_back.new.self c.move_back.ensures.moved in
    steady c.move_back.new.self (record c.args.self.now { lists = push_at c.args.list (c.args.node.now, m.0) (pull_from c.args.node.now c.args.self.now.lists) }) m.2

pub returns-clause-moved : goal.returns-clause-moved
returns-clause-moved g c =
    let s = c.args.self.now in let q = c.args.node.now in
    let m = moved c.self.inside.rings c.args.self.now (storing c.self.inside.rings c.args.self.now c.self.view_is c.self.invariant) c.node.inside.place.ptr c.args.node.now c.node.view_is c.move_back.ensures.lone c.requires.node c.args.list c.move_back.new.self c.move_back.ensures.moved in
    subst (λ o. MatchOption o ⊥ (λ v. shown c.move_back.new.self ≡ record s { lists = push_at c.args.list (q, v) (pull_from q s.lists) })) (sym m.1)
    (shows c.move_back.new.self (record s { lists = push_at c.args.list (q, m.0) (pull_from q s.lists) }) m.2)
