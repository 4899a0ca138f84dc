use Rattle.std.proofs.Common.{sym, ap, ◌∙◌}
use Rattle.std.specs.Prelude.{is_some}
use Rattle.link_lists.specs.Lists.{pull_from}
use Rattle.link_lists.proofs.Stored.{storing, shows, steady}
use Rattle.link_lists.proofs.Calls.{in_rings, value_there, left}
use Rattle.link_lists.proofs.lists.Lists.remove.Goals as goal

pub remove-requires : goal.remove-requires
remove-requires g c = in_rings c.self.inside.rings c.args.self.now (storing c.self.inside.rings c.args.self.now c.self.view_is c.self.invariant) c.node.inside.place.ptr c.args.node c.node.view_is c.requires

pub unwrap-requires : goal.unwrap-requires
unwrap-requires g c = ap is_some (value_there c.self.inside.rings c.args.self.now (storing c.self.inside.rings c.args.self.now c.self.view_is c.self.invariant) c.node.inside.place.ptr c.args.node c.node.view_is c.remove.ensures.lone c.requires c.remove.result c.remove.ensures.value).2

pub invariant_of-self : goal.invariant_of-self
invariant_of-self g c = steady c.remove.new.self (record c.args.self.now { lists = pull_from c.args.node c.args.self.now.lists }) (left c.self.inside.rings c.args.self.now (storing c.self.inside.rings c.args.self.now c.self.view_is c.self.invariant) c.node.inside.place.ptr c.args.node c.node.view_is c.remove.ensures.lone c.requires c.remove.new.self c.remove.ensures.left)

pub returns-clause-value : goal.returns-clause-value
returns-clause-value g c = let v = value_there c.self.inside.rings c.args.self.now (storing c.self.inside.rings c.args.self.now c.self.view_is c.self.invariant) c.node.inside.place.ptr c.args.node c.node.view_is c.remove.ensures.lone c.requires c.remove.result c.remove.ensures.value in v.1 ∙ sym v.2 ∙ c.unwrap.ensures

pub returns-clause-left : goal.returns-clause-left
returns-clause-left g c = shows c.remove.new.self (record c.args.self.now { lists = pull_from c.args.node c.args.self.now.lists }) (left c.self.inside.rings c.args.self.now (storing c.self.inside.rings c.args.self.now c.self.view_is c.self.invariant) c.node.inside.place.ptr c.args.node c.node.view_is c.remove.ensures.lone c.requires c.remove.new.self c.remove.ensures.left)
