use Rattle.link_lists.specs.Lists.{without_id}
use Rattle.link_lists.proofs.Stored.{storing, shows, steady}
use Rattle.link_lists.proofs.Calls.{aside_in, given_back}
use Rattle.link_lists.proofs.lists.Lists.retire.Goals as goal

pub free-requires : goal.free-requires
free-requires g c = aside_in c.self.inside.rings c.args.self.now (storing c.self.inside.rings c.args.self.now c.self.view_is c.self.invariant) c.node.inside.place.ptr c.args.node c.node.view_is c.requires

pub invariant_of-self : goal.invariant_of-self
invariant_of-self g c = steady c.free.new.self (record c.args.self.now { retired = without_id c.args.node c.args.self.now.retired }) (given_back c.self.inside.rings c.args.self.now (storing c.self.inside.rings c.args.self.now c.self.view_is c.self.invariant) c.node.inside.place.ptr c.args.node c.node.view_is c.requires c.free.new.self c.free.ensures.left)

pub returns : goal.returns
returns g c = shows c.free.new.self (record c.args.self.now { retired = without_id c.args.node c.args.self.now.retired }) (given_back c.self.inside.rings c.args.self.now (storing c.self.inside.rings c.args.self.now c.self.view_is c.self.invariant) c.node.inside.place.ptr c.args.node c.node.view_is c.requires c.free.new.self c.free.ensures.left)
