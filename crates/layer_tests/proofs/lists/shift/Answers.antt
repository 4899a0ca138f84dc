use Rattle.link_lists.specs.Lists.{node_value}
use Rattle.layer_tests.proofs.Known.{move_stays}
use Rattle.layer_tests.proofs.lists.shift.Goals as goal

pub returns-clause-number : goal.returns-clause-number
returns-clause-number g c = (move_stays c.args.lists.now c.move_back.new.self c.args.list c.args.node.now c.requires.list (node_value c.args.node.now c.args.lists.now.lists) c.move_back.ensures.moved).0

pub returns-clause-known : goal.returns-clause-known
returns-clause-known g c = (move_stays c.args.lists.now c.move_back.new.self c.args.list c.args.node.now c.requires.list (node_value c.args.node.now c.args.lists.now.lists) c.move_back.ensures.moved).1
