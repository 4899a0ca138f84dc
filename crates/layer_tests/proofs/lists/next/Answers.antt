use Rattle.link_lists.specs.Lists.{front_of}
use Rattle.layer_tests.proofs.Known.{take_stays}
use Rattle.layer_tests.proofs.lists.next.Goals as goal

pub returns-clause-number : goal.returns-clause-number
returns-clause-number c = (take_stays c.args.lists.now c.take_front.new.self (front_of c.args.list c.args.lists.now.lists) c.take_front.result c.take_front.ensures.none c.take_front.ensures.some).0

pub returns-clause-known : goal.returns-clause-known
returns-clause-known c = (take_stays c.args.lists.now c.take_front.new.self (front_of c.args.list c.args.lists.now.lists) c.take_front.result c.take_front.ensures.none c.take_front.ensures.some).1
