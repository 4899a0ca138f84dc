-- One name more.
use Rattle.std.proofs.Common.{arith, rules}
use Rattle.flow_notes.proofs.NameLemmas.{AreNames-push}
use Rattle.flow_notes.proofs.names.Names.push.Goals as goal

pub invariant_of-self-2 : goal.invariant_of-self-2
invariant_of-self-2 c = rw c.in_ok-push_copy.ensures.ok (AreNames-push c.self.inside.names.items c.args.name.now c.self.invariant (search rules) (search rules) (omega arith))
