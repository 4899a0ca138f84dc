use Rattle.link_lists.proofs.Changes.{changed}
use Rattle.link_lists.proofs.member.set_next.Goals as goal

pub returns-clause-written : goal.returns-clause-written
returns-clause-written g c = changed c.args.at.ptr (λ n. record n { next = c.args.to }) c.args.heap.now.cells c.get_mut-member.result.now c.get_mut-member.ensures.value
