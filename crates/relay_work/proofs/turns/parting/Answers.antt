-- The other connection of the pair of one that is lost.
use Rattle.relay_work.proofs.Staying.{parts_gone}
use Rattle.relay_work.proofs.turns.parting.Goals as goal

pub returns-in-Gone : goal.returns-in-Gone
returns-in-Gone c = parts_gone c.args.relay.now c.args.event.now c.in-Gone.conn c.peer.result c.in-Gone.is c.peer.ensures
