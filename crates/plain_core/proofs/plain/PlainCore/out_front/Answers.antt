-- The octets that wait are those of the connection's write buffer.
use Rattle.plain_core.proofs.plain.PlainCore.out_front.Goals as goal

pub returns : goal.returns
returns c = record {
  front = λ limits h r. rw (← r.good.flows.stands.conn.octets) c.front.ensures.prefix;
  some = λ limits h r more. c.front.ensures.nonempty (rw r.good.flows.stands.conn.octets more);
}
