use Rattle.std.proofs.Common.{refl}
use Rattle.tcp_relay.proofs.Rested.{rests_first}
use Rattle.tcp_relay.proofs.relay.Relay.new.Goals as goal

pub returns : goal.returns
returns c = rests_first c.args.limit _ (record {
  limit = c.new.ensures.limit;
  pairs = c.new.ensures.pairs;
  free = c.new.ensures.free;
  lines = c.new.ensures.lines;
  waits = c.new.ensures.waits;
}) refl refl
