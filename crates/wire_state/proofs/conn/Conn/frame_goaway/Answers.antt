use Rattle.std.proofs.Common.{arith, false, ◌≡◌}
use Rattle.wire_state.proofs.Grown.{grows_by}
use Rattle.wire_state.proofs.conn.Conn.frame_goaway.Goals as goal

pub returns-clause-grows : goal.returns-clause-grows
returns-clause-grows c =
    let low : c.args.self.now.outlet.write.above ≡ false = grind (arith, c.is_above.ensures.above, c.if-is_above.false) in
    grows_by c.args.self.now.outlet.write c.farewell.new.self.write _ low c.in_ok-farewell.ensures.crossed c.in_ok-farewell.ensures.writes.write.above
