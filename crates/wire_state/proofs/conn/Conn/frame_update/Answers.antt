use Rattle.std.proofs.Common.{arith, false, ◌≡◌}
use Rattle.wire_state.proofs.Grown.{grows_by}
use Rattle.wire_state.proofs.conn.Conn.frame_update.Goals as goal

pub returns-clause-grows : goal.returns-clause-grows
returns-clause-grows c =
    let low : c.args.self.now.outlet.write.above ≡ false = grind (arith, c.may_write.ensures) in
    grows_by c.args.self.now.outlet.write c.frame_update.new.self.write _ low c.in_ok-frame_update.ensures.crossed c.in_ok-frame_update.ensures.writes.write.above
