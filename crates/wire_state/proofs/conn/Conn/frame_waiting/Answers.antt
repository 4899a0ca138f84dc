use Rattle.std.proofs.Common.{arith, false, ◌≡◌}
use Rattle.wire_state.proofs.Grown.{first_grows}
use Rattle.wire_state.proofs.conn.Conn.frame_waiting.Goals as goal

pub returns-clause-grows : goal.returns-clause-grows
returns-clause-grows c =
    let low : c.args.self.now.outlet.write.above ≡ false = grind (arith, c.may_write.ensures, c.if-not-may_write.false) in
    first_grows c.frame_waiting.result c.args.self.now.outlet c.frame_waiting.new.self low c.frame_waiting.ensures.first
