use Rattle.wire_state.proofs.Grown.{grown_fills}
use Rattle.wire_state.proofs.conn.Conn.write_update.Goals as goal

pub returns-clause-fills : goal.returns-clause-fills
returns-clause-fills c =
    let grows = rw c.in-Some.is at c.in_ok-crossed.ensures.grows in
    grown_fills c.args.number _ c.mark_risen.result c.args.self.now.outlet.write c.frame_update.new.self.outlet.write c.args.flows.now c.mark_risen.new.flows grows c.mark_risen.ensures.rose c.mark_risen.ensures.writes c.mark_risen.ensures.lows c.mark_risen.ensures.sound
