use Rattle.wire_state.proofs.Grown.{grown_fills}
use Rattle.wire_state.proofs.conn.Conn.write_waiting.Goals as goal

pub returns-clause-fills : goal.returns-clause-fills
returns-clause-fills c =
    let grows = rw c.in-Some.is at c.in_ok-framed.ensures.grows in
    grown_fills c.args.number _ c.mark_risen-rose.result c.args.self.now.outlet.write c.frame_waiting.new.self.outlet.write c.args.flows.now c.mark_risen-rose.new.flows grows c.mark_risen-rose.ensures.rose c.mark_risen-rose.ensures.writes c.mark_risen-rose.ensures.lows c.mark_risen-rose.ensures.sound
