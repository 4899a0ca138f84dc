use Rattle.wire_state.proofs.Grown.{dropped_frees}
use Rattle.wire_state.proofs.conn.Conn.drop_octets.Goals as goal

pub returns-clause-frees : goal.returns-clause-frees
returns-clause-frees c = dropped_frees c.args.number c.args.self.now.outlet.write c.drop_all.new.self.outlet.write c.args.flows.now c.write_drained.new.self c.drop_all.ensures.empty c.drop_all.ensures.low c.write_drained.ensures.drains c.write_drained.ensures.lows c.write_drained.ensures.rest (λ sound. c.write_drained.ensures.sound)
