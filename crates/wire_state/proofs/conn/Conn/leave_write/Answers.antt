use Rattle.std.proofs.Common.{ap, ◌∙◌}
use Rattle.wire_flows.proofs.Crossings.{low_of}
use Rattle.wire_flows.specs.Moves.{is_low}
use Rattle.wire_state.proofs.Grown.{left_frees}
use Rattle.wire_state.proofs.conn.Conn.leave_write.Goals as goal

pub returns-clause-drained : goal.returns-clause-drained
returns-clause-drained c = c.mark_drained-drained.ensures.drained ∙ (ap is_low c.leave-crossed.ensures.crossed ∙ low_of c.args.self.now.outlet.write.above c.leave-crossed.new.self.write.above)

pub returns-clause-frees : goal.returns-clause-frees
returns-clause-frees c = left_frees c.args.number c.min-n.result c.args.self.now.outlet.write c.leave-crossed.new.self.write c.leave-crossed.result c.args.flows.now c.mark_drained-drained.new.flows c.leave-crossed.ensures.drops c.leave-crossed.ensures.crossed c.mark_drained-drained.ensures.writes c.mark_drained-drained.ensures.lows c.mark_drained-drained.ensures.rest c.mark_drained-drained.ensures.sound
