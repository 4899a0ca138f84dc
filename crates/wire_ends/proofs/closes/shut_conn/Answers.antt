use Rattle.std.proofs.Common.{subst}
use Rattle.std.specs.Prelude.{true}
use Rattle.wire_ends.proofs.closes.shut_conn.Goals as goal
use Rattle.wire_state.specs.Counts.{Frees}
use Rattle.wm_buffer.specs.Buffer.{Buffer}

pub returns-clause-frees : goal.returns-clause-frees
returns-clause-frees c = subst (λ (b : Buffer). Frees c.args.number true b c.drop_octets.new.self.outlet.write c.args.flows.now c.drop_octets.new.flows) c.shut.ensures.write c.drop_octets.ensures.frees
