use Rattle.flow_gate.proofs.buffers.Buffers.new.Goals as goal
use Rattle.std.proofs.Common.{refl}

pub returns : goal.returns
returns c = rw (c.new.ensures.empty, c.new-2.ensures, c.new-3.ensures.empty, c.new-4.ensures) refl
