use Rattle.flow_gate.proofs.gates.held_back.Given as goal
use Rattle.flow_gate.specs.Parts.{AreWatches, held, watched_in}
use Rattle.flow_rules.specs.declared.ids.FlowId.{FlowId}
use Rattle.std.specs.Prelude.{take, ◌*◌, ◌≡◌, ◌≤◌}

-- the count by the watches so far
abbrev pub invariant-loop-watch : goal.invariant-loop-watch
invariant-loop-watch l = record {
  counted : (f : FlowId) → AreWatches f l.watches l.buffers → l.count ≡ held l.buffers f (watched_in (take l.watch-index l.watches));
  small : l.count ≤ 2 * l.watch-index;
}
