use Rattle.flow_gate.specs.Board.{IsSound as AreSoundGates}
use Rattle.std.specs.Prelude.{take, ◌+◌, ◌≡◌, ◌≤◌}
use Rattle.wire_flows.proofs.Begun.{place_after}
use Rattle.wire_flows.proofs.starting.watch_meters.Given as goal
use Rattle.wire_flows.specs.Begins.{Grows, WatchesOwn, meters}

-- the Meters so far are watched
abbrev pub invariant-loop-filter : goal.invariant-loop-filter
invariant-loop-filter l = record {
  grows : Grows l.flow l.initial.gates l.gates;
  watches : WatchesOwn l.flow (meters l.flow 1 (take l.filter-index l.filters)) l.initial.gates l.gates;
  place : l.place ≡ place_after 1 (take l.filter-index l.filters);
  first : 1 ≤ l.place;
  low : l.place ≤ l.filter-index + 1;
  sound : AreSoundGates l.gates;
}
