use Rattle.std.proofs.Common.{◌≡◌, ◌≤◌, ◌-◌}
use Rattle.exchange_core.proofs.Meters.{filled_from}
use Rattle.exchange_core.proofs.flow.Flow.meters_hold.Given as goal
use Rattle.exchange_core.specs.Flow.{last_place, meters_hold}

abbrev pub invariant-loop-place : goal.invariant-loop-place
invariant-loop-place l = record {
  first : 1 ≤ l.place;
  within : l.place ≤ l.place-end;
  last : l.place-end ≡ last_place l.self;
  rest : filled_from (l.place - 1) l.self.chain.places ≡ meters_hold l.self;
}
