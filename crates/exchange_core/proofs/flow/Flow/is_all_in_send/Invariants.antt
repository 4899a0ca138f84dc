use Rattle.std.proofs.Common.{◌≡◌, ◌≤◌, ◌==◌, length}
use Rattle.exchange_core.proofs.flow.Flow.is_all_in_send.Given as goal
use Rattle.exchange_core.specs.Flow.{last_place}
use Rattle.exchange_core.specs.Units.{empty_before}

abbrev pub invariant-loop-place : goal.invariant-loop-place
invariant-loop-place l = record {
  first : 1 ≤ l.place;
  within : l.place ≤ l.place-end;
  last : l.place-end ≡ last_place l.self;
  before : empty_before l.self l.place ≡ (length l.self.recv == 0);
}
