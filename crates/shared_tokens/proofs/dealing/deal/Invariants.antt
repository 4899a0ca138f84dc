use Rattle.std.proofs.Common.{◌≡◌, ◌-◌, ◌≤◌, All, vec_len, vec_capacity}
use Rattle.shared_tokens.specs.Seats.{IsNewSeat, IsPutSeatOf, burst_of, put_known_of}
use Rattle.shared_tokens.specs.Steps.{putter}
use Rattle.shared_tokens.proofs.dealing.deal.Given as goal

abbrev pub invariant-loop : goal.invariant-loop
invariant-loop l = record {
  put : IsPutSeatOf l.bucket l.put;
  known : put_known_of l.put ≡ record (putter (burst_of l.bucket) l.seats) { splits = l.seats - l.counter };
  counter : l.counter ≤ l.seats;
  len : vec_len l.list ≡ l.counter;
  room : l.seats ≤ vec_capacity l.list;
  each : All (IsNewSeat l.bucket) l.list.items;
}
