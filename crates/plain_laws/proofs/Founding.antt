-- The empty history.
use Rattle.plain_laws.proofs.Extending.{bounded_of, tied_of}
use Rattle.plain_laws.specs.Owing.{nothing}
use Rattle.plain_laws.specs.Regular.{Books, Regular, Rests}
use Rattle.std.proofs.Common.{arith, refl}
use Rattle.std.specs.Bool.{OnTrue}
use Rattle.std.specs.Prelude.{Bool, [], false, max, nat_lt, true, ℕ, ◌+◌, ◌≤◌}
use Rattle.tape_laws.specs.declared.PlainLimits.{PlainLimits}

none_books : (limits : PlainLimits) → Books limits nothing []
none_books limits = record {
  due = refl;
  asks = refl;
  opened = refl;
  known = refl;
  unclosed = refl;
  write_room = within (nat_lt 0 limits.write) (limits.write + max 65536 (limits.quantum + 9));
  rising = tt;
  born = λ x e. e;
  said = λ x. refl;
  each = λ x e. cc;
  unborn = λ x e. record {
    recv = refl;
    send = refl;
    low = refl;
    paused = refl;
    resumed = refl;
    body = refl;
    received = refl;
    goes_on = refl;
    alone = refl;
    unframed = refl;
    may_live = refl;
    recv_peak = refl;
    send_peak = refl;
  };
  owed = tt;
  write_lows = tt;
  write_once = tt;
  hushed = λ x e. refl;
}
  where
    within : (b : Bool) (n : ℕ) → OnTrue b (0 ≤ n)
    within true n = omega arith
    within false n = tt

pub none_regular : (limits : PlainLimits) → Regular limits nothing []
none_regular limits = record {
  lawful = record {
    allowed = tt;
    paused = tt;
    counted = tt;
    bounded = bounded_of limits nothing [] (none_books limits);
    tied = tied_of limits nothing [] (none_books limits);
    ends = tt;
    in_turn = tt;
    doomed = tt;
    swept = tt;
    answered = tt;
    only = tt;
    licensed = tt;
    may = tt;
    quiet = tt;
  };
  books = none_books limits;
}

pub none_rests : (limits : PlainLimits) → Rests limits []
none_rests limits = record {
  regular = none_regular limits;
  quiet = record {
    paused = refl;
    told = tt;
    counted = tt;
    still = tt;
    behind = tt;
    framed = (refl, tt);
    read = tt;
    tamed = tt;
    asked = refl;
    ended = tt;
    gone = refl;
    leaves = tt;
  };
}
