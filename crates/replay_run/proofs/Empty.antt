-- The empty tape is lawful and whole.
use Rattle.std.proofs.Common.{arith, refl}
use Rattle.std.specs.Bool.{OnTrue}
use Rattle.std.specs.Prelude.{Bool, [], false, max, nat_lt, true, ◌+◌, ◌≤◌}
use Rattle.tape_laws.specs.Bounds.{IsBounded}
use Rattle.tape_laws.specs.History.{NoMark}
use Rattle.tape_laws.specs.Plain.{plain_setup}
use Rattle.tape_laws.specs.PlainSession.{plain_session}
use Rattle.tape_laws.specs.PlainTape.{IsPlainWhole}
use Rattle.tape_laws.specs.Quiet.{IsQuiet}
use Rattle.tape_laws.specs.declared.PlainLimits.{PlainLimits}

either : (b : Bool) (P : Type 0) → P → OnTrue b P
either true P p = p
either false P p = tt

nothing_bounded : (limits : PlainLimits) → IsBounded {Mark = NoMark} (plain_setup limits) []
nothing_bounded limits = record {
  recv = tt;
  stages = tt;
  send = either (nat_lt 0 limits.send) (Unit {0}) tt;
  write = either (nat_lt 0 limits.write) ((0 ≤ limits.write + max 65536 (limits.quantum + 9)) × Unit {0}) (omega arith, tt);
  together = tt;
}

nothing_quiet : (limits : PlainLimits) → IsQuiet (plain_session limits) []
nothing_quiet limits = record {
  paused = refl;
  told = tt;
  counted = tt;
  still = tt;
  behind = tt;
  framed = (refl, tt);
  read = tt;
  tamed = tt;
  asked = refl;
  ended = tt;
  gone = refl;
  leaves = tt;
}

pub empty_whole : (limits : PlainLimits) → IsPlainWhole limits []
empty_whole limits = record {
  lawful = record {
    allowed = tt;
    paused = tt;
    counted = tt;
    bounded = nothing_bounded limits;
    tied = tt;
    ends = tt;
    in_turn = tt;
    doomed = tt;
    swept = tt;
    answered = tt;
    only = tt;
    licensed = tt;
    may = tt;
    quiet = tt;
  };
  quiet = nothing_quiet limits;
}
