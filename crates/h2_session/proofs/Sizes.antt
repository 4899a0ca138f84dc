-- A stream that moves leaves no more streams open.
use Rattle.std.proofs.Common.{ℕ, ◌*◌, ◌≤◌, Bool, true, false, List, length, Option, Some, None, arith}
use Rattle.std.specs.Prelude.{is_some}
use Rattle.h2_session.specs.Kept.{IsKept}
use Rattle.h2_session.specs.Table.{Puts, after_data, one_if, stream_at}
use Rattle.h2_session.specs.declared.streams.Stream.{Stream}

after_data_less : (last : Bool) (o : Option Stream) → one_if (is_some (after_data last o)) ≤ one_if (is_some o)
after_data_less last None = omega arith
after_data_less last (Some s) = at_most (is_some (after_data last (Some s)))
  where
    at_most : (b : Bool) → one_if b ≤ 1
    at_most true = omega arith
    at_most false = omega arith

pub kept_less : (client_side : Bool) (next old new : ℕ) → IsKept client_side next old → new ≤ old → IsKept client_side next new
kept_less client_side next old new k less = record {
  numbered = k.numbered;
  paired = λ c. less_twice old new next less (k.paired c);
  small = omega (arith, k.small);
}
  where
    less_twice : (a b n : ℕ) → b ≤ a → 2 * a ≤ n → 2 * b ≤ n
    less_twice a b n h i = omega arith

pub data_less : (s : ℕ) (last : Bool) (old new : List (ℕ × Stream)) → Puts s (after_data last (stream_at s old)) old new → length new ≤ length old
data_less s last old new put = omega (arith, put.len, after_data_less last (stream_at s old))
