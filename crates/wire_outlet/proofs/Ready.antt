-- A write buffer stays ready.
use Rattle.std.proofs.Common.{Bool, List, ap, arith, false, length, length-append, sym, true, ℕ, ◌+◌, ◌<◌, ◌∙◌, ◌≡◌, ◌≤◌}
use Rattle.std.proofs.lemmas.Bool.Decides.{nat_tests}
use Rattle.std.proofs.lemmas.List.{length-drop}
use Rattle.wire_outlet.specs.Outgoing.{IsReady}
use Rattle.wm_buffer.specs.Buffer.{AppendsOctets, Buffer, DropsOctets}
use Rattle.wm_buffer.specs.Watermark.{above_after}

pub room : (unit : ℕ) (write : Buffer) → IsReady unit write → write.above ≡ false → 0 < write.limit → unit ≤ write.spare
room unit write ready low limit = omega (arith, ready.low low limit)

not_above : (limit len : ℕ) (was : Bool) → above_after limit was len ≡ false → 0 < limit → len ≤ limit
not_above limit len true e some = grind (arith, nat_tests)
not_above limit len false e some = grind (arith, nat_tests)

pub appended : (unit : ℕ) (octets : List ℕ) (old new : Buffer) → IsReady unit old → old.above ≡ false → length octets ≤ unit → AppendsOctets old new octets → IsReady unit new
appended unit octets old new ready low fits added =
    let len : length new.octets ≡ length old.octets + length octets = ap length added.octets ∙ length-append old.octets octets in
    record {
      room = omega arith;
      bound = λ some. let limit : 0 < old.limit = omega arith in omega (arith, ready.low low limit);
      low = λ flag some. let limit : 0 < old.limit = omega arith in omega (arith, not_above old.limit (length new.octets) old.above (sym added.above ∙ flag) limit);
    }

pub dropped : (unit n : ℕ) (old new : Buffer) → IsReady unit old → n ≤ length old.octets → DropsOctets old new n → IsReady unit new
dropped unit n old new ready some left =
    let len : length new.octets + n ≡ length old.octets = omega (arith, ap length left.octets, length-drop n old.octets) in
    record {
      room = omega arith;
      bound = λ limited. let limit : 0 < old.limit = omega arith in omega (arith, ready.bound limit);
      low = λ flag limited. let limit : 0 < old.limit = omega arith in omega (arith, not_above old.limit (length new.octets) old.above (sym left.above ∙ flag) limit);
    }
