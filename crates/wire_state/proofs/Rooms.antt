-- How much goes out at once.
use Rattle.h2_frames.specs.Head.{data_head}
use Rattle.h2_windows.specs.SendWindow.{Sending}
use Rattle.flow_rules.specs.Narrowed.{octets_of}
use Rattle.proxy_config.specs.declared.config.LimitKeys.{LimitKeys}
use Rattle.std.proofs.Common.{ap, arith, subst, ◌∙◌}
use Rattle.std.proofs.lemmas.Int.{ints}
use Rattle.std.proofs.lemmas.List.{length-append, length-take}
use Rattle.std.specs.FinMap.{get}
use Rattle.std.specs.Prelude.{IfSome, IsSome, IsSomeAnd, List, None, Option, Some, false, length, negsuc, option_map, pos, take, unwrap_or, Bool, ℕ, ℤ, ◌++◌, ◌+◌, ◌<◌, ◌≡◌, ◌≤ℤ◌, ◌≤◌}
use Rattle.wire_outlet.proofs.Ready.{appended}
use Rattle.wire_outlet.specs.Outgoing.{Outgoing}
use Rattle.wire_state.specs.Sound.{IsKept, unit_of}
use Rattle.wire_windows.specs.SendWindows.{HasRoom, SendWindows}
use Rattle.wm_buffer.specs.Buffer.{AppendsOctets, Buffer}

-- as many octets as a window has room for
pub within_room : (n : ℕ) (most room : ℤ) → 0 < n → n ≤ octets_of most → most ≤ℤ room → pos n ≤ℤ room
within_room n (pos m) room l h below = omega (arith, ints)
within_room n (negsuc m) room l h below = absurd (omega (arith, l, h))

-- as many octets as the windows of the stream and of the connection have room for
pub within_both : (x n : ℕ) (w : SendWindows) (found : Option ℤ) (room most : ℤ) → 0 < n → found ≡ option_map (λ s. s.room) (get w.streams x) → room ≡ unwrap_or found (pos 0)
    → n ≤ octets_of room → n ≤ octets_of most → most ≤ℤ w.conn.room → HasRoom x n w
within_both x n w found room most l is chosen r m below = record {
  conn = within_room n most w.conn.room l m below;
  stream = by_stream (get w.streams x) (chosen ∙ ap (λ (o : Option ℤ). unwrap_or o (pos 0)) is);
}
  where
    by_stream : (o : Option Sending) → room ≡ unwrap_or (option_map (λ s. s.room) o) (pos 0) → IsSomeAnd o (λ s. pos n ≤ℤ s.room)
    by_stream None same = absurd (omega (arith, l, subst (λ (z : ℤ). n ≤ octets_of z) same r))
    by_stream (Some s) same = subst (λ (z : ℤ). pos n ≤ℤ z) same (within_room n room room l r (omega (arith, ints)))

pub within_quantum : (most : ℤ) (quantum : ℕ) → most ≤ℤ pos quantum → octets_of most ≤ quantum
within_quantum (pos m) quantum below = omega (arith, ints)
within_quantum (negsuc m) quantum below = omega arith

-- a DATA frame of at most a quantum keeps the bounds of the write buffer
pub body_kept : (limits : LimitKeys) (old : Outgoing) (new : Buffer) (octets : List ℕ) (n : ℕ) → IsKept limits old → old.write.above ≡ false → n ≤ limits.quantum
    → length new.octets ≡ length old.write.octets + (9 + n) → AppendsOctets old.write new octets → IsKept limits (record old { write = new })
body_kept limits old new octets n kept low few grown added =
    let len : length new.octets ≡ length old.write.octets + length octets = ap length added.octets ∙ length-append old.write.octets octets in
    let fits : length octets ≤ unit_of limits = grind (arith, len, grown, few) in
    record { limit = added.limit ∙ kept.limit; write = appended (unit_of limits) octets old.write new kept.write low fits added; waiting = kept.waiting }

-- a DATA frame that made it longer by its head and its payload carries no more than was held
pub carries_held : (stream n : ℕ) (last : Bool) (held : List ℕ) (old new : Buffer) → length new.octets ≡ length old.octets + (9 + n)
    → AppendsOctets old new (data_head stream n last ++ take n held) → n ≤ length held
carries_held stream n last held old new grown added =
    let len : length new.octets ≡ length old.octets + (9 + length (take n held)) =
    cc (ap length added.octets, length-append old.octets (data_head stream n last ++ take n held), length-append (data_head stream n last) (take n held)) in
    omega (arith, grown, len, length-take n held)

-- what holds of a flow that is there
pub of_some : {A : Type 0} {P : A → Type 0} (o : Option A) → IsSome o → IfSome o P → (a : A) × P a
of_some None some p = absurd (cc some)
of_some (Some a) some p = (a, p)
