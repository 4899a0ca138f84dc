-- What is written is read again.
use Rattle.std.proofs.Common.{◌≡◌, ℕ, zero, suc, ◌+◌, ◌^◌, ◌<◌, ◌≤◌, ◌%◌, Bool, true, false, eqb, List, [], ◌∷◌, ◌++◌, length, Option, Some, None, refl, subst, arith}
use Rattle.std.specs.Bool.{OnTrue}
use Rattle.std.specs.Prelude.{IfSome, not, ◌||◌, ◌&&◌, is_some}
use Rattle.std.proofs.lemmas.Bool.{eqb-true}
use Rattle.std.proofs.lemmas.List.{nil_from_length}
use Rattle.h2_frames.specs.declared.types.Weighting.{Weighting}
use Rattle.h2_frames.specs.Frame.{Continuation, DataFrame, Frame, GoAway, Headers, Ping, Priority, Push, Reset, Settings, Unknown, WindowUpdate, unpadded}
use Rattle.h2_frames.specs.Head.{Head, word, tells_padding, tells_priority, has_flag}
use Rattle.h2_frames.specs.Payload.{IsPadded, IsWeighted, Says}
use Rattle.h2_frames.specs.Frames.{AreFrames, SpellsFrame}
use Rattle.h2_frames.specs.Spelling.{IsWritable, flag_when, head_of, payload_of, priority_octets, spelling}

positive : (s : ℕ) → eqb s 0 ≡ false → 0 < s
positive zero e = absurd cc
positive (suc s) e = omega arith

same_if_not : (b : Bool) → not b ≡ false → b ≡ true
same_if_not true e = refl
same_if_not false e = absurd cc

is_zero : (s : ℕ) → not (eqb s 0) ≡ false → s ≡ 0
is_zero s e = eqb-true s 0 (same_if_not (eqb s 0) e)

neither : (a b : Bool) → a || b ≡ false → (a ≡ false) × (b ≡ false)
neither true b e = absurd cc
neither false b e = (refl, e)

-- the flags of HEADERS, each read back
headers_flags : (last end_headers weighted : Bool) → let flags = flag_when 0x1 last + flag_when 0x4 end_headers + flag_when 0x20 weighted in
    (n k s : ℕ) → let h : Head = record { len = n; kind = k; flags = flags; stream = s } in
    (has_flag 0x1 h ≡ last) × (has_flag 0x4 h ≡ end_headers) × (has_flag 0x8 h ≡ false) × (has_flag 0x20 h ≡ weighted)
headers_flags true true true n k s = (refl, refl, refl, refl)
headers_flags true true false n k s = (refl, refl, refl, refl)
headers_flags true false true n k s = (refl, refl, refl, refl)
headers_flags true false false n k s = (refl, refl, refl, refl)
headers_flags false true true n k s = (refl, refl, refl, refl)
headers_flags false true false n k s = (refl, refl, refl, refl)
headers_flags false false true n k s = (refl, refl, refl, refl)
headers_flags false false false n k s = (refl, refl, refl, refl)

one_flag : (set : Bool) (n k s : ℕ) → let h : Head = record { len = n; kind = k; flags = flag_when 0x1 set; stream = s } in (has_flag 0x1 h ≡ set) × (has_flag 0x8 h ≡ false)
one_flag true n k s = (refl, refl)
one_flag false n k s = (refl, refl)

four_flag : (set : Bool) (n k s : ℕ) → let h : Head = record { len = n; kind = k; flags = flag_when 0x4 set; stream = s } in (has_flag 0x4 h ≡ set) × (has_flag 0x8 h ≡ false)
four_flag true n k s = (refl, refl)
four_flag false n k s = (refl, refl)

plain : (b : Bool) (p : List ℕ) → b ≡ false → IsPadded b p 0 p
plain true p e = absurd cc
plain false p e = (refl, refl)

weighted : (b : Bool) (w : Option Weighting) (block : List ℕ) → b ≡ is_some w → IfSome w (λ v. v.dependency < 2 ^ 31) → IsWeighted b w (priority_octets w ++ block) block
weighted b None block e h = (e, refl)
weighted b (Some w) block e h = (e, refl, h)

acked : (ack : Bool) (entries : List ℕ) → ack && not (eqb (length entries) 0) ≡ false → OnTrue ack (entries ≡ [])
acked true entries e = nil_from_length entries (is_zero (length entries) e)
acked false entries e = tt

pub says_spelling : (f : Frame) → IsWritable f → Says (head_of f) (payload_of f) (unpadded f)
says_spelling (DataFrame s l n o) w =
    let flags = one_flag l (length o) 0 s in
    (refl, positive s w.on_stream, refl, flags.0, plain (tells_padding (head_of (DataFrame s l n o))) o flags.1)
says_spelling (Headers s l e n p o) w =
    let flags = headers_flags l e (is_some p) (length (priority_octets p ++ o)) 1 s in (
      refl,
      positive s w.on_stream,
      refl,
      flags.0,
      flags.1,
      (priority_octets p ++ o, plain (tells_padding (head_of (Headers s l e n p o))) (priority_octets p ++ o) flags.2, weighted (tells_priority (head_of (Headers s l e n p o))) p o flags.3 w.numbers),
    )
says_spelling (Priority s v) w = (refl, positive s w.on_stream, refl, refl, w.numbers)
says_spelling (Reset s c) w = (refl, positive s w.on_stream, refl, refl, w.numbers)
says_spelling (Settings k o) w =
    let flags = one_flag k (length o) 4 0 in
    let both = neither (not (eqb (length o % 6) 0)) (has_flag 0x1 (head_of (Settings k o)) && not (eqb (length o) 0)) w.of_length in (
      refl,
      refl,
      flags.0,
      refl,
      eqb-true _ _ (same_if_not (eqb (length o % 6) 0) both.0),
      acked k o (subst (λ (b : Bool). b && not (eqb (length o) 0) ≡ false) flags.0 both.1),
    )
says_spelling (Push s e n r o) w =
    let flags = four_flag e (length (word false r ++ o)) 5 s in (
      refl,
      positive s w.on_stream,
      refl,
      flags.0,
      (word false r ++ o, word false r, plain (tells_padding (head_of (Push s e n r o))) (word false r ++ o) flags.1, refl, (false, refl, w.numbers)),
    )
says_spelling (Ping k o) w =
    let flags = one_flag k (length o) 6 0 in
    (refl, refl, flags.0, refl, eqb-true _ _ (same_if_not (eqb (length o) 8) w.of_length))
says_spelling (GoAway l c o) w = (refl, refl, (word false l, (false, refl, w.numbers.0), refl), w.numbers.1)
says_spelling (WindowUpdate s n) w = (refl, refl, (false, refl, w.numbers))
says_spelling (Continuation s e o) w =
    let flags = four_flag e (length o) 9 s in
    (refl, positive s w.on_stream, refl, flags.0, refl)
says_spelling (Unknown k f s o) w = (w.numbers, refl, refl, refl, refl)

pub spells : (max : ℕ) (f : Frame) → IsWritable f → length (payload_of f) ≤ max → SpellsFrame max (spelling f) (unpadded f)
spells max f w within = record {
  head = head_of f;
  payload = payload_of f;
  begins = record { fits = w.fits; reserved = false; front = refl };
  whole = refl;
  within = within;
  says = says_spelling f w;
}

pub written_again : (max : ℕ) (f : Frame) (more : List ℕ) → IsWritable f → length (payload_of f) ≤ max → AreFrames max (spelling f ++ more) (unpadded f ∷ []) more
written_again max f more w within = (spelling f, more, refl, spells max f w within, refl)
