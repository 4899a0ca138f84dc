-- Where a frame stands, no fault is shown.
use Rattle.std.proofs.Common.{◌≡◌, ℕ, zero, suc, ◌-◌, ◌%◌, ◌<◌, ◌≤◌, Bool, true, false, cond, eqb, List, [], ◌++◌, length, Option, Some, None, refl, sym, ap, subst, ◌∙◌, arith, rules, tests}
use Rattle.std.specs.Bool.{OnTrue}
use Rattle.std.specs.Int.{w32, to_be_bytes}
use Rattle.std.specs.Prelude.{nat_le, ◌||◌, ◌&&◌, not}
use Rattle.std.proofs.lemmas.Bool.{le-ltb}
use Rattle.std.proofs.lemmas.List.{length-append, take_at}
use Rattle.h2_frames.specs.declared.types.Weighting.{Weighting}
use Rattle.h2_frames.specs.Frame.{Continuation, DataFrame, Frame, GoAway, Headers, Ping, Priority, Push, Reset, Settings, Unknown, WindowUpdate}
use Rattle.h2_frames.specs.Head.{Head, acknowledges, tells_padding, tells_priority}
use Rattle.h2_frames.specs.Payload.{IsPadded, IsWeighted, Says, weighting_octets}
use Rattle.h2_frames.specs.Fault.{content_fault, first_fault, forbids_length, forbids_stream, head_fault, payload_fault}

abbrev of_kind : ℕ → Head → Head
of_kind k h = record { len = h.len; kind = k; flags = h.flags; stream = h.stream }

-- a test of a head, at the type that it has
at_kind : {A : Type 0} (test : Head → A) (value : A) (h : Head) (k : ℕ) → h.kind ≡ k → test (of_kind k h) ≡ value → test h ≡ value
at_kind test value h k e t = subst (λ (j : ℕ). test (of_kind j h) ≡ value) (sym e) t

pub nonzero : (s : ℕ) → 0 < s → eqb s 0 ≡ false
nonzero zero h = absurd (omega arith)
nonzero (suc s) h = search (rules, tests)

is_number : (a b : ℕ) → a ≡ b → eqb a b ≡ true
is_number a b e = grind arith

-- no number up to 9 is an unknown type
known : (k n : ℕ) → n < 10 → 9 < k → eqb k n ≡ false
known k n h i = grind arith

past_nine : (k : ℕ) → 9 < k → nat_le k 9 ≡ false
past_nine k h = grind arith

pub stream_allowed : (h : Head) (p : List ℕ) (f : Frame) → Says h p f → forbids_stream h ≡ false
stream_allowed h p (DataFrame s l n o) a = at_kind forbids_stream false h 0 a.0 (nonzero h.stream (omega arith))
stream_allowed h p (Headers s l e n w o) a = at_kind forbids_stream false h 1 a.0 (nonzero h.stream (omega arith))
stream_allowed h p (Priority s w) a = at_kind forbids_stream false h 2 a.0 (nonzero h.stream (omega arith))
stream_allowed h p (Reset s c) a = at_kind forbids_stream false h 3 a.0 (nonzero h.stream (omega arith))
stream_allowed h p (Settings k o) a = at_kind forbids_stream false h 4 a.0 (rw (is_number h.stream 0 a.1) refl)
stream_allowed h p (Push s e n r o) a = at_kind forbids_stream false h 5 a.0 (nonzero h.stream (omega arith))
stream_allowed h p (Ping k o) a = at_kind forbids_stream false h 6 a.0 (rw (is_number h.stream 0 a.1) refl)
stream_allowed h p (GoAway l c o) a = at_kind forbids_stream false h 7 a.0 (rw (is_number h.stream 0 a.1) refl)
stream_allowed h p (WindowUpdate s n) a = at_kind forbids_stream false h 8 a.0 refl
stream_allowed h p (Continuation s e o) a = at_kind forbids_stream false h 9 a.0 (nonzero h.stream (omega arith))
stream_allowed h p (Unknown k f s o) a =
    rw (known h.kind 4 (omega arith) a.0, known h.kind 6 (omega arith) a.0, known h.kind 7 (omega arith) a.0, past_nine h.kind a.0) refl

-- a payload of n octets has the length n
length_is : (p : List ℕ) (h : Head) (n : ℕ) → length p ≡ h.len → length p ≡ n → eqb h.len n ≡ true
length_is p h n whole e = is_number h.len n (sym whole ∙ e)

settings_length : (len : ℕ) (ack : Bool) (o : List ℕ) → length o ≡ len → length o % 6 ≡ 0 → OnTrue ack (o ≡ []) → not (eqb (len % 6) 0) || (ack && not (eqb len 0)) ≡ false
settings_length len true o whole six none =
    let empty : len ≡ 0 = sym whole ∙ ap length none in
    rw empty refl
settings_length len false o whole six none = rw (is_number (len % 6) 0 (rw (← whole) six)) refl

goaway_length : (p four code debug : List ℕ) (len : ℕ) → length p ≡ len → length four ≡ 4 → length code ≡ 4 → p ≡ four ++ (code ++ debug) → 8 ≤ len
goaway_length p four code debug len whole a b e = omega (arith, ap length e, length-append four (code ++ debug), length-append code debug)

pub length_allowed : (h : Head) (p : List ℕ) (f : Frame) → length p ≡ h.len → Says h p f → forbids_length h ≡ false
length_allowed h p (DataFrame s l n o) whole a = at_kind forbids_length false h 0 a.0 refl
length_allowed h p (Headers s l e n w o) whole a = at_kind forbids_length false h 1 a.0 refl
length_allowed h p (Priority s w) whole a = at_kind forbids_length false h 2 a.0 (rw (length_is p h 5 whole (ap length a.3)) refl)
length_allowed h p (Reset s c) whole a = at_kind forbids_length false h 3 a.0 (rw (length_is p h 4 whole (ap length a.3)) refl)
length_allowed h p (Settings k o) whole a =
    at_kind forbids_length false h 4 a.0 (settings_length h.len (acknowledges h) o (ap length (sym a.3) ∙ whole) a.4 (subst (λ (b : Bool). OnTrue b (o ≡ [])) (sym a.2) a.5))
length_allowed h p (Push s e n r o) whole a = at_kind forbids_length false h 5 a.0 refl
length_allowed h p (Ping k o) whole a = at_kind forbids_length false h 6 a.0 (rw (length_is p h 8 whole (ap length a.3 ∙ a.4)) refl)
length_allowed h p (GoAway l c o) whole a =
    at_kind forbids_length false h 7 a.0 (le-ltb h.len 8 (goaway_length p a.2.0 (to_be_bytes w32 c) o h.len whole (ap length a.2.1.1) refl a.2.2))
length_allowed h p (WindowUpdate s n) whole a = at_kind forbids_length false h 8 a.0 (rw (length_is p h 4 whole (ap length a.2.1)) refl)
length_allowed h p (Continuation s e o) whole a = at_kind forbids_length false h 9 a.0 refl
length_allowed h p (Unknown k f s o) whole a =
    rw (known h.kind 2 (omega arith) a.0, known h.kind 3 (omega arith) a.0, known h.kind 8 (omega arith) a.0, known h.kind 4 (omega arith) a.0, known h.kind 6 (omega arith) a.0, known h.kind 7 (omega arith) a.0) refl

padded_fits : (b : Bool) (n : ℕ) (p : List ℕ) (k : ℕ) (c : List ℕ) → IsPadded b p k c → n ≤ length c → content_fault b n p ≡ None
padded_fits false n p k c a long = rw (le-ltb (length p) n (omega (arith, ap length a.0))) refl
padded_fits true n p k c a long =
    let room : n ≤ length (c ++ a.1) = omega (arith, length-append c a.1) in
    let pad : a.0 ≤ length (c ++ a.1) - n = omega (arith, length-append c a.1, a.3) in
    ap (content_fault true n) a.2 ∙ rw (le-ltb (length (c ++ a.1)) n room, le-ltb (length (c ++ a.1) - n) a.0 pad) refl

plain_fits : (p : List ℕ) → content_fault false 0 p ≡ None
plain_fits p = rw (le-ltb (length p) 0 (omega arith)) refl

weighted_long : (b : Bool) (w : Option Weighting) (c o : List ℕ) → IsWeighted b w c o → cond b 5 0 ≤ length c
weighted_long b None c o a = rw a.0 (omega arith)
weighted_long b (Some w) c o a = rw a.0 (omega (arith, ap length a.1, length-append (weighting_octets w) o))

promised_long : (c four o : List ℕ) → c ≡ four ++ o → length four ≡ 4 → 4 ≤ length c
promised_long c four o e l = omega (arith, ap length e, length-append four o)

pub payload_fits : (h : Head) (p : List ℕ) (f : Frame) → Says h p f → payload_fault h p ≡ None
payload_fits h p (DataFrame s l n o) a = at_kind (λ (x : Head). payload_fault x p) None h 0 a.0 (padded_fits (tells_padding h) 0 p n o a.4 (omega arith))
payload_fits h p (Headers s l e n w o) a =
    at_kind (λ (x : Head). payload_fault x p) None h 1 a.0 (padded_fits (tells_padding h) (cond (tells_priority h) 5 0) p n a.5.0 a.5.1 (weighted_long (tells_priority h) w a.5.0 o a.5.2))
payload_fits h p (Priority s w) a = at_kind (λ (x : Head). payload_fault x p) None h 2 a.0 (plain_fits p)
payload_fits h p (Reset s c) a = at_kind (λ (x : Head). payload_fault x p) None h 3 a.0 (plain_fits p)
payload_fits h p (Settings k o) a = at_kind (λ (x : Head). payload_fault x p) None h 4 a.0 (plain_fits p)
payload_fits h p (Push s e n r o) a =
    at_kind (λ (x : Head). payload_fault x p) None h 5 a.0 (padded_fits (tells_padding h) 4 p n a.4.0 a.4.2 (promised_long a.4.0 a.4.1 o a.4.3 (ap length a.4.4.1)))
payload_fits h p (Ping k o) a = at_kind (λ (x : Head). payload_fault x p) None h 6 a.0 (plain_fits p)
payload_fits h p (GoAway l c o) a = at_kind (λ (x : Head). payload_fault x p) None h 7 a.0 (plain_fits p)
payload_fits h p (WindowUpdate s n) a = at_kind (λ (x : Head). payload_fault x p) None h 8 a.0 (plain_fits p)
payload_fits h p (Continuation s e o) a = at_kind (λ (x : Head). payload_fault x p) None h 9 a.0 (plain_fits p)
payload_fits h p (Unknown k f s o) a =
    rw (known h.kind 0 (omega arith) a.0, known h.kind 1 (omega arith) a.0, known h.kind 5 (omega arith) a.0) (plain_fits p)

pub head_fits : (max : ℕ) (h : Head) (p : List ℕ) (f : Frame) → length p ≡ h.len → h.len ≤ max → Says h p f → head_fault max h ≡ None
head_fits max h p f whole within a = rw (le-ltb max h.len within, stream_allowed h p f a, length_allowed h p f whole a) refl

-- a whole frame shows no fault, whatever follows
pub frame_shows_none : (max : ℕ) (h : Head) (p after : List ℕ) (f : Frame) → length p ≡ h.len → h.len ≤ max → Says h p f → first_fault max h (p ++ after) ≡ None
frame_shows_none max h p after f whole within a =
    rw (head_fits max h p f whole within a, le-ltb (length (p ++ after)) h.len (omega (arith, length-append p after)), take_at p after h.len whole) (payload_fits h p f a)
