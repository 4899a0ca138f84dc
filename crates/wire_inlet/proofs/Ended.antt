-- The octets of a DATA frame without padding, and the entries of SETTINGS, stand right before its end.
use Rattle.std.proofs.Common.{◌≡◌, ℕ, ◌+◌, ◌-◌, ◌≤◌, Bool, true, false, List, ◌++◌, length, take, drop, sym, subst, ap, ◌∙◌, arith}
use Rattle.std.proofs.Math.Seq.{drop-append-add, drop-append_seam, take-append_seam}
use Rattle.std.proofs.lemmas.List.{append_assoc, length-append, length-take-le, take-append-drop}
use Rattle.h2_frames.specs.Frame.{Continuation, DataFrame, Frame, GoAway, Headers, Ping, Priority, Push, Reset, Settings, Unknown, WindowUpdate}
use Rattle.h2_frames.specs.Frames.{SpellsFrame}
use Rattle.h2_frames.specs.Head.{head_octets, tells_padding}
use Rattle.h2_frames.specs.Payload.{IsPadded}
use Rattle.wire_inlet.specs.Payloads.{EndsAt}

-- a payload without padding is the content
content_alone : (b : Bool) (payload content : List ℕ) (padded : ℕ) → padded ≡ 0 → IsPadded b payload padded content → payload ≡ content
content_alone false payload content padded none h = h.0
content_alone true payload content padded none (n, padding, is, len, pad, small) = absurd (omega (arith, none, pad))

-- some octets that follow nine others in a piece, which follows a front
behind_head : (front frames head octets : List ℕ) (used : ℕ) → length head ≡ 9 → used ≤ length frames → take used frames ≡ head ++ octets
    → (length octets ≤ length front + used) × (length front + used ≤ length (front ++ frames))
    × (take (length octets) (drop (length front + used - length octets) (front ++ frames)) ≡ octets)
behind_head front frames head octets used nine most is =
    let size : used ≡ 9 + length octets = omega (arith, sym (length-take-le used frames most) ∙ ap length is, length-append head octets, nine) in
    let place : length front + used - length octets ≡ length front + length head = omega (arith, size, nine) in
    let whole : frames ≡ head ++ (octets ++ drop used frames) =
    sym (take-append-drop used frames) ∙ ap (λ (l : List ℕ). l ++ drop used frames) is ∙ append_assoc head octets (drop used frames) in
    let rest : drop (length front + used - length octets) (front ++ frames) ≡ octets ++ drop used frames =
    ap (λ (k : ℕ). drop k (front ++ frames)) place ∙ drop-append-add front frames (length head) ∙ ap (drop (length head)) whole ∙ drop-append_seam head (octets ++ drop used frames) in
    (omega (arith, size), omega (arith, most, length-append front frames), ap (take (length octets)) rest ∙ take-append_seam octets (drop used frames))

data_ends : (max : ℕ) (front frames octets : List ℕ) (used stream padded : ℕ) (last : Bool) → used ≤ length frames → SpellsFrame max (take used frames) (DataFrame stream last padded octets)
    → EndsAt (length front + used) (front ++ frames) (DataFrame stream last padded octets)
data_ends max front frames octets used stream padded last most s = λ none.
    let alone = content_alone (tells_padding s.head) s.payload octets padded none s.says.4 in
    behind_head front frames (head_octets s.begins.reserved s.head) octets used (omega arith) most (s.begins.front ∙ ap (λ (l : List ℕ). head_octets s.begins.reserved s.head ++ l) alone)

settings_ends : (max : ℕ) (front frames entries : List ℕ) (used : ℕ) (ack : Bool) → used ≤ length frames → SpellsFrame max (take used frames) (Settings ack entries)
    → EndsAt (length front + used) (front ++ frames) (Settings ack entries)
settings_ends max front frames entries used ack most s =
    behind_head front frames (head_octets s.begins.reserved s.head) entries used (omega arith) most (s.begins.front ∙ ap (λ (l : List ℕ). head_octets s.begins.reserved s.head ++ l) s.says.3)

frame_ends : (max : ℕ) (front frames : List ℕ) (used : ℕ) (frame : Frame) → used ≤ length frames → SpellsFrame max (take used frames) frame → EndsAt (length front + used) (front ++ frames) frame
frame_ends max front frames used (DataFrame stream last padded octets) most s = data_ends max front frames octets used stream padded last most s
frame_ends max front frames used (Headers stream last end_headers padded priority block) most s = tt
frame_ends max front frames used (Priority stream priority) most s = tt
frame_ends max front frames used (Reset stream code) most s = tt
frame_ends max front frames used (Settings ack entries) most s = settings_ends max front frames entries used ack most s
frame_ends max front frames used (Push stream end_headers padded promised block) most s = tt
frame_ends max front frames used (Ping ack octets) most s = tt
frame_ends max front frames used (GoAway last code debug) most s = tt
frame_ends max front frames used (WindowUpdate stream increment) most s = tt
frame_ends max front frames used (Continuation stream end_headers block) most s = tt
frame_ends max front frames used (Unknown kind flags stream octets) most s = tt

-- where the octets are looked at as a slice
pub ends_at : (max : ℕ) (front frames unread slice : List ℕ) (used end : ℕ) (frame : Frame) → slice ≡ unread → slice ≡ front ++ frames → end ≡ length slice - length frames + used → used ≤ length frames
    → SpellsFrame max (take used frames) frame → EndsAt end unread frame
ends_at max front frames unread slice used end frame is e at most s =
    let place : length front + used ≡ end = omega (arith, ap length e, length-append front frames, at) in
    subst (λ (k : ℕ). EndsAt k unread frame) place (subst (λ (l : List ℕ). EndsAt (length front + used) l frame) (sym e ∙ is) (frame_ends max front frames used frame most s))
