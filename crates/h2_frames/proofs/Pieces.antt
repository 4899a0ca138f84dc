-- The frames of a field block.
use Rattle.std.proofs.Common.{Bool, List, None, [], ap, append_assoc, arith, drop, eqb, false, length, refl, subst, sym, take, true, zero, suc, ℕ, ◌*◌, ◌+◌, ◌++◌, ◌-◌, ◌/◌, ◌<◌, ◌∙◌, ◌∷◌, ◌≡◌, ◌≤◌, ◌^◌}
use Rattle.std.proofs.lemmas.List.{drop_min, length-append, length-drop, length-take, nil_from_length, take-append-drop, take_at, take_min}
use Rattle.std.specs.List.{flat_map}
use Rattle.std.specs.Prelude.{min}
use Rattle.h2_frames.specs.Blocks.{block_frames, continued, pieces, spellings}
use Rattle.h2_frames.specs.Frame.{Continuation, Frame, Headers}
use Rattle.h2_frames.specs.Frames.{AreFrames}
use Rattle.h2_frames.specs.Spelling.{IsWritable, flag_when, head_of, payload_of, spelling}
use Rattle.h2_frames.specs.Head.{head_octets}
use Rattle.h2_frames.proofs.Faultless.{nonzero}
use Rattle.h2_frames.proofs.Written.{spells}

short : (octets : List ℕ) → length (take 16384 octets) ≤ 16384
short octets = omega (arith, length-take 16384 octets)

-- a piece that is written on a stream
continuation_fits : (stream : ℕ) (e : Bool) (octets : List ℕ) → 0 < stream → stream < 2 ^ 31 → length octets ≤ 16384 → IsWritable (Continuation stream e octets)
continuation_fits stream e octets some small few = record {
  fits = record { len = omega arith; kind = omega arith; flags = flags e; stream = small };
  on_stream = nonzero stream some;
  of_length = refl;
  numbers = tt;
}
  where
    flags : (e : Bool) → flag_when 0x4 e < 2 ^ 8
    flags true = omega arith
    flags false = omega arith

headers_fit : (stream : ℕ) (l e : Bool) (octets : List ℕ) → 0 < stream → stream < 2 ^ 31 → length octets ≤ 16384 → IsWritable (Headers stream l e 0 None octets)
headers_fit stream l e octets some small few = record {
  fits = record { len = omega arith; kind = omega arith; flags = flags l e; stream = small };
  on_stream = nonzero stream some;
  of_length = refl;
  numbers = tt;
}
  where
    flags : (l e : Bool) → flag_when 0x1 l + flag_when 0x4 e + flag_when 0x20 false < 2 ^ 8
    flags true true = omega arith
    flags true false = omega arith
    flags false true = omega arith
    flags false false = omega arith

-- pieces, one by one

one_fewer : (n m : ℕ) → suc n ≡ (m + 16383) / 16384 → n ≡ ((m - 16384) + 16383) / 16384
one_fewer n m e = omega arith

one_more : (m : ℕ) → 0 < m → (m + 16383) / 16384 ≡ suc (((m - 16384) + 16383) / 16384)
one_more m some = omega arith

none_more : (m : ℕ) → eqb ((m + 16383) / 16384) 0 ≡ eqb m 0
none_more zero = refl
none_more (suc m) = nonzero ((suc m + 16383) / 16384) (omega arith) ∙ sym (nonzero (suc m) (omega arith))

few_pieces : (m : ℕ) → 16384 * suc (((m - 16384) + 16383) / 16384) ≤ m + 16384
few_pieces m = omega arith

pieces_drop : (octets : List ℕ) → 0 < length octets → pieces octets ≡ suc (pieces (drop 16384 octets))
pieces_drop octets some = one_more (length octets) some ∙ ap (λ n. suc ((n + 16383) / 16384)) (sym (length-drop 16384 octets))

pub none_left : (octets : List ℕ) → pieces octets ≡ 0 → octets ≡ []
none_left octets none = nil_from_length octets (omega arith)

pub last_piece : (octets : List ℕ) → eqb (pieces octets) 0 ≡ eqb (length octets) 0
last_piece octets = none_more (length octets)

pub continued_cons : (stream : ℕ) (octets : List ℕ) → 0 < length octets
    → continued (pieces octets) stream octets ≡ Continuation stream (eqb (length (drop 16384 octets)) 0) (take 16384 octets) ∷ continued (pieces (drop 16384 octets)) stream (drop 16384 octets)
continued_cons stream octets some =
    ap (λ n. continued n stream octets) (pieces_drop octets some) ∙ ap (λ b. Continuation stream b (take 16384 octets) ∷ continued (pieces (drop 16384 octets)) stream (drop 16384 octets)) (last_piece (drop 16384 octets))

-- the whole

rest_whole : (n stream : ℕ) (octets : List ℕ) → n ≡ pieces octets → flat_map payload_of (continued n stream octets) ≡ octets
rest_whole zero stream octets e = sym (none_left octets (sym e))
rest_whole (suc n) stream octets e = ap (λ l. take 16384 octets ++ l) (rest_whole n stream (drop 16384 octets) (one_fewer n (length octets) e ∙ ap (λ m. (m + 16383) / 16384) (sym (length-drop 16384 octets)))) ∙ take-append-drop 16384 octets

pub whole : (stream : ℕ) (last : Bool) (block : List ℕ) → flat_map payload_of (block_frames stream last block) ≡ block
whole stream last block = ap (λ l. take 16384 block ++ l) (rest_whole (pieces (drop 16384 block)) stream (drop 16384 block) refl) ∙ take-append-drop 16384 block

-- read again

rest_read : (n stream : ℕ) (octets more : List ℕ) → 0 < stream → stream < 2 ^ 31 → AreFrames 16384 (spellings (continued n stream octets) ++ more) (continued n stream octets) more
rest_read zero stream octets more some small = refl
rest_read (suc n) stream octets more some small =
    let frame : Frame = Continuation stream (eqb n 0) (take 16384 octets) in
    let later = continued n stream (drop 16384 octets) in
    (spelling frame, spellings later ++ more, append_assoc (spelling frame) (spellings later) more, spells 16384 frame (continuation_fits stream (eqb n 0) (take 16384 octets) some small (short octets)) (short octets), rest_read n stream (drop 16384 octets) more some small)

pub read : (stream : ℕ) (last : Bool) (block more : List ℕ) → 0 < stream → stream < 2 ^ 31 → AreFrames 16384 (spellings (block_frames stream last block) ++ more) (block_frames stream last block) more
read stream last block more some small =
    let rest = drop 16384 block in
    let frame : Frame = Headers stream last (eqb (length rest) 0) 0 None (take 16384 block) in
    let later = continued (pieces rest) stream rest in
    (spelling frame, spellings later ++ more, append_assoc (spelling frame) (spellings later) more, spells 16384 frame (headers_fit stream last (eqb (length rest) 0) (take 16384 block) some small (short block)) (short block), rest_read (pieces rest) stream rest more some small)

-- how many, and how long

rest_count : (n stream : ℕ) (octets : List ℕ) → length (continued n stream octets) ≡ n
rest_count zero stream octets = refl
rest_count (suc n) stream octets = ap suc (rest_count n stream (drop 16384 octets))

pub few : (stream : ℕ) (last : Bool) (block : List ℕ) → 16384 * length (block_frames stream last block) ≤ length block + 16384
few stream last block =
    let count : length (block_frames stream last block) ≡ suc (((length block - 16384) + 16383) / 16384) =
    ap suc (rest_count (pieces (drop 16384 block)) stream (drop 16384 block)) ∙ ap (λ m. suc ((m + 16383) / 16384)) (length-drop 16384 block) in
    subst (λ n. 16384 * n ≤ length block + 16384) (sym count) (few_pieces (length block))

spelled_length : (frames : List Frame) → length (spellings frames) ≡ length (flat_map payload_of frames) + 9 * length frames
spelled_length [] = refl
spelled_length (f ∷ fs) =
    omega (arith, length-append (spelling f) (spellings fs), length-append (head_octets false (head_of f)) (payload_of f), length-append (payload_of f) (flat_map payload_of fs), spelled_length fs)

pub long : (stream : ℕ) (last : Bool) (block : List ℕ) → length (spellings (block_frames stream last block)) ≡ length block + 9 * length (block_frames stream last block)
long stream last block = spelled_length (block_frames stream last block) ∙ ap (λ l. length l + 9 * length (block_frames stream last block)) (whole stream last block)

-- one frame more is written

at_piece : (n : ℕ) (octets : List ℕ) → n ≡ min (length octets) 16384 → n ≡ min 16384 (length octets)
at_piece n octets e = omega arith

pub piece_is : (n : ℕ) (octets front : List ℕ) → n ≡ min (length octets) 16384 → front ≡ take n octets → front ≡ take 16384 octets
piece_is n octets front e f = f ∙ ap (λ k. take k octets) (at_piece n octets e) ∙ take_min 16384 octets

pub behind_is : (n : ℕ) (octets behind : List ℕ) → n ≡ min (length octets) 16384 → behind ≡ drop n octets → behind ≡ drop 16384 octets
behind_is n octets behind e f = f ∙ ap (λ k. drop k octets) (at_piece n octets e) ∙ drop_min 16384 octets

abbrev pub Left : ℕ → List ℕ → List ℕ → List ℕ → List ℕ → Type 0
Left stream rest into old all = (written : List ℕ) × (into ≡ old ++ written) × (written ++ spellings (continued (pieces rest) stream rest) ≡ all)

pub piece_written : (stream : ℕ) (rest front behind into new old all : List ℕ) (e : Bool) → 0 < length rest → front ≡ take 16384 rest → behind ≡ drop 16384 rest
    → e ≡ eqb (length behind) 0 → Left stream rest into old all → new ≡ into ++ spelling (Continuation stream e front) → Left stream behind new old all
piece_written stream rest front behind into new old all e some f b ended left wrote =
    let frame : Frame = Continuation stream e front in
    let cut : Continuation stream (eqb (length (drop 16384 rest)) 0) (take 16384 rest) ∷ continued (pieces (drop 16384 rest)) stream (drop 16384 rest) ≡ frame ∷ continued (pieces behind) stream behind =
    ap (λ l. Continuation stream (eqb (length l) 0) (take 16384 rest) ∷ continued (pieces l) stream l) (sym b)
    ∙ ap (λ x. Continuation stream x (take 16384 rest) ∷ continued (pieces behind) stream behind) (sym ended)
    ∙ ap (λ l. Continuation stream e l ∷ continued (pieces behind) stream behind) (sym f) in
    let all_left : left.0 ++ (spelling frame ++ spellings (continued (pieces behind) stream behind)) ≡ all =
    ap (λ fs. left.0 ++ spellings fs) (sym (continued_cons stream rest some ∙ cut)) ∙ left.2 in
    (left.0 ++ spelling frame, wrote ∙ ap (λ l. l ++ spelling frame) left.1 ∙ append_assoc old left.0 (spelling frame), append_assoc left.0 (spelling frame) (spellings (continued (pieces behind) stream behind)) ∙ all_left)

-- what was there first stays
pub kept : (old mid new more : List ℕ) → mid ≡ old ++ more → take (length mid) new ≡ mid → take (length old) new ≡ old
kept old mid new more e t =
    let whole : new ≡ old ++ (more ++ drop (length mid) new) =
    sym (take-append-drop (length mid) new) ∙ ap (λ l. l ++ drop (length mid) new) (t ∙ e) ∙ append_assoc old more (drop (length mid) new) in
    ap (take (length old)) whole ∙ take_at old (more ++ drop (length mid) new) (length old) refl

pub block_written : (stream : ℕ) (last e : Bool) (block front behind into mid new : List ℕ) → front ≡ take 16384 block → behind ≡ drop 16384 block → e ≡ eqb (length behind) 0
    → mid ≡ into ++ spelling (Headers stream last e 0 None front) → new ≡ mid ++ spellings (continued (pieces behind) stream behind)
    → new ≡ into ++ spellings (block_frames stream last block)
block_written stream last e block front behind into mid new f b ended one rest =
    let frame : Frame = Headers stream last e 0 None front in
    let cut : frame ∷ continued (pieces behind) stream behind ≡ block_frames stream last block =
    ap (λ l. Headers stream last e 0 None l ∷ continued (pieces behind) stream behind) f
    ∙ ap (λ x. Headers stream last x 0 None (take 16384 block) ∷ continued (pieces behind) stream behind) ended
    ∙ ap (λ l. Headers stream last (eqb (length l) 0) 0 None (take 16384 block) ∷ continued (pieces l) stream l) b in
    rest ∙ ap (λ l. l ++ spellings (continued (pieces behind) stream behind)) one ∙ append_assoc into (spelling frame) (spellings (continued (pieces behind) stream behind)) ∙ ap (λ fs. into ++ spellings fs) cut
