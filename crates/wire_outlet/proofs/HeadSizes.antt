-- How many octets the frames of a block take.
use Rattle.std.proofs.Common.{Bool, List, ap, arith, drop, length, refl, suc, sym, zero, ℕ, ◌*◌, ◌+◌, ◌++◌, ◌-◌, ◌/◌, ◌∙◌, ◌≡◌, ◌≤◌}
use Rattle.std.proofs.Math.Seq.{drop-append_seam}
use Rattle.std.proofs.lemmas.List.{length-drop}
use Rattle.h2_frames.specs.Blocks.{block_frames, continued, pieces}
use Rattle.wire_outlet.specs.Heads.{head_most}

continued_count : (n stream : ℕ) (octets : List ℕ) → length (continued n stream octets) ≡ n
continued_count zero stream octets = refl
continued_count (suc n) stream octets = ap suc (continued_count n stream (drop 16384 octets))

pub frame_count : (stream : ℕ) (last : Bool) (block : List ℕ) → length (block_frames stream last block) ≡ suc (((length block - 16384) + 16383) / 16384)
frame_count stream last block =
    ap suc (continued_count (pieces (drop 16384 block)) stream (drop 16384 block)) ∙ ap (λ m. suc ((m + 16383) / 16384)) (length-drop 16384 block)

-- a block of at most one octet more than its list counts
pub within_most : (len frames size : ℕ) → frames ≡ suc (((len - 16384) + 16383) / 16384) → len ≤ size + 1 → len + 9 * frames ≤ head_most size
within_most len frames size count fits = omega arith

pub greatest : (size : ℕ) → size ≤ 61440 → head_most size ≤ 61477
greatest size fits = omega arith

-- what stands behind the first nine octets
pub behind_nine : (nine block all : List ℕ) → length nine ≡ 9 → all ≡ nine ++ block → drop 9 all ≡ block
behind_nine nine block all long is = ap (drop 9) is ∙ ap (λ n. drop n (nine ++ block)) (sym long) ∙ drop-append_seam nine block
