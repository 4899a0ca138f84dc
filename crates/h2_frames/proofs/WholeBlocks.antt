-- A block that fits into one frame.
use Rattle.std.proofs.Common.{Bool, List, None, [], ap, arith, drop, eqb, false, length, refl, sym, take, true, ℕ, ◌+◌, ◌++◌, ◌∙◌, ◌∷◌, ◌≡◌, ◌≤◌}
use Rattle.std.proofs.lemmas.List.{append-nil, drop_all, take_all}
use Rattle.h2_frames.specs.Blocks.{block_frames, continued, pieces, spellings}
use Rattle.h2_frames.specs.Frame.{Headers}
use Rattle.h2_frames.specs.Head.{frame_head}
use Rattle.h2_frames.specs.Spelling.{flag_when, spelling}

flags_are : (last : Bool) → flag_when 0x1 last + 0x4 ≡ flag_when 0x1 last + flag_when 0x4 true + flag_when 0x20 false
flags_are true = refl
flags_are false = refl

-- the one frame of a whole block
one : (stream : ℕ) (last : Bool) (block : List ℕ) → frame_head (length block) 1 (flag_when 0x1 last + 0x4) stream ++ block ≡ spelling (Headers stream last true 0 None block)
one stream last block = ap (λ flags. frame_head (length block) 1 flags stream ++ block) (flags_are last)

pub whole_block : (stream n : ℕ) (last : Bool) (block : List ℕ) → n ≤ 16384 → length block ≡ n → frame_head n 1 (flag_when 0x1 last + 0x4) stream ++ block ≡ spellings (block_frames stream last block)
whole_block stream n last block few long =
    let none : drop 16384 block ≡ [] = drop_all 16384 block (omega (arith, long, few)) in
    let all : take 16384 block ≡ block = take_all 16384 block (omega (arith, long, few)) in
    ap (λ k. frame_head k 1 (flag_when 0x1 last + 0x4) stream ++ block) (sym long)
    ∙ one stream last block
    ∙ sym (append-nil (spelling (Headers stream last true 0 None block)))
    ∙ ap (λ rest. spellings (Headers stream last (eqb (length rest) 0) 0 None block ∷ continued (pieces rest) stream rest)) (sym none)
    ∙ ap (λ front. spellings (Headers stream last (eqb (length (drop 16384 block)) 0) 0 None front ∷ continued (pieces (drop 16384 block)) stream (drop 16384 block))) (sym all)
