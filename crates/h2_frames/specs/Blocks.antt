-- A field block in frames: HEADERS, and CONTINUATION where it is long (RFC 9113 sections 4.3, 6.2 and 6.10).
use Rattle.h2_frames.specs.Frame.{Continuation, Frame, Headers}
use Rattle.h2_frames.specs.Spelling.{spelling}
use Rattle.std.specs.List.{flat_map}
use Rattle.std.specs.Prelude.{Bool, List, None, [], drop, length, suc, take, zero, ℕ, ◌+◌, ◌/◌, ◌==◌, ◌∷◌}

-- the frames, one after another, as they are written
abbrev pub spellings : List Frame → List ℕ
spellings frames = flat_map spelling frames

-- how many pieces of 16,384 octets, which every peer takes (section 4.2), and a rest there are
abbrev pub pieces : List ℕ → ℕ
pieces octets = (length octets + 16383) / 16384

-- so many pieces in CONTINUATION frames, and END_HEADERS on the last
abbrev pub continued : ℕ → ℕ → List ℕ → List Frame
continued zero stream octets = []
continued (suc more) stream octets =
    Continuation stream (more == 0) (take 16384 octets) ∷ continued more stream (drop 16384 octets)

-- the first piece in HEADERS, and the others behind it
abbrev pub block_frames : ℕ → Bool → List ℕ → List Frame
block_frames stream last block =
    let rest = drop 16384 block in
    Headers stream last (length rest == 0) 0 None (take 16384 block) ∷ continued (pieces rest) stream rest
