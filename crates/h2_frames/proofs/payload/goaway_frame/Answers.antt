use Rattle.std.proofs.Common.{List, ℕ, ◌++◌, ap, ◌∙◌, arith, refl}
use Rattle.h2_frames.specs.Head.{word}
use Rattle.h2_frames.proofs.payload.goaway_frame.Goals as goal

pub returns : goal.returns
returns c =
    let last = c.word_at-last.ensures in
    let bit = c.word_at-last.result.0 in
    let number = c.word_at-last.result.1 in
    let whole = last.octets ∙ ap (λ (l : List ℕ). word bit number ++ l) c.number_at-code.ensures in
    (c.requires.kind, c.requires.stream, (word bit number, (bit, refl, last.number), whole), omega arith)
