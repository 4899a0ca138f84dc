use Rattle.std.proofs.Common.{arith, w16, w32, w64, ◌∙◌}
use Rattle.hpack_codec.proofs.SameEnds.{same_by_first, same_by_words, same_never}
use Rattle.hpack_codec.proofs.words.is_same.Goals as goal

pub returns-then-len-others : goal.returns-then-len-others
returns-then-len-others c = same_never c.args.octets.now c.args.others.now c.if-len-others.true

pub returns-then-len-ge8 : goal.returns-then-len-ge8
returns-then-len-ge8 c =
    let mine = c.ends_of_8 in
    let others = c.ends_of_8-then-len-ge8 in
    c.eq-then-len-ge8.ensures
    ∙ same_by_words 8 w64 c.args.octets.now c.args.others.now mine.result.0 others.result.0 mine.result.1 others.result.1 c.if-len-others.false (omega arith) (omega arith)
    mine.ensures.first others.ensures.first mine.ensures.last others.ensures.last

pub returns-then-len-ge4 : goal.returns-then-len-ge4
returns-then-len-ge4 c =
    let mine = c.ends_of_4 in
    let others = c.ends_of_4-then-len-ge4 in
    c.eq-then-len-ge4.ensures
    ∙ same_by_words 4 w32 c.args.octets.now c.args.others.now mine.result.0 others.result.0 mine.result.1 others.result.1 c.if-len-others.false (omega arith) (omega arith)
    mine.ensures.first others.ensures.first mine.ensures.last others.ensures.last

pub returns-then-len-ge2 : goal.returns-then-len-ge2
returns-then-len-ge2 c =
    let mine = c.ends_of_2 in
    let others = c.ends_of_2-then-len-ge2 in
    c.eq-then-len-ge2.ensures
    ∙ same_by_words 2 w16 c.args.octets.now c.args.others.now mine.result.0 others.result.0 mine.result.1 others.result.1 c.if-len-others.false (omega arith) (omega arith)
    mine.ensures.first others.ensures.first mine.ensures.last others.ensures.last

pub returns-else-len-ge2 : goal.returns-else-len-ge2
returns-else-len-ge2 c =
    c.eq-else-len-ge2.ensures
    ∙ same_by_first c.args.octets.now c.args.others.now _ _ c.if-len-others.false (omega arith) c.first.ensures.value c.first-else-len-ge2.ensures.value
