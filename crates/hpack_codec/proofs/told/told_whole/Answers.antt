use Rattle.std.proofs.Common.{◌+◌, ◌-◌, ◌∙◌, ◌<◌, ◌≡◌, ◌≤◌, sym, arith, ℕ}
use Rattle.hpack_codec.proofs.StaticRows.{static_at}
use Rattle.hpack_codec.proofs.ToldFields.{some_index, told_by_whole}
use Rattle.hpack_codec.proofs.told.told_whole.Goals as goal

pub returns-then-index-le-STATIC_LEN : goal.returns-then-index-le-STATIC_LEN
returns-then-index-le-STATIC_LEN c = λ t l found.
    let i = c.args.index in
    let some : 0 < i = some_index t i l found in
    let least : i ≤ 61 = omega (arith, c.if-index-le-STATIC_LEN.true) in
    told_by_whole i l some least (sym (static_at t i some least) ∙ found)
