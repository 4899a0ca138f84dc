use Rattle.std.proofs.Common.{◌∙◌, arith, sym}
use Rattle.std.proofs.lemmas.Bool.{lt-leb}
use Rattle.h2_heads.proofs.ToldNames.{told_good}
use Rattle.h2_heads.proofs.told.is_bad_told.Goals as goal

pub returns-else-told-le128 : goal.returns-else-told-le128
returns-else-told-le128 c = λ field told same.
    lt-leb c.args.told 128 c.if-told-le128.false ∙ sym (told_good c.args.told field told c.if-told-le128.false)
