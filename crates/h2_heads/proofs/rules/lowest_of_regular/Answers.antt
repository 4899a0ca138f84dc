use Rattle.std.proofs.Common.{sym, ◌∙◌}
use Rattle.std.specs.Option.{option_copied}
use Rattle.h2_heads.proofs.Lowest.{not_special}
use Rattle.h2_heads.proofs.rules.lowest_of_regular.Goals as goal

pub returns : goal.returns
returns c =
    let none = rw c.requires at (sym c.is_special.ensures ∙ c.if-is_special.false) in
    not_special (option_copied c.args.length) c.args.field.now none
