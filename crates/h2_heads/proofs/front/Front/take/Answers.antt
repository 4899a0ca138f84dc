use Rattle.std.proofs.Common.{arith, sym}
use Rattle.std.specs.Option.{option_copied}
use Rattle.h2_heads.proofs.front.Front.take.Goals as goal

pub returns-in-Pseudo : goal.returns-in-Pseudo
returns-in-Pseudo c = c.take_pseudo.ensures (option_copied c.args.length)

pub returns-in-Plain : goal.returns-in-Plain
returns-in-Plain c =
    c.take_plain.ensures c.args.message c.args.place (option_copied c.args.length) c.args.field.now (c.in-Plain.ensures c.args.field.now c.requires.told)
    (c.is_bad_told-bad_value.ensures c.args.field.now c.requires.told c.as_slice-value.ensures)
