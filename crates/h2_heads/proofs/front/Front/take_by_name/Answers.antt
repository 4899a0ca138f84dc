use Rattle.std.proofs.Common.{sym, ◌∙◌}
use Rattle.std.specs.Option.{option_copied}
use Rattle.h2_heads.proofs.front.Front.take_by_name.Goals as goal

pub take_regular-requires-clause-regular : goal.take_regular-requires-clause-regular
take_regular-requires-clause-regular c = rw c.requires.name at (sym c.is_pseudo.ensures ∙ c.if-not-is_pseudo.true)

pub returns-then-not-is_pseudo : goal.returns-then-not-is_pseudo
returns-then-not-is_pseudo c = c.take_regular.ensures c.args.message

pub take_pseudo-requires-clause-name : goal.take_pseudo-requires-clause-name
take_pseudo-requires-clause-name c = rw c.requires.name at (sym c.pseudo_of.ensures ∙ c.in-Some.is)

pub returns-in-Some : goal.returns-in-Some
returns-in-Some c = c.take_pseudo.ensures (option_copied c.args.length)

pub fault_of_unknown-requires-clause-pseudo : goal.fault_of_unknown-requires-clause-pseudo
fault_of_unknown-requires-clause-pseudo c = rw c.requires.name at (sym c.is_pseudo.ensures ∙ c.if-not-is_pseudo.false)

pub fault_of_unknown-requires-clause-unknown : goal.fault_of_unknown-requires-clause-unknown
fault_of_unknown-requires-clause-unknown c = rw c.requires.name at (sym c.pseudo_of.ensures ∙ c.in_default.is)

pub returns : goal.returns
returns c = (c.fault_of_unknown.ensures c.args.message (option_copied c.args.length), tt)
