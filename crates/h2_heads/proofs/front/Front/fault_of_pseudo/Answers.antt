use Rattle.std.proofs.Common.{false, sym, true, ◌∙◌}
use Rattle.h2_heads.specs.Pseudos.{field_of}
use Rattle.h2_heads.proofs.Fronts.{late_told, repeated_told, unknown_told, value_told}
use Rattle.h2_heads.proofs.front.Front.fault_of_pseudo.Goals as goal

pub returns-then-self-clause-tells : goal.returns-then-self-clause-tells
returns-then-self-clause-tells c = late_told c.args.message c.args.self.now (field_of c.args.pseudo c.args.value.now) c.if-self.true

pub returns-then-not-knows-clause-tells : goal.returns-then-not-knows-clause-tells
returns-then-not-knows-clause-tells c =
    unknown_told c.args.message c.args.self.now (field_of c.args.pseudo c.args.value.now) c.if-self.false (sym c.knows.ensures ∙ c.if-not-knows.true)

pub returns-then-has-clause-tells : goal.returns-then-has-clause-tells
returns-then-has-clause-tells c =
    repeated_told c.args.message c.args.self.now c.args.pseudo c.args.value.now c.if-self.false (sym c.knows.ensures ∙ c.if-not-knows.false) (sym c.has.ensures ∙ c.if-has.true)

pub returns-then-is_bad_of-clause-tells : goal.returns-then-is_bad_of-clause-tells
returns-then-is_bad_of-clause-tells c =
    value_told c.args.message c.args.self.now c.args.pseudo c.args.value.now true c.if-self.false (sym c.knows.ensures ∙ c.if-not-knows.false) (sym c.has.ensures ∙ c.if-has.false) (sym c.is_bad_of.ensures ∙ c.if-is_bad_of.true)

pub returns-clause-tells : goal.returns-clause-tells
returns-clause-tells c =
    value_told c.args.message c.args.self.now c.args.pseudo c.args.value.now false c.if-self.false (sym c.knows.ensures ∙ c.if-not-knows.false) (sym c.has.ensures ∙ c.if-has.false) (sym c.is_bad_of.ensures ∙ c.if-is_bad_of.false)

pub returns-then-self-clause-fresh : goal.returns-then-self-clause-fresh
returns-then-self-clause-fresh c none = cc

pub returns-then-not-knows-clause-fresh : goal.returns-then-not-knows-clause-fresh
returns-then-not-knows-clause-fresh c none = cc

pub returns-then-has-clause-fresh : goal.returns-then-has-clause-fresh
returns-then-has-clause-fresh c none = cc

pub returns-then-is_bad_of-clause-fresh : goal.returns-then-is_bad_of-clause-fresh
returns-then-is_bad_of-clause-fresh c none = cc

pub returns-clause-fresh : goal.returns-clause-fresh
returns-clause-fresh c none = sym c.has.ensures ∙ c.if-has.false
