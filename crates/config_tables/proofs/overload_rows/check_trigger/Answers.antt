use Rattle.std.proofs.Common.{◌≡◌, ◌∙◌, sym, true, false}
use Rattle.config_tables.specs.Answers.{members_of}
use Rattle.config_tables.specs.Tables.{is_scaled}
use Rattle.config_tables.proofs.overload_rows.check_trigger.Goals as goal

pub returns-then-is_scaled : goal.returns-then-is_scaled
returns-then-is_scaled c =
    let scaled : is_scaled (members_of c.args.row.now.table) ≡ true = sym c.is_scaled.ensures ∙ c.if-is_scaled.true in
    rw scaled (rw (c.resource-resource.ensures, c.saturation-saturation.ensures, c.number.ensures) at c.check_all.ensures)

pub returns-else-is_scaled : goal.returns-else-is_scaled
returns-else-is_scaled c =
    let plain : is_scaled (members_of c.args.row.now.table) ≡ false = sym c.is_scaled.ensures ∙ c.if-is_scaled.false in
    rw plain (rw c.resource-resource.ensures at c.check_all-else-is_scaled.ensures)
