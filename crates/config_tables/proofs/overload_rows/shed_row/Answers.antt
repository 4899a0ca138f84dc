use Rattle.std.proofs.Common.{◌≡◌, ◌≢◌, ◌∙◌, ℕ, List, [], Some, subst}
use Rattle.std.proofs.lemmas.Result.{err_from_is_err_and}
use Rattle.toml.specs.View.{table_view}
use Rattle.config_tables.specs.Answers.{first}
use Rattle.config_tables.specs.Keys.{table_faults}
use Rattle.config_tables.specs.Tables.{shed_keys}
use Rattle.config_tables.specs.declared.fault.ConfigFault.TheVariants.{NoMemory}
use Rattle.config_tables.proofs.overload_rows.shed_row.Goals as goal

pub returns-in_err-check_shed_row-clause-faults : goal.returns-in_err-check_shed_row-clause-faults
returns-in_err-check_shed_row-clause-faults c =
    let p = err_from_is_err_and c.from_residual-in_err-check_shed_row.result c.from_residual-in_err-check_shed_row.ensures.1 in
    let ms = table_view c.in_ok-table.table.now in
    let fault = c.in_err-check_shed_row.field-0.0 in
    let told : List ℕ → Type 0 = λ place. fault ≢ NoMemory → first (table_faults place ms (shed_keys c.args.names.now ms)) ≡ Some fault in
    rw (p.1, p.2, c.in_ok-table.ensures.table) (subst told (c.as_str.ensures.value ∙ c.in_ok-place.ensures) c.in_err-check_shed_row.ensures)

pub returns-clause-faults : goal.returns-clause-faults
returns-clause-faults c =
    let ms = table_view c.in_ok-table.table.now in
    let told : List ℕ → Type 0 = λ place. table_faults place ms (shed_keys c.args.names.now ms) ≡ [] in
    rw c.in_ok-table.ensures.table (subst told (c.as_str.ensures.value ∙ c.in_ok-place.ensures) c.in_ok-check_shed_row.ensures)
