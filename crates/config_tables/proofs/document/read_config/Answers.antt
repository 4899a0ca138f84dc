use Rattle.toml.specs.View.{table_view}
use Rattle.config_tables.proofs.InRange.{result_in_range}
use Rattle.config_tables.proofs.document.read_config.Goals as goal

pub returns-clause-in_range : goal.returns-clause-in_range
returns-clause-in_range c = result_in_range (table_view c.in_ok-table.table) c.read_table.result c.read_table.ensures.faults c.read_table.ensures.value
