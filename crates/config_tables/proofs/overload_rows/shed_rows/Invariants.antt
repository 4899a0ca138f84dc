use Rattle.std.proofs.Common.{◌≡◌, ◌++◌, map, drop}
use Rattle.toml.specs.View.{view}
use Rattle.config_tables.specs.Reading.{shed_row_faults, rows_faults, rows_of, shed_faults}
use Rattle.config_tables.specs.Tables.{shed_row_of}
use Rattle.config_tables.proofs.overload_rows.shed_rows.Given as goal

-- the rows so far are read, and have no fault
abbrev pub invariant-loop-row : goal.invariant-loop-row
invariant-loop-row l = record {
  made : l.shed ++ rows_of (shed_row_of l.names) (map view (drop l.row-index l.rows)) ≡ rows_of (shed_row_of l.names) (map view l.rows);
  left : rows_faults (shed_row_faults l.names) (shed_row_of l.names) l.shed (map view (drop l.row-index l.rows)) ≡ shed_faults l.names (map view l.rows);
}
