use Rattle.std.proofs.Common.{◌≡◌, ◌++◌, map, drop}
use Rattle.toml.specs.View.{view}
use Rattle.config_tables.specs.Reading.{trigger_row_faults, rows_faults, rows_of, triggers_faults}
use Rattle.config_tables.specs.Tables.{trigger_of}
use Rattle.config_tables.proofs.overload_rows.trigger_rows.Given as goal

-- the rows so far are read, and have no fault
abbrev pub invariant-loop-row : goal.invariant-loop-row
invariant-loop-row l = record {
  made : l.triggers ++ rows_of (trigger_of l.names) (map view (drop l.row-index l.rows)) ≡ rows_of (trigger_of l.names) (map view l.rows);
  left : rows_faults (trigger_row_faults l.names) (trigger_of l.names) l.triggers (map view (drop l.row-index l.rows)) ≡ triggers_faults l.names (map view l.rows);
}
