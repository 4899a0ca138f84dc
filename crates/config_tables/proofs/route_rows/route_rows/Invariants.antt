use Rattle.std.proofs.Common.{◌≡◌, ◌++◌, map, drop}
use Rattle.toml.specs.View.{view}
use Rattle.config_tables.specs.Reading.{route_row_faults, rows_faults, rows_of, routes_faults}
use Rattle.config_tables.specs.Tables.{route_of}
use Rattle.config_tables.proofs.route_rows.route_rows.Given as goal

-- the rows so far are read, and have no fault
abbrev pub invariant-loop-row : goal.invariant-loop-row
invariant-loop-row l = record {
  made : l.routes ++ rows_of route_of (map view (drop l.row-index l.rows)) ≡ rows_of route_of (map view l.rows);
  left : rows_faults route_row_faults route_of l.routes (map view (drop l.row-index l.rows)) ≡ routes_faults (map view l.rows);
}
