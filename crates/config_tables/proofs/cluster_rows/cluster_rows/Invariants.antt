use Rattle.std.proofs.Common.{◌≡◌, ◌++◌, map, drop}
use Rattle.toml.specs.View.{view}
use Rattle.config_tables.specs.Reading.{cluster_row_faults, rows_faults, rows_of, clusters_faults}
use Rattle.config_tables.specs.Tables.{cluster_of}
use Rattle.config_tables.proofs.cluster_rows.cluster_rows.Given as goal

-- the rows so far are read, and have no fault
abbrev pub invariant-loop-row : goal.invariant-loop-row
invariant-loop-row l = record {
  made : l.clusters ++ rows_of cluster_of (map view (drop l.row-index l.rows)) ≡ rows_of cluster_of (map view l.rows);
  left : rows_faults cluster_row_faults cluster_of l.clusters (map view (drop l.row-index l.rows)) ≡ clusters_faults (map view l.rows);
}
