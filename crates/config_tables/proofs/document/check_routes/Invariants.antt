use Rattle.std.proofs.Common.{◌≡◌, drop}
use Rattle.config_tables.specs.Reading.{stray_faults}
use Rattle.config_tables.proofs.document.check_routes.Given as goal

-- the clusters of the routes so far are there
abbrev pub invariant-loop-number : goal.invariant-loop-number
invariant-loop-number l = stray_faults l.clusters l.number (drop l.number l.routes) ≡ stray_faults l.clusters 0 l.routes
