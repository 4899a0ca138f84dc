-- A gauge in memory.
use Rattle.std.specs.Prelude.{List, Option, ℕ}
use Rattle.worker_ports.specs.declared.ports.Reading.{Reading}

-- the pressure of each resource, the readings and the faults so far, the numbers of the readings that are to fail, and what is told of
-- the readings
pub record GaugeMemory : Type 0 where
  pub pressures : List ℕ
  pub calls : ℕ
  pub failing : List ℕ
  pub faults : ℕ
  pub told : Option (List Reading)
