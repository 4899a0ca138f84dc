-- What workers are to do.
use Rattle.proxy_config.specs.Ranges.{IsInRange}
use Rattle.config_tables.specs.Reading.{config_of}
use Rattle.proxy_wire.specs.declared.pool.Task.{Task}
use Rattle.std.specs.Prelude.{Ok, length, ◌<◌, ◌^◌, ◌≡◌}

-- the configuration is in its ranges and is that of the text, which is short enough for a core
pub record IsTask (task : Task) : Type 0 where
  pub in_range : IsInRange task.config.now
  pub is : config_of task.text.now ≡ Ok task.config.now
  pub short : length task.text.now < 2 ^ 32
