use Rattle.config_tables.proofs.overload_rows.read_triggers.Goals as goal

pub returns-clause-faults : goal.returns-clause-faults
returns-clause-faults c = rw (c.as_slice.ensures.rows, c.list.ensures) at c.trigger_rows.ensures.faults
