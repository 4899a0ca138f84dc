use Rattle.config_tables.proofs.tables.check_timeouts.Goals as goal

pub returns : goal.returns
returns c =
    rw (c.stream_idle_min-stream_idle_min.ensures, c.number.ensures, c.connection_idle_min-connection_idle_min.ensures, c.number-2.ensures) at c.check_all.ensures
