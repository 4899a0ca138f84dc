use Rattle.config_tables.proofs.Faults.{checks_rest}
use Rattle.config_tables.proofs.tables.read_overload.Goals as goal

pub returns-clause-faults : goal.returns-clause-faults
returns-clause-faults c =
    let opened = rw c.requires at c.in_ok-overload.ensures.faults in
    let rest = rw (c.in_ok-overload.ensures.place, c.in_ok-overload.ensures.table) at c.overload_in.ensures.faults in
    checks_rest _ _ c.overload_in.result opened rest

pub returns-clause-value : goal.returns-clause-value
returns-clause-value c = rw (c.in_ok-overload.ensures.table) at c.overload_in.ensures.value
