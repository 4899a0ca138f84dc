-- How what a turn tells of a timer is read.
use Rattle.scaled_timer.specs.declared.fired.Fired.{Fired}
use Rattle.wire_timers.specs.declared.due.Due.{Due}
use Rattle.wire_timers.specs.Kinds.{kind_of}

abbrev pub told_of : Fired → Due
told_of f = record { kind = kind_of f.kind; id = f.id }
