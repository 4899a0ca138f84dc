-- What the core of a rig is between two events.
use Rattle.std.specs.Prelude.{false, ◌≡◌}
use Rattle.worker_core.specs.Sessions.{RestsWire, has_failed}
use Rattle.worker_core.specs.declared.worker.Kind.{Kind}

-- it is of wire sessions and at rest, or it ran out of memory
abbrev pub IsFit : Kind → Type 0
IsFit k = has_failed k ≡ false → RestsWire k
