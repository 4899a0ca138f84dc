-- What is held of a source: it was read and isn't consumed yet.
use Rattle.session_run.specs.declared.lines.Lines.{Lines}
use Rattle.std.specs.Prelude.{List, drop, take, ℕ, ◌-◌}

abbrev pub held_of : Lines → List ℕ
held_of l = take (l.end - l.start) (drop l.start l.octets.items)
