use Rattle.std.proofs.Common.{◌<◌, ◌≤◌, ◌-◌, length}
use Rattle.std.specs.Io.KnownBytes.{Consumes}
use Rattle.session_config.proofs.load.load_text.Given as goal

abbrev pub invariant-loop-text : goal.invariant-loop-text
invariant-loop-text g l = record {
  consumed : Consumes (g.C.Source.left l.fn.source) (g.C.Source.left l.source) l.text;
  short : length l.text ≤ 1048576;
  room : 0 < length l.piece.items;
  no_fall : g.C.Source.faults l.fn.source ≤ g.C.Source.faults l.source;
}

abbrev pub decreases-loop-text : goal.decreases-loop-text
decreases-loop-text g l = 1048576 - length l.text
