-- The octets of the end of a line.
use Rattle.tape_summary.specs.declared.line_end.LineEnd.{LineEnd}
use Rattle.std.specs.Prelude.{List, drop, ℕ}

abbrev pub text_of : LineEnd → List ℕ
text_of line = drop line.start line.text
