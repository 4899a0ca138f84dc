-- What is seen of the program's own reader and writer.
use Rattle.program_ports.specs.declared.outside.Input.{Input}
use Rattle.program_ports.specs.declared.outside.Output.{Output}
use Rattle.std.specs.Prelude.{ℕ}

module _ {X : Type 0} where
  abbrev pub reader_of : Input X → X
  reader_of input = input.reader

  abbrev pub read_faults : Input X → ℕ
  read_faults input = input.errors

  abbrev pub writer_of : Output X → X
  writer_of output = output.writer

  abbrev pub write_faults : Output X → ℕ
  write_faults output = output.errors
