-- What is seen of a reader or a writer of the standard library with its count of faults.
use Rattle.std.specs.Prelude.{ℕ}
use Rattle.io_ports.specs.declared.standard.StdSource.{StdSource}
use Rattle.io_ports.specs.declared.standard.StdSink.{StdSink}

module _ {X : Type 0} where
  abbrev pub reader_of : StdSource X → X
  reader_of source = source.reader

  abbrev pub read_faults : StdSource X → ℕ
  read_faults source = source.errors

  abbrev pub writer_of : StdSink X → X
  writer_of sink = sink.writer

  abbrev pub write_faults : StdSink X → ℕ
  write_faults sink = sink.errors
