-- What is seen of a journal.
use Rattle.proxy_sockets.specs.declared.journal.FileJournal.{FileJournal}
use Rattle.program_ports.specs.Outside.{write_faults}
use Rattle.std.specs.Prelude.{ℕ}
use Rattle.proxy_sockets.specs.declared.journal.FileJournal.TheVariants as journal

module _ {X : Type 0} where
  -- one that isn't kept never fails
  abbrev pub journal_faults : FileJournal X → ℕ
  journal_faults (journal.File output) = write_faults output
  journal_faults journal.None = 0
