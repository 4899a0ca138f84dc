-- A line with the one name that it may have.
use Rattle.tape_plot.proofs.Lining.{reads_note}
use Rattle.tape_plot.proofs.tape.read_note_line.Goals as goal

pub returns : goal.returns
returns c = reads_note c.args.line.now _ c.read_note.result c.known.ensures c.read_note.ensures.some c.read_note.ensures.none
