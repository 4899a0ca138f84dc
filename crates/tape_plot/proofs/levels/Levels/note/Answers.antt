-- By what the note is told of.
use Rattle.std.proofs.Common.{refl, sym}
use Rattle.tape_plot.proofs.Mapping.{levels_connected, levels_still}
use Rattle.tape_plot.proofs.Passing.{when_ok}
use Rattle.tape_plot.proofs.levels.Levels.note.Goals as goal

pub returns-in-Connection : goal.returns-in-Connection
returns-in-Connection c =
    when_ok _ _ c.note-in-Connection.result (λ g. levels_connected c.args.self.now _ c.args.note.now c.in-Connection.conn c.args.clock.now (sym c.in-Connection.ensures) refl g) c.note-in-Connection.ensures

pub returns-in-Nothing : goal.returns-in-Nothing
returns-in-Nothing c = levels_still c.args.self.now c.args.note.now c.args.clock.now (sym c.in-Nothing.ensures)
