-- The line is a piece of its own.
use Rattle.tape_plot.proofs.Drawing.{line_pushed}
use Rattle.tape_plot.proofs.Passing.{when_ok}
use Rattle.tape_plot.specs.Path.{path_text}
use Rattle.tape_plot.proofs.draw.rows.Rows.put_line.Goals as goal

pub returns-clause-put : goal.returns-clause-put
returns-clause-put c =
    let line = path_text c.args.scene.now c.args.lane.now.base c.args.lane.now.points.items in
    when_ok _ _ c.push.result (line_pushed c.push.new.self.pieces.items c.piece-text.result c.put_path.new.into line c.piece-text.ensures c.in_ok-put_path.ensures) c.push.ensures.put
