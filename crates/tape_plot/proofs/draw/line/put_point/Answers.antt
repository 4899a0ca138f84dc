-- Four pieces stand behind one another.
use Rattle.std.proofs.Common.{◌++◌}
use Rattle.std.specs.Fmt.{decimal}
use Rattle.std.specs.Prelude.{codes}
use Rattle.tape_plot.proofs.Pathing.{ends_with_number, last_of_four, with_number}
use Rattle.tape_plot.specs.Path.{level_y}
use Rattle.tape_plot.specs.Scale.{column_x}
use Rattle.tape_plot.proofs.draw.line.put_point.Goals as goal

pub returns : goal.returns
returns c =
    let s = c.args.scene.now in
    let p = c.args.point in
    last_of_four c.args.into.now c.put_behind.new.into c.put_behind-2.new.into c.put_behind-3.new.into c.put_behind-4.new.into
    (codes "H" ++ decimal (column_x s.frame.columns p.column)) (codes "V" ++ decimal (level_y s p.low)) (codes " " ++ decimal (level_y s p.high)) (codes " " ++ decimal (level_y s p.last))
    c.put_behind-4.result
    (with_number c.args.into.now c.put_behind.new.into (codes "H") c.x.result _ c.in_ok-put_behind.ensures.ok c.x.ensures)
    (with_number c.put_behind.new.into c.put_behind-2.new.into (codes "V") c.level.result _ c.in_ok-put_behind-2.ensures.ok c.level.ensures)
    (with_number c.put_behind-2.new.into c.put_behind-3.new.into (codes " ") c.level-2.result _ c.in_ok-put_behind-3.ensures.ok c.level-2.ensures)
    (ends_with_number c.put_behind-3.new.into c.put_behind-4.new.into (codes " ") c.level-3.result _ c.put_behind-4.result c.put_behind-4.ensures.ok c.level-3.ensures)
