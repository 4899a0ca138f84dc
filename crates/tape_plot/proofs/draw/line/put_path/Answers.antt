-- The pieces of a path stand behind one another.
use Rattle.std.proofs.Common.{List, ap, ◌++◌, ◌∙◌}
use Rattle.std.specs.Fmt.{decimal}
use Rattle.std.specs.Prelude.{codes}
use Rattle.tape_plot.proofs.Pathing.{last_of_seven, with_number}
use Rattle.tape_plot.specs.Path.{bottom_y, level_y, points_text}
use Rattle.tape_plot.specs.declared.lane.Point.{Point}
use Rattle.tape_plot.proofs.draw.line.put_path.Goals as goal

pub returns : goal.returns
returns c =
    let s = c.args.scene.now in
    let d = c.args.lane.now in
    last_of_seven c.args.into.now c.put_behind.new.into c.put_behind-2.new.into c.put_behind-3.new.into c.put_points.new.into c.put_behind-4.new.into c.put_behind-5.new.into c.push_all.new.self
    (codes "<path class=\"l\" d=\"M" ++ decimal 190) (codes " " ++ decimal (bottom_y s)) (codes "V" ++ decimal (level_y s d.base)) (points_text s d.points.items)
    (codes "H" ++ decimal 1150) (codes "V" ++ decimal (bottom_y s)) (codes "\"/>\n")
    c.push_all.result
    c.in_ok-put_behind.ensures.ok
    (with_number c.put_behind.new.into c.put_behind-2.new.into (codes " ") c.bottom.result _ c.in_ok-put_behind-2.ensures.ok c.bottom.ensures)
    (with_number c.put_behind-2.new.into c.put_behind-3.new.into (codes "V") c.level.result _ c.in_ok-put_behind-3.ensures.ok (c.level.ensures ∙ ap (level_y s) c.base.ensures))
    (c.in_ok-put_points.ensures ∙ ap (λ (v : List Point). c.put_behind-3.new.into ++ points_text s v) c.points.ensures)
    c.in_ok-put_behind-4.ensures.ok
    (with_number c.put_behind-4.new.into c.put_behind-5.new.into (codes "V") c.bottom-2.result _ c.in_ok-put_behind-5.ensures.ok c.bottom-2.ensures)
    c.push_all.ensures.ok
