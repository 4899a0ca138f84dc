-- The line of a lane in the picture.
use Rattle.std.specs.Fmt.{decimal}
use Rattle.std.specs.Prelude.{List, [], codes, min, ℕ, ◌++◌, ◌+◌, ◌-◌, ◌^◌, ◌∷◌}
use Rattle.tape_plot.specs.Scale.{column_x, height_of}
use Rattle.tape_plot.specs.declared.draw.line.Scene.{Scene}
use Rattle.tape_plot.specs.declared.lane.Point.{Point}

-- where level 0 stands, from above, and where another does
abbrev pub bottom_y : Scene → ℕ
bottom_y scene = min (scene.y + 40) (2 ^ 64 - 1)

abbrev pub level_y : Scene → ℕ → ℕ
level_y scene level = bottom_y scene - height_of level scene.top

-- in a column in which the level changed the line goes to the least, the greatest and the last that it changed to
abbrev pub point_text : Scene → Point → List ℕ
point_text scene p =
    (codes "H" ++ decimal (column_x scene.frame.columns p.column)) ++ ((codes "V" ++ decimal (level_y scene p.low))
    ++ ((codes " " ++ decimal (level_y scene p.high)) ++ (codes " " ++ decimal (level_y scene p.last))))

abbrev pub points_text : Scene → List Point → List ℕ
points_text scene [] = []
points_text scene (p ∷ ps) = point_text scene p ++ points_text scene ps

-- from the level before the first column, column by column, to the end of the last, and down to 0
abbrev pub path_text : Scene → ℕ → List Point → List ℕ
path_text scene base ps =
    (codes "<path class=\"l\" d=\"M" ++ decimal 190) ++ ((codes " " ++ decimal (bottom_y scene)) ++ ((codes "V" ++ decimal (level_y scene base))
    ++ (points_text scene ps ++ ((codes "H" ++ decimal 1150) ++ ((codes "V" ++ decimal (bottom_y scene)) ++ codes "\"/>\n")))))
