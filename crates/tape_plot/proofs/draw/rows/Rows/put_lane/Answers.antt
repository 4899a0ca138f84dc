-- The line of the lane is one of the pieces.
use Rattle.std.proofs.Common.{ap, ℕ, ◌∙◌}
use Rattle.std.specs.List.{Contains}
use Rattle.tape_plot.proofs.Drawing.{grows_more, line_put}
use Rattle.tape_plot.specs.Lanes.{drawn_of, most_of}
use Rattle.tape_plot.specs.Limits.{known}
use Rattle.tape_plot.specs.Path.{path_text}
use Rattle.tape_plot.specs.Scale.{top_of}
use Rattle.tape_plot.proofs.draw.rows.Rows.put_lane.Goals as goal

pub returns : goal.returns
returns c =
    let s = c.new-scene.result in
    let d = c.args.lane.now in record {
      grows = grows_more _ _ _ (grows_more _ _ _ c.in_ok-put_head.ensures c.in_ok-put_line.ensures.grows) c.in_ok-put_tail.ensures;
      drawn = line_put (Contains c.put_tail.new.self.sheet.pieces.items) _ _ (known c.args.limit) s (drawn_of d) c.new-scene.ensures.columns (c.new-scene.ensures.top ∙ ap (λ (v : ℕ). top_of v (most_of d.base d.points.items)) c.known.ensures)
          (c.in_ok-put_tail.ensures.keeps (path_text s d.base d.points.items) c.in_ok-put_line.ensures.put);
    }
