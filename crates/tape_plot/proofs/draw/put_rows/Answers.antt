-- The frame is that of the clock.
use Rattle.std.proofs.Common.{ap, ◌∙◌}
use Rattle.tape_plot.proofs.Drawing.{levels_at}
use Rattle.tape_plot.specs.declared.draw.frame.Frame.{Frame}
use Rattle.tape_plot.proofs.draw.put_rows.Goals as goal

pub returns : goal.returns
returns c =
    let e = c.in_ok-put_events.ensures.frame ∙ c.new-rows.ensures in
    levels_at _ _ _ _ _ c.args.plot.now.limits c.args.pick.now c.args.plot.now.levels (ap (λ (v : Frame). v.first) e ∙ c.new.ensures.first) (ap (λ (v : Frame). v.end) e ∙ c.new.ensures.end) c.in_ok-put_levels.ensures
