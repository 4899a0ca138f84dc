-- The pieces stand behind the head.
use Rattle.tape_plot.proofs.Drawing.{text_drawn}
use Rattle.tape_plot.proofs.draw.draw.Goals as goal

pub returns : goal.returns
returns c =
    text_drawn c.in_ok-rows.rows.sheet.pieces.items _ _ _ _ c.args.plot.now.clock c.fit_marks.new.self.clock c.args.plot.now.limits c.fit_marks.new.self.limits c.args.lanes c.in_ok-pick.pick c.args.plot.now.levels
    c.fit_marks.new.self.levels c.in_ok-put_onto.ensures c.in_ok-push_all.ensures.ok c.fit_marks.ensures.clock c.fit_marks.ensures.limits c.fit_marks.ensures.levels c.in_ok-pick.ensures.lanes c.in_ok-pick.ensures.ranked
    c.in_ok-rows.ensures
