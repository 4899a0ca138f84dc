use Rattle.std.proofs.Common.{ap, ◌∙◌, ◌++◌}
use Rattle.post_queue.specs.Pass.{view}
use Rattle.post_queue.proofs.Ended.{accounted}
use Rattle.post_queue.proofs.post_box.PostBox.close.Goals as goal

pub returns : goal.returns
returns g c =
    accounted (view c.end_all.new.runner) (view c.take_all.new.runner) _ _ c.end_all.ensures.known c.take_all.ensures.ran.1 c.take_all.ensures.whole
    (c.take_all.ensures.ran.0 ∙ ap (λ l. l ++ c.take_all.new.rest.items) c.end_all.ensures.runner.2)
