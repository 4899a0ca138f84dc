use Rattle.post_queue.proofs.Steps.{begins}
use Rattle.post_queue.proofs.post_box.PostBox.new.Goals as goal

pub with_rule-requires : goal.with_rule-requires
with_rule-requires c = begins
