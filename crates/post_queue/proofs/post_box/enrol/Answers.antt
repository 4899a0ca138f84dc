use Rattle.std.proofs.Common.{ap, ◌∙◌, refl}
use Rattle.post_queue.specs.declared.hand.Hand.{Hand}
use Rattle.post_queue.proofs.Steps.{enrols}
use Rattle.post_queue.proofs.post_box.enrol.Goals as goal

pub another-pass-requires-clause-rule : goal.another-pass-requires-clause-rule
another-pass-requires-clause-rule c = let is = c.requires.view in enrols _ _ (ap (λ (v : Hand). v.runs) is) (ap (λ (v : Hand). v.known) is)
