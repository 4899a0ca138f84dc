-- A stream begins in the order of the numbers.
use Rattle.std.proofs.Common.{arith, refl}
use Rattle.std.proofs.lemmas.Grind.{common_steps}
use Rattle.session_lines.proofs.Coursing.{begin_refused, begin_follows}
use Rattle.session_lines.proofs.courses.Courses.begin.Goals as goal

pub returns-then-stream-self : goal.returns-then-stream-self
returns-then-stream-self c = begin_refused _ c.args.stream c.requires (omega arith)

pub returns : goal.returns
returns c = begin_follows c.args.self.now _ c.args.stream c.requires (omega arith) refl (λ q. let h = c.in_ok-set.ensures.ok.0 q in grind (arith, common_steps, h))
